-- Characters: spelled and read.
use Rattle.std.proofs.Common.{◌≡◌, ℕ, ◌%◌, ◌^◌, ◌<◌, ◌≤◌, inl, inr, Bool, true, false, cond, eqb, ltb, List, [], ◌∷◌, ◌++◌, length, get_or, Option, Some, None, Result, Ok, Err, refl, sym, ap, ◌∙◌, subst, arith}
use Rattle.std.proofs.lemmas.Bool.{and_parts, eq-eqb, eqb-true, le-ltb, lt-ltb, ltb-true}
use Rattle.exi_bits.specs.declared.align.Align.{Align}
use Rattle.exi_bits.specs.declared.align.Align.TheVariants as align
use Rattle.exi_bits.specs.declared.fault.Fault.{Fault}
use Rattle.exi_bits.specs.declared.fault.Kind.TheVariants as kind
use Rattle.exi_bits.specs.Bits.{Spot, IsAligned, IsBytes, bits, moved, number, rest, taken}
use Rattle.exi_bits.specs.Repeat.{Reader, times}
use Rattle.exi_bits.specs.Unsigned.{◌>>=◌, field_at, shortest, unsigned_at}
use Rattle.exi_bits.proofs.BitLaws.{pow_up}
use Rattle.exi_bits.proofs.UnsignedLaws.{shortest_spelled}
use Rattle.exi_items.specs.Charges.{Charged, text_charge}
use Rattle.exi_items.specs.Spellings.{Each, SpellsUnsigned, Then}
use Rattle.exi_items.proofs.Items.{Item, Row, Taken, bind_ok, given, item_field, item_tested, item_then, item_times, item_unsigned, ok_is}
use Rattle.exi_items.proofs.NoPrefix.{item_no_prefix}
use Rattle.exi_meter.specs.Metering.{Metering}
use Rattle.exi_names.specs.Alphabets.{place_of}
use Rattle.exi_names.specs.Characters.{is_xml_char}
use Rattle.exi_text.specs.Literals.{all_xml, char_at, char_bits, chars_at, chars_bits, code_at, in_set_at, placed_bits, width_in}
use Rattle.exi_text.specs.Spelled.{CharsAreNoPrefix, CharsAreRead, CharsAreSpelled, IsEscaped, SpellsChar, SpellsCode}
use Rattle.exi_names.proofs.Places.{place_is}
use Rattle.exi_text.proofs.Sets.{place_fits, xml_last}

-- ---- a code point
pub item_code : (a : Align) → Item {X = ℕ} a code_at SpellsCode
unfolding code_at
item_code a = item_tested a unsigned_at SpellsUnsigned is_xml_char (λ s c. record { kind = kind.BadChar; bit = s.place }) (item_unsigned a)

-- ---- a character of a set
In : List ℕ → Align → ℕ → List Bool → Type 0
In set a v text = (text ≡ number (width_in set) a v) × (v < 2 ^ taken (width_in set) a)

wide : (n : ℕ) (a : Align) → 2 ^ n ≤ 2 ^ taken n a
wide n align.Bits = omega arith
wide n align.Bytes = pow_up n (taken n align.Bytes) (omega arith)

in_fits : (set : List ℕ) (a : Align) (v : ℕ) → v ≤ length set → v < 2 ^ taken (width_in set) a
in_fits set a v le =
    let p = place_fits set v le in
    let q = wide (width_in set) a in
    omega arith

item_in : (set : List ℕ) (a : Align) → Item {X = ℕ} a (field_at (width_in set) a) (In set a)
unfolding In
item_in set a = item_field (width_in set) a

-- the escape with a code point behind it
escaped_at : List ℕ → Align → Reader (ℕ × ℕ)
escaped_at set a s = field_at (width_in set) a s >>= λ x. code_at x.1 >>= λ y. given {X = ℕ × ℕ} ((x.0, y.0), y.1)

Escaped : List ℕ → Align → ℕ × ℕ → List Bool → Type 0
Escaped set a p = Then (In set a p.0) (SpellsCode p.1)

item_escaped : (set : List ℕ) (a : Align) → Item {X = ℕ × ℕ} a (escaped_at set a) (Escaped set a)
unfolding escaped_at Escaped
item_escaped set a = item_then a (field_at (width_in set) a) code_at (In set a) SpellsCode (item_in set a) (item_code a)

to_escaped : (set : List ℕ) (a : Align) (c : ℕ) (text : List Bool) → IsEscaped set a c text → Escaped set a (length set, c) text
unfolding Escaped In
to_escaped set a c text w = record { first = w.first; second = w.second; parts = w.parts; front = (w.front, in_fits set a (length set) (omega arith)); behind = w.behind }

from_escaped : (set : List ℕ) (a : Align) (v c : ℕ) (text : List Bool) → v ≡ length set → Escaped set a (v, c) text → IsEscaped set a c text
unfolding Escaped In
from_escaped set a v c text e w = record { first = w.first; second = w.second; parts = w.parts; front = w.front.0 ∙ ap (λ (n : ℕ). number (width_in set) a n) e; behind = w.behind }

module _ (set : List ℕ) (a : Align) where
  in_takes : (c : ℕ) (s t : Spot) → IsBytes s.bytes → IsAligned a s → in_set_at set a s ≡ given (c, t) → Taken a (SpellsChar (Some set) a c) s t
  unfolding in_set_at escaped_at In
  in_takes c s t fits al r =
      let p = bind_ok (field_at (width_in set) a s) (λ (x : ℕ × Spot). cond (ltb x.0 (length set)) (given (get_or set x.0 0, x.1)) (cond (eqb x.0 (length set)) (code_at x.1) (Err (record { kind = kind.BadChar; bit = s.place })))) (c, t) r in
      by_place p.0 p.1 (ltb p.0.0 (length set)) refl p.2
    where
      by_escape : (p : ℕ × Spot) → field_at (width_in set) a s ≡ given p → (b : Bool) → eqb p.0 (length set) ≡ b → cond b (code_at p.1) (Err (record { kind = kind.BadChar; bit = s.place })) ≡ given (c, t) → Taken a (SpellsChar (Some set) a c) s t
      by_escape p f true e h =
          let k = (item_escaped set a).takes (p.0, c) s t fits al (rw (f, h) refl) in
          record { text = k.text; spelled = inr (from_escaped set a p.0 c k.text (eqb-true p.0 (length set) e) k.spelled); front = k.front; aligned = k.aligned; fits = k.fits }
      by_escape p f false e h = absurd cc

      by_place : (p : ℕ × Spot) → field_at (width_in set) a s ≡ given p → (b : Bool) → ltb p.0 (length set) ≡ b → cond b (given (get_or set p.0 0, p.1)) (cond (eqb p.0 (length set)) (code_at p.1) (Err (record { kind = kind.BadChar; bit = s.place }))) ≡ given (c, t) → Taken a (SpellsChar (Some set) a c) s t
      by_place p f true e h =
          let same : (get_or set p.0 0, p.1) ≡ (c, t) = ok_is (get_or set p.0 0, p.1) (c, t) h in
          let k = (item_in set a).takes p.0 s p.1 fits al f in
          subst (λ (w : ℕ × Spot). Taken a (SpellsChar (Some set) a w.0) s w.1) same (record { text = k.text; spelled = inl (record { place = p.0; within = ltb-true p.0 (length set) e; stands = refl; bits = k.spelled.0 }); front = k.front; aligned = k.aligned; fits = k.fits })
      by_place p f false e h = by_escape p f (eqb p.0 (length set)) refl h

  in_again : (c : ℕ) (text : List Bool) (s : Spot) (more : List Bool) → IsBytes s.bytes → IsAligned a s → SpellsChar (Some set) a c text → rest s ≡ text ++ more → in_set_at set a s ≡ given (c, moved s (length text))
  unfolding in_set_at escaped_at In
  in_again c text s more fits al (inl w) e =
      let r = (item_in set a).again w.place text s more fits al (w.bits, in_fits set a w.place (omega (arith, w.within))) e in
      rw (r, lt-ltb w.place (length set) w.within, w.stands) refl
  in_again c text s more fits al (inr w) e =
      let r = (item_escaped set a).again (length set, c) text s more fits al (to_escaped set a c text w) e in
      let u = bind_ok (field_at (width_in set) a s) (λ (x : ℕ × Spot). code_at x.1 >>= λ y. given {X = ℕ × ℕ} ((x.0, y.0), y.1)) ((length set, c), moved s (length text)) r in
      let v = bind_ok (code_at u.0.1) (λ (y : ℕ × Spot). given {X = ℕ × ℕ} ((u.0.0, y.0), y.1)) ((length set, c), moved s (length text)) u.2 in
      let h : ((u.0.0, v.0.0), v.0.1) ≡ ((length set, c), moved s (length text)) = ok_is {X = ℕ × ℕ} ((u.0.0, v.0.0), v.0.1) ((length set, c), moved s (length text)) v.2 in
      let escape : u.0.0 ≡ length set = ap (λ (w : (ℕ × ℕ) × Spot). w.0.0) h in
      let found : (v.0.0, v.0.1) ≡ (c, moved s (length text)) = ap (λ (w : (ℕ × ℕ) × Spot). (w.0.1, w.1)) h in
      let q : code_at u.0.1 ≡ given (c, moved s (length text)) = v.1 ∙ ap (λ (w : ℕ × Spot). given w) found in
      rw (u.1, le-ltb u.0.0 (length set) (omega arith), eq-eqb u.0.0 (length set) escape, q) refl

  in_whole : (c : ℕ) (text : List Bool) → SpellsChar (Some set) a c text → a ≡ align.Bytes → length text % 8 ≡ 0
  unfolding In
  in_whole c text (inl w) e = (item_in set a).whole w.place text (w.bits, in_fits set a w.place (omega (arith, w.within))) e
  in_whole c text (inr w) e = (item_escaped set a).whole (length set, c) text (to_escaped set a c text w) e

pub item_char : (set : Option (List ℕ)) (a : Align) → Item {X = ℕ} a (char_at set a) (SpellsChar set a)
item_char None a = item_code a
item_char (Some set) a = record { takes = in_takes set a; again = in_again set a; whole = in_whole set a }

item_row : (set : Option (List ℕ)) (a : Align) (n : ℕ) → Item {X = List ℕ} a (times (char_at set a) n) (Row (SpellsChar set a) n)
item_row set a n = item_times a (char_at set a) (SpellsChar set a) (item_char set a) n

-- ---- with the charge
abbrev charged : List ℕ × Charged → Result (List ℕ × Charged) Fault
charged p = Ok p

abbrev metered : Metering → Result Metering Fault
metered m = Ok m

pair_is : (p q : List ℕ × Charged) → charged p ≡ charged q → p ≡ q
pair_is p q e = cc

row_ok : (m : Metering) (cs : List ℕ) (d : Charged) (q : Result (List ℕ × Spot) Fault) → (q >>= λ text. charged (text.0, record { spot = text.1; meter = m })) ≡ charged (cs, d) → q ≡ given (cs, d.spot)
row_ok m cs d (Err f) e = absurd cc
row_ok m cs d (Ok text) e =
    let h = pair_is (text.0, record { spot = text.1; meter = m }) (cs, d) e in
    ap (λ (p : List ℕ × Charged). given (p.0, p.1.spot)) h

charge_ok : (cs : List ℕ) (d : Charged) (k : Result Metering Fault) (q : Result (List ℕ × Spot) Fault) → (k >>= λ m. q >>= λ text. charged (text.0, record { spot = text.1; meter = m })) ≡ charged (cs, d) → q ≡ given (cs, d.spot)
charge_ok cs d (Err f) q e = absurd cc
charge_ok cs d (Ok m) q e = row_ok m cs d q e

pub chars_spelled : CharsAreSpelled
unfolding chars_at
chars_spelled set a count cs c d fits al e =
    let k = (item_row set a count).takes cs c.spot d.spot fits al (charge_ok cs d (text_charge count c.spot.place c.meter) (times (char_at set a) count c.spot) e) in
    (k.text, k.spelled.count, k.spelled.each, k.front)

pub chars_read : CharsAreRead
unfolding chars_at
chars_read set a cs m text c more fits al paid h e =
    let r = (item_row set a (length cs)).again cs text c.spot more fits al (record { count = refl; each = h }) e in
    rw (paid, r) refl

pub chars_no_prefix : CharsAreNoPrefix
chars_no_prefix set a cs ds text other more same g h e =
    item_no_prefix a (times (char_at set a) (length cs)) (Row (SpellsChar set a) (length cs)) (item_row set a (length cs)) cs ds text other more (record { count = refl; each = g }) (record { count = sym same; each = h }) e

-- ---- what is written
code_written : (c : ℕ) → is_xml_char c ≡ true → SpellsCode c (bits (shortest c))
code_written c h = (h, record { octets = shortest c; unsigned = shortest_spelled c ((let k = xml_last c h in omega arith)); bits = refl })

placed_written : (set : List ℕ) (a : Align) (c : ℕ) (o : Option ℕ) → place_of c set ≡ o → is_xml_char c ≡ true → SpellsChar (Some set) a c (placed_bits set a c o)
placed_written set a c None e h = inr (record { first = number (width_in set) a (length set); second = bits (shortest c); parts = refl; front = refl; behind = code_written c h })
placed_written set a c (Some i) e h = let p = place_is c set i e in inl (record { place = i; within = p.0; stands = p.1; bits = refl })

char_written : (set : Option (List ℕ)) (a : Align) (c : ℕ) → is_xml_char c ≡ true → SpellsChar set a c (char_bits set a c)
char_written None a c h = code_written c h
char_written (Some set) a c h = placed_written set a c (place_of c set) refl h

pub chars_written : (set : Option (List ℕ)) (a : Align) (cs : List ℕ) → all_xml cs ≡ true → Each (SpellsChar set a) cs (chars_bits set a cs)
unfolding Each chars_bits
chars_written set a [] h = refl
chars_written set a (c ∷ cs) h =
    let p = and_parts (is_xml_char c) (all_xml cs) h in
    record { first = char_bits set a c; second = chars_bits set a cs; parts = refl; front = char_written set a c p.0; behind = chars_written set a cs p.1 }
