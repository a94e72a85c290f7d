-- A Binary: spelled and read.
use Rattle.std.proofs.Common.{◌≡◌, ℕ, zero, suc, ◌+◌, ◌%◌, ◌^◌, ◌<◌, Bool, List, [], ◌∷◌, ◌++◌, length, Result, Ok, Err, refl, sym, ap, ◌∙◌, subst, arith}
use Rattle.exi_bits.specs.declared.align.Align.{Align}
use Rattle.exi_bits.specs.declared.align.Align.TheVariants as align
use Rattle.exi_bits.specs.declared.fault.Fault.{Fault}
use Rattle.exi_bits.specs.Bits.{Spot, Front, IsAligned, IsBytes, bits, moved, number_bits, rest}
use Rattle.exi_bits.specs.Repeat.{Reader, octets_at}
use Rattle.exi_bits.specs.Unsigned.{◌>>=◌, field_at, shortest, unsigned_at}
use Rattle.exi_bits.proofs.BitLaws.{length-number_bits}
use Rattle.exi_bits.proofs.UnsignedLaws.{shortest_spelled}
use Rattle.exi_items.specs.Charges.{Charged, text_charge}
use Rattle.exi_items.specs.Spellings.{Each, SpellsUnsigned, Then}
use Rattle.exi_items.proofs.Items.{Item, Row, Taken, bind_ok, given, ok_is, item_field, item_for, item_times, item_unsigned}
use Rattle.exi_items.proofs.NoPrefix.{item_no_prefix}
use Rattle.exi_meter.specs.Metering.{Metering}
use Rattle.exi_names.specs.Seen.{Value, text, boolean, integer, decimal, float, moment, binary, items, name}
use Rattle.exi_scalar.specs.Scalars.{binary_at, binary_bits}
use Rattle.exi_scalar.specs.Spelled.{SpellsBinary}

-- an octet, in both alignments
Octet : ℕ → List Bool → Type 0
Octet v line = (line ≡ number_bits 8 v) × (v < 256)

item_octet : (a : Align) → Item a (field_at 8 align.Bits) Octet
unfolding Octet
item_octet a = record { takes = taking; again = reading; whole = wholly }
  where
    taking : (v : ℕ) (s t : Spot) → IsBytes s.bytes → IsAligned a s → field_at 8 align.Bits s ≡ given (v, t) → Taken a (Octet v) s t
    taking v s t fits al r =
        let k = (item_field 8 align.Bits).takes v s t fits (λ e. absurd cc) r in
        let eight : length k.text ≡ 8 = ap length k.spelled.0 ∙ length-number_bits 8 v in
        record {
          text = k.text;
          spelled = k.spelled;
          front = k.front;
          aligned = λ e. (let p : s.place % 8 ≡ 0 = al e in omega (arith, k.front.place));
          fits = k.fits;
        }

    reading : (v : ℕ) (line : List Bool) (s : Spot) (more : List Bool) → IsBytes s.bytes → IsAligned a s → Octet v line → rest s ≡ line ++ more → field_at 8 align.Bits s ≡ given (v, moved s (length line))
    reading v line s more fits al m e = (item_field 8 align.Bits).again v line s more fits (λ e. absurd cc) m e

    wholly : (v : ℕ) (line : List Bool) → Octet v line → a ≡ align.Bytes → length line % 8 ≡ 0
    wholly v line m e = omega (arith, ap length m.0, length-number_bits 8 v)

-- the number of octets and the octets, without the charge
Counted : ℕ × List ℕ → List Bool → Type 0
Counted p = Then (SpellsUnsigned p.0) (Row Octet p.0 p.1)

counted_at : Reader (ℕ × List ℕ)
counted_at s = unsigned_at s >>= λ count. octets_at count.0 count.1 >>= λ os. Ok ((count.0, os.0), os.1)

item_counted : (a : Align) → Item {X = ℕ × List ℕ} a counted_at Counted
unfolding Counted counted_at
item_counted a = item_for a unsigned_at octets_at SpellsUnsigned (λ n. Row Octet n) (item_unsigned a) (item_times a (field_at 8 align.Bits) Octet (item_octet a))

-- octets one by one are the bits of the bytes
one_fits : (o : ℕ) (os : List ℕ) → o < 256 → IsBytes os → IsBytes (o ∷ os)
one_fits o os lt fits zero = lt
one_fits o os lt fits (suc i) = fits i

none_fits : IsBytes []
none_fits i = omega arith

each_bits : (os : List ℕ) (line : List Bool) → Each Octet os line → (line ≡ bits os) × IsBytes os
unfolding Each bits Octet
each_bits [] line e = (e, none_fits)
each_bits (o ∷ os) line w =
    let more = each_bits os w.second w.behind in (
      w.parts ∙ ap (λ (x : List Bool). x ++ w.second) w.front.0 ∙ ap (λ (x : List Bool). number_bits 8 o ++ x) more.0,
      one_fits o os w.front.1 more.1,
    )

bits_each : (os : List ℕ) → IsBytes os → Each Octet os (bits os)
unfolding Each bits Octet
bits_each [] fits = refl
bits_each (o ∷ os) fits = record {
  first = number_bits 8 o;
  second = bits os;
  parts = refl;
  front = (refl, fits 0);
  behind = bits_each os (λ i. fits (suc i));
}

to_binary : (hex : Bool) (p : ℕ × List ℕ) (line : List Bool) → Counted p line → SpellsBinary hex (binary hex p.1) line
unfolding Counted
to_binary hex p line w =
    let e = each_bits p.1 w.second w.behind.each in
    (refl, e.1, record { first = w.first; second = w.second; parts = w.parts; front = subst (λ (n : ℕ). SpellsUnsigned n w.first) (sym w.behind.count) w.front; behind = e.0 })

from_binary : (hex : Bool) (os : List ℕ) (line : List Bool) → SpellsBinary hex (binary hex os) line → Counted (length os, os) line
unfolding Counted
from_binary hex os line h = record {
  first = h.2.first;
  second = h.2.second;
  parts = h.2.parts;
  front = h.2.front;
  behind = record { count = refl; each = subst (λ (x : List Bool). Each Octet os x) (sym h.2.behind) (bits_each os h.1) };
}

-- ---- with the charge
abbrev charged : Value × Charged → Result (Value × Charged) Fault
charged p = Ok p

abbrev metered : Metering → Result Metering Fault
metered m = Ok m

pair_is : (p q : Value × Charged) → charged p ≡ charged q → p ≡ q
pair_is p q e = cc

octets_ok : (hex : Bool) (n : ℕ) (m : Metering) (v : Value) (d : Charged) (q : Result (List ℕ × Spot) Fault)
    → (q >>= λ os. charged (binary hex os.0, record { spot = os.1; meter = m })) ≡ charged (v, d)
    → (os : List ℕ) × (q ≡ given (os, d.spot)) × (binary hex os ≡ v)
octets_ok hex n m v d (Err f) e = absurd cc
octets_ok hex n m v d (Ok os) e =
    let h = pair_is (binary hex os.0, record { spot = os.1; meter = m }) (v, d) e in
    let t : os.1 ≡ d.spot = ap (λ (p : Value × Charged). p.1.spot) h in
    (os.0, ap (λ (u : Spot). given (os.0, u)) t, ap (λ (p : Value × Charged). p.0) h)

charge_ok : (hex : Bool) (n : ℕ) (v : Value) (d : Charged) (k : Result Metering Fault) (q : Result (List ℕ × Spot) Fault)
    → (k >>= λ m. q >>= λ os. charged (binary hex os.0, record { spot = os.1; meter = m })) ≡ charged (v, d)
    → (os : List ℕ) × (q ≡ given (os, d.spot)) × (binary hex os ≡ v)
charge_ok hex n v d (Err f) q e = absurd cc
charge_ok hex n v d (Ok m) q e = octets_ok hex n m v d q e

count_ok : (hex : Bool) (v : Value) (c d : Charged) (r : Result (ℕ × Spot) Fault)
    → (r >>= λ n. text_charge n.0 c.spot.place c.meter >>= λ m. octets_at n.0 n.1 >>= λ os. charged (binary hex os.0, record { spot = os.1; meter = m })) ≡ charged (v, d)
    → (p : ℕ × List ℕ) × ((r >>= λ count. octets_at count.0 count.1 >>= λ os. given {X = ℕ × List ℕ} ((count.0, os.0), os.1)) ≡ given (p, d.spot)) × (binary hex p.1 ≡ v)
count_ok hex v c d (Err f) e = absurd cc
count_ok hex v c d (Ok n) e =
    let h = charge_ok hex n.0 v d (text_charge n.0 c.spot.place c.meter) (octets_at n.0 n.1) e in
    ((n.0, h.0), ap (λ (q : Result (List ℕ × Spot) Fault). q >>= λ os. given {X = ℕ × List ℕ} ((n.0, os.0), os.1)) h.1, h.2)

pub binary_spelled : (hex : Bool) (a : Align) (v : Value) (c d : Charged) → IsBytes c.spot.bytes → IsAligned a c.spot → binary_at hex c ≡ Ok (v, d) → (line : List Bool) × SpellsBinary hex v line × Front c.spot line d.spot
unfolding binary_at counted_at
binary_spelled hex a v c d fits al e =
    let p = count_ok hex v c d (unsigned_at c.spot) e in
    let k = (item_counted a).takes p.0 c.spot d.spot fits al p.1 in
    (k.text, subst (λ (w : Value). SpellsBinary hex w k.text) p.2 (to_binary hex p.0 k.text k.spelled), k.front)

counted_then : (hex : Bool) (os : List ℕ) (n : ℕ) (m : Metering) (c : Charged) (t : Spot) (r : Result (ℕ × Spot) Fault)
    → text_charge n c.spot.place c.meter ≡ metered m
    → (r >>= λ count. octets_at count.0 count.1 >>= λ os. given {X = ℕ × List ℕ} ((count.0, os.0), os.1)) ≡ given ((n, os), t)
    → (r >>= λ n. text_charge n.0 c.spot.place c.meter >>= λ m. octets_at n.0 n.1 >>= λ os. charged (binary hex os.0, record { spot = os.1; meter = m })) ≡ charged (binary hex os, record { spot = t; meter = m })
counted_then hex os n m c t (Err f) paid e = absurd cc
counted_then hex os n m c t (Ok k) paid e =
    let u = bind_ok (octets_at k.0 k.1) (λ (o : List ℕ × Spot). given {X = ℕ × List ℕ} ((k.0, o.0), o.1)) ((n, os), t) e in
    let h : ((k.0, u.0.0), u.0.1) ≡ ((n, os), t) = ok_is {X = ℕ × List ℕ} ((k.0, u.0.0), u.0.1) ((n, os), t) u.2 in
    let count : k.0 ≡ n = ap (λ (w : (ℕ × List ℕ) × Spot). w.0.0) h in
    let same : u.0.0 ≡ os = ap (λ (w : (ℕ × List ℕ) × Spot). w.0.1) h in
    let there : u.0.1 ≡ t = ap (λ (w : (ℕ × List ℕ) × Spot). w.1) h in
    let pays : text_charge k.0 c.spot.place c.meter ≡ metered m = ap (λ (n : ℕ). text_charge n c.spot.place c.meter) count ∙ paid in
    rw (pays, u.1, same, there) refl

pub binary_read : (hex : Bool) (a : Align) (octets : List ℕ) (m : Metering) (line : List Bool) (c : Charged) (more : List Bool) → IsBytes c.spot.bytes → IsAligned a c.spot → text_charge (length octets) c.spot.place c.meter ≡ Ok m → SpellsBinary hex (binary hex octets) line → rest c.spot ≡ line ++ more
    → binary_at hex c ≡ Ok (binary hex octets, record { spot = moved c.spot (length line); meter = m })
unfolding binary_at counted_at
binary_read hex a os m line c more fits al paid h e =
    counted_then hex os (length os) m c (moved c.spot (length line)) (unsigned_at c.spot) paid ((item_counted a).again (length os, os) line c.spot more fits al (from_binary hex os line h) e)

-- which octets and which number a value has
octets_in : Value → List ℕ
octets_in (binary k o) = o
octets_in (text t) = []
octets_in (boolean t d) = []
octets_in (integer n) = []
octets_in (decimal m w b) = []
octets_in (float m e) = []
octets_in (moment m) = []
octets_in (items l) = []
octets_in (name n) = []

only_binary : (hex : Bool) (v : Value) (line : List Bool) → SpellsBinary hex v line → v ≡ binary hex (octets_in v)
unfolding octets_in
only_binary hex (binary k o) line h = ap (λ (x : Bool). binary x o) h.0
only_binary hex (text t) line h = absurd h
only_binary hex (boolean t d) line h = absurd h
only_binary hex (integer n) line h = absurd h
only_binary hex (decimal m w b) line h = absurd h
only_binary hex (float m e) line h = absurd h
only_binary hex (moment m) line h = absurd h
only_binary hex (items l) line h = absurd h
only_binary hex (name n) line h = absurd h

pub binary_no_prefix : (hex : Bool) (v w : Value) (line other more : List Bool) → SpellsBinary hex v line → SpellsBinary hex w other → line ≡ other ++ more → (v ≡ w) × (more ≡ [])
binary_no_prefix hex v w line other more g h e =
    let p : v ≡ binary hex (octets_in v) = only_binary hex v line g in
    let q : w ≡ binary hex (octets_in w) = only_binary hex w other h in
    let g' : SpellsBinary hex (binary hex (octets_in v)) line = subst (λ (x : Value). SpellsBinary hex x line) p g in
    let h' : SpellsBinary hex (binary hex (octets_in w)) other = subst (λ (x : Value). SpellsBinary hex x other) q h in
    let k = item_no_prefix align.Bits counted_at Counted (item_counted align.Bits) (length (octets_in v), octets_in v) (length (octets_in w), octets_in w) line other more (from_binary hex (octets_in v) line g') (from_binary hex (octets_in w) other h') e in
    (p ∙ ap (λ (x : ℕ × List ℕ). binary hex x.1) k.0 ∙ sym q, k.1)

pub binary_written : (hex : Bool) (octets : List ℕ) → IsBytes octets → length octets < 2 ^ 128 → SpellsBinary hex (binary hex octets) (binary_bits (binary hex octets))
binary_written hex os fits lt = (refl, fits, record { first = bits (shortest (length os)); second = bits os; parts = refl; front = record { octets = shortest (length os); unsigned = shortest_spelled (length os) lt; bits = refl }; behind = refl })
