-- What is spelled is read, and what is read is spelled.
use Rattle.std.proofs.Common.{◌≡◌, ℕ, zero, suc, ◌+◌, ◌*◌, ◌-◌, ◌^◌, ◌<◌, ◌≤◌, Bool, true, false, cond, eqb, leb, ltb, List, [], ◌∷◌, ◌++◌, length, drop, replicate, slice_get, append_assoc, Option, Some, None, Result, Ok, Err, refl, sym, ap, ◌∙◌, subst, inl, inr, arith}
use Rattle.std.proofs.lemmas.Bool.{cases_Bool, eqb-true, leb-true, le-leb, lt-ltb, ltb-true, ne_eqb}
use Rattle.std.proofs.lemmas.List.{append-nil, drop-drop, drop_at, length-append, length-replicate, nil_from_length}
use Rattle.exi_bits.specs.declared.align.Align.TheVariants as align
use Rattle.exi_bits.specs.declared.fault.Fault.{Fault}
use Rattle.exi_bits.specs.declared.fault.Kind.TheVariants as kind
use Rattle.exi_bits.specs.Bits.{Front, IsBytes, Spot, bits, left, moved, number, rest, taken}
use Rattle.exi_bits.specs.Repeat.{Reader, times}
use Rattle.exi_bits.specs.Unsigned.{◌>>=◌, below_at, fault_at, unsigned_at}
use Rattle.exi_bits.specs.Widths.{width_for}
use Rattle.exi_gram.specs.Codes.{code_at, first_told, part_at}
use Rattle.exi_gram.proofs.CodeItems.{below_fits}
use Rattle.exi_gram.specs.declared.options.SchemaWord.TheVariants as schema
use Rattle.exi_gram.specs.Switches.{conflicts}
use Rattle.exi_items.specs.Spellings.{SpellsUnsigned}
use Rattle.exi_items.proofs.Items.{Item, Row, bind_ok, given, guard_ok, item_below, item_times, item_unsigned, ok_is}
use Rattle.exi_text.specs.Literals.{char_at}
use Rattle.exi_text.specs.Spelled.{SpellsChar}
use Rattle.exi_text.proofs.Letters.{item_char}
use Rattle.exi_options.specs.declared.table.Sign.{Sign}
use Rattle.exi_options.specs.declared.table.Sign.TheVariants as sign
use Rattle.exi_options.specs.declared.table.State.{State}
use Rattle.exi_options.specs.declared.table.State.TheVariants as state
use Rattle.exi_options.specs.declared.told.Told.{Told}
use Rattle.exi_options.specs.Document.{Code, ahead, codes, flag, productions}
use Rattle.exi_options.specs.Reading.{codes_at, document_at, most_characters, name_at, options_at, switched, untold, value_at, with_block, with_capacity, with_most, with_schema, with_schema_bit}
use Rattle.exi_options.specs.Spelled.{Begins, IsCodeOf, Spells, SpellsName, SpellsTold, Tells, TellsName, TellsNumber, TellsOnly}
use Rattle.exi_options.specs.Laws.{NoneIsPrefix, ReadIsSpelled, SpelledIsRead}
use Rattle.exi_options.proofs.Steps.{code_found, code_is, code_some, comes_less, get_some, left_to_come, none_is_end, step_is}
use Rattle.exi_options.proofs.Tables.{lives}

-- ---- places
rest_moved : (s : Spot) (text more : List Bool) → rest s ≡ text ++ more → rest (moved s (length text)) ≡ more
rest_moved s text more e = sym (drop-drop (length text) s.place (bits s.bytes)) ∙ ap (λ (x : List Bool). drop (length text) x) e ∙ drop_at text more (length text) refl

moved_on : (s : Spot) (text first second : List Bool) → text ≡ first ++ second → moved (moved s (length first)) (length second) ≡ moved s (length text)
moved_on s text first second e =
    let n : length text ≡ length first + length second = ap length e ∙ length-append first second in
    let p : s.place + length first + length second ≡ s.place + length text = omega arith in
    ap (λ (place : ℕ). record { bytes = s.bytes; place = place }) p

front_none : (s : Spot) → Front s [] s
front_none s = record { parts = refl; bytes = refl; place = omega arith }

front_then : (s t u : Spot) (first second : List Bool) → Front s first t → Front t second u → Front s (first ++ second) u
front_then s t u first second f g = record {
  parts = f.parts ∙ ap (λ (x : List Bool). first ++ x) g.parts ∙ sym (append_assoc first second (rest u));
  bytes = g.bytes ∙ f.bytes;
  place = omega (arith, f.place, g.place, length-append first second);
}

not_moved : (s : Spot) → moved s 0 ≡ s
not_moved s = let e : s.place + 0 ≡ s.place = omega arith in ap (λ (place : ℕ). record { bytes = s.bytes; place = place }) e

bytes_on : (s t : Spot) (text : List Bool) → Front s text t → IsBytes s.bytes → IsBytes t.bytes
bytes_on s t text f fits = subst (λ (b : List ℕ). IsBytes b) (sym f.bytes) fits

-- ---- what is read at the front
pub record Reads (Spelled : List Bool → Type 0) (s t : Spot) : Type 0 where
  pub text : List Bool
  pub spelled : Spelled text
  pub front : Front s text t

-- ---- the name
row_item : (n : ℕ) → Item {X = List ℕ} align.Bits (times (char_at None align.Bits) n) (Row (SpellsChar None align.Bits) n)
row_item n = item_times align.Bits (char_at None align.Bits) (SpellsChar None align.Bits) (item_char None align.Bits) n

name_takes : (name : List ℕ) (s t : Spot) → IsBytes s.bytes → name_at s ≡ given (name, t) → Reads (SpellsName name) s t
unfolding name_at
name_takes name s t fits r =
    let u = bind_ok (unsigned_at s) (λ (n : ℕ × Spot). cond (leb 2 n.0) (cond (leb (n.0 - 2) 65536) (times (char_at None align.Bits) (n.0 - 2) n.1) (fault_at kind.TextLimit s)) (fault_at kind.BadPlace n.1)) (name, t) r in
    by (leb 2 u.0.0) (leb (u.0.0 - 2) 65536) u.0 refl refl u.1 u.2
  where
    by : (a b : Bool) (p : ℕ × Spot) → leb 2 p.0 ≡ a → leb (p.0 - 2) 65536 ≡ b → unsigned_at s ≡ given p → cond a (cond b (times (char_at None align.Bits) (p.0 - 2) p.1) (fault_at kind.TextLimit s)) (fault_at kind.BadPlace p.1) ≡ given (name, t) → Reads (SpellsName name) s t
    by true true p two few h g =
        let i = (item_unsigned align.Bits).takes p.0 s p.1 fits (λ e. absurd cc) h in
        let j = (row_item (p.0 - 2)).takes name p.1 t i.fits i.aligned g in
        let two_or_more = leb-true 2 p.0 two in
        let count : length name ≡ p.0 - 2 = j.spelled.count in
        let number : p.0 ≡ length name + 2 = omega (arith, count, two_or_more) in
        let most = leb-true (p.0 - 2) 65536 few in
        record {
          text = i.text ++ j.text;
          spelled = record { length_bits = i.text; characters = j.text; parts = refl; few = omega (arith, count, most); counted = subst (λ (n : ℕ). SpellsUnsigned n i.text) number i.spelled; each = j.spelled.each };
          front = front_then s p.1 t i.text j.text i.front j.front;
        }
    by true false p two few h g = absurd cc
    by false b p two few h g = absurd cc

name_again : (name : List ℕ) (text : List Bool) (s : Spot) (more : List Bool) → IsBytes s.bytes → SpellsName name text → rest s ≡ text ++ more → name_at s ≡ given (name, moved s (length text))
unfolding name_at
name_again name text s more fits w e =
    let e' : rest s ≡ w.length_bits ++ (w.characters ++ more) = e ∙ ap (λ (x : List Bool). x ++ more) w.parts ∙ append_assoc w.length_bits w.characters more in
    let r1 = (item_unsigned align.Bits).again (length name + 2) w.length_bits s (w.characters ++ more) fits (λ e. absurd cc) w.counted e' in
    let back : length name + 2 - 2 ≡ length name = omega arith in
    let r2 = (row_item (length name)).again name w.characters (moved s (length w.length_bits)) more fits (λ e. absurd cc) (record { count = refl; each = w.each }) (rest_moved s w.length_bits (w.characters ++ more) e') in
    let some : leb 2 (length name + 2) ≡ true = le-leb 2 (length name + 2) (omega arith) in
    let few : leb (length name) 65536 ≡ true = le-leb (length name) 65536 w.few in
    rw (r1, some, back, few, r2) (ap (λ (u : Spot). given (name, u)) (moved_on s text w.length_bits w.characters w.parts))

-- ---- a value
only_takes : (v u : Told) (s t : Spot) → given (v, s) ≡ given (u, t) → Reads (TellsOnly v u) s t
only_takes v u s t r =
    let e = ok_is (v, s) (u, t) r in
    subst (λ (z : Told × Spot). Reads (TellsOnly v z.0) s z.1) e (record { text = []; spelled = (refl, refl); front = front_none s })

only_again : (v u : Told) (text : List Bool) (s : Spot) → TellsOnly v u text → given (v, s) ≡ given (u, moved s (length text))
only_again v u text s w = rw w.1 (ap (λ (z : Told). given (z, s)) w.0 ∙ ap (λ (z : Spot). given (u, z)) (sym (not_moved s)))

number_takes : (f : ℕ → Told) (u : Told) (s t : Spot) → IsBytes s.bytes → (unsigned_at s >>= λ n. given (f n.0, n.1)) ≡ given (u, t) → Reads (TellsNumber f u) s t
number_takes f u s t fits r =
    let b = bind_ok (unsigned_at s) (λ (n : ℕ × Spot). given (f n.0, n.1)) (u, t) r in
    let e = ok_is (f b.0.0, b.0.1) (u, t) b.2 in
    let i = (item_unsigned align.Bits).takes b.0.0 s b.0.1 fits (λ e. absurd cc) b.1 in
    subst (λ (z : Told × Spot). Reads (TellsNumber f z.0) s z.1) e (record { text = i.text; spelled = record { number = b.0.0; spelled = i.spelled; told = refl }; front = i.front })

number_again : (f : ℕ → Told) (u : Told) (text : List Bool) (s : Spot) (more : List Bool) → IsBytes s.bytes → TellsNumber f u text → rest s ≡ text ++ more → (unsigned_at s >>= λ n. given (f n.0, n.1)) ≡ given (u, moved s (length text))
number_again f u text s more fits w e =
    let r = (item_unsigned align.Bits).again w.number text s more fits (λ e. absurd cc) w.spelled e in
    rw r (ap (λ (z : Told). given (z, moved s (length text))) w.told)

named_takes : (f : List ℕ → Told) (u : Told) (s t : Spot) → IsBytes s.bytes → (name_at s >>= λ n. given (f n.0, n.1)) ≡ given (u, t) → Reads (TellsName f u) s t
named_takes f u s t fits r =
    let b = bind_ok (name_at s) (λ (n : List ℕ × Spot). given (f n.0, n.1)) (u, t) r in
    let e = ok_is (f b.0.0, b.0.1) (u, t) b.2 in
    let i = name_takes b.0.0 s b.0.1 fits b.1 in
    subst (λ (z : Told × Spot). Reads (TellsName f z.0) s z.1) e (record { text = i.text; spelled = record { name = b.0.0; spelled = i.spelled; told = refl }; front = i.front })

named_again : (f : List ℕ → Told) (u : Told) (text : List Bool) (s : Spot) (more : List Bool) → IsBytes s.bytes → TellsName f u text → rest s ≡ text ++ more → (name_at s >>= λ n. given (f n.0, n.1)) ≡ given (u, moved s (length text))
named_again f u text s more fits w e =
    let r = name_again w.name text s more fits w.spelled e in
    rw r (ap (λ (z : Told). given (z, moved s (length text))) w.told)

value_takes : (sn : Sign) (bit : ℕ) (t u : Told) (s e : Spot) → IsBytes s.bytes → value_at sn bit t s ≡ given (u, e) → Reads (Tells sn bit t u) s e
unfolding value_at Tells
value_takes (sign.Opens x) bit t u s e fits r = only_takes t u s e r
value_takes sign.Ends bit t u s e fits r = only_takes t u s e r
value_takes (sign.Switch f) bit t u s e fits r = only_takes (switched f t) u s e r
value_takes sign.Byte bit t u s e fits r = only_takes (switched (flag 8) t) u s e r
value_takes sign.BlockSize bit t u s e fits r = number_takes (λ n. with_block n t) u s e fits r
value_takes sign.ValueMaxLength bit t u s e fits r = number_takes (λ n. with_most n t) u s e fits r
value_takes sign.ValuePartitionCapacity bit t u s e fits r = number_takes (λ n. with_capacity n t) u s e fits r
value_takes sign.SchemaId bit t u s e fits r = only_takes (with_schema_bit bit t) u s e r
value_takes sign.Text bit t u s e fits r = named_takes (λ name. with_schema (schema.Id name) t) u s e fits r
value_takes sign.False bit t u s e fits r = only_takes t u s e r
value_takes sign.True bit t u s e fits r = only_takes (with_schema schema.Nil t) u s e r
value_takes (sign.Refused p) bit t u s e fits r = absurd cc

value_again : (sn : Sign) (bit : ℕ) (t u : Told) (text : List Bool) (s : Spot) (more : List Bool) → IsBytes s.bytes → Tells sn bit t u text → rest s ≡ text ++ more → value_at sn bit t s ≡ given (u, moved s (length text))
unfolding value_at Tells
value_again (sign.Opens x) bit t u text s more fits w e = only_again t u text s w
value_again sign.Ends bit t u text s more fits w e = only_again t u text s w
value_again (sign.Switch f) bit t u text s more fits w e = only_again (switched f t) u text s w
value_again sign.Byte bit t u text s more fits w e = only_again (switched (flag 8) t) u text s w
value_again sign.BlockSize bit t u text s more fits w e = number_again (λ n. with_block n t) u text s more fits w e
value_again sign.ValueMaxLength bit t u text s more fits w e = number_again (λ n. with_most n t) u text s more fits w e
value_again sign.ValuePartitionCapacity bit t u text s more fits w e = number_again (λ n. with_capacity n t) u text s more fits w e
value_again sign.SchemaId bit t u text s more fits w e = only_again (with_schema_bit bit t) u text s w
value_again sign.Text bit t u text s more fits w e = named_again (λ name. with_schema (schema.Id name) t) u text s more fits w e
value_again sign.False bit t u text s more fits w e = only_again t u text s w
value_again sign.True bit t u text s more fits w e = only_again (with_schema schema.Nil t) u text s w
value_again (sign.Refused p) bit t u text s more fits w e = absurd w

-- ---- a code
below_item : (n : ℕ) → Item {X = ℕ} align.Bits (below_at n align.Bits kind.NoCode) (λ v text. (ltb v n ≡ true) × ((text ≡ number (width_for n) align.Bits v) × (v < 2 ^ taken (width_for n) align.Bits)))
below_item n = item_below n align.Bits kind.NoCode

get_below : (cs : List Code) (i : ℕ) (c : Code) → slice_get cs i ≡ Some c → i < length cs
get_below [] i c e = absurd cc
get_below (d ∷ ds) zero c e = omega arith
get_below (d ∷ ds) (suc i) c e = let k = get_below ds i c e in omega arith

code_takes : (st : State) (c : Code) (s t : Spot) → IsBytes s.bytes → code_at align.Bits (productions st) s ≡ given (c, t) → Reads (IsCodeOf st c) s t
unfolding part_at
code_takes st c s t fits r =
    let b = bind_ok (part_at (length (codes st)) align.Bits s) (λ (f : ℕ × Spot). first_told align.Bits [] (slice_get (codes st) f.0) f.1) (c, t) (sym (code_is (codes st) s) ∙ r) in
    let i = (below_item (length (codes st))).takes b.0.0 s b.0.1 fits (λ e. absurd cc) b.1 in
    let g = get_some (codes st) b.0.0 (ltb-true b.0.0 (length (codes st)) i.spelled.0) in
    let h : given (g.0, b.0.1) ≡ given (c, t) = sym (ap (λ (o : Option Code). first_told align.Bits [] o b.0.1) g.1) ∙ b.2 in
    subst (λ (z : Code × Spot). Reads (IsCodeOf st z.0) s z.1) (ok_is (g.0, b.0.1) (c, t) h) (record { text = i.text; spelled = record { place = b.0.0; there = g.1; bits = i.spelled.1.0 }; front = i.front })

code_again : (st : State) (c : Code) (text : List Bool) (s : Spot) (more : List Bool) → IsBytes s.bytes → IsCodeOf st c text → rest s ≡ text ++ more → code_at align.Bits (productions st) s ≡ given (c, moved s (length text))
unfolding part_at
code_again st c text s more fits w e =
    let less = get_below (codes st) w.place c w.there in
    let r = (below_item (length (codes st))).again w.place text s more fits (λ e. absurd cc) (lt-ltb w.place (length (codes st)) less, (w.bits, below_fits w.place (length (codes st)) align.Bits less)) e in
    code_some (codes st) s (moved s (length text)) w.place c r w.there

-- ---- codes
pub record ReadsCodes (st : State) (t u : Told) (s e : Spot) : Type 0 where
  pub through : List Code
  pub text : List Bool
  pub spelled : Spells through st s.place t u text
  pub front : Front s text e

pub no_codes : (st : State) → eqb (length (codes st)) 0 ≡ true → codes st ≡ []
no_codes st e = nil_from_length (codes st) (eqb-true (length (codes st)) 0 e)

ends_there : (st : State) (t u : Told) (s e : Spot) → codes st ≡ [] → given (t, s) ≡ given (u, e) → ReadsCodes st t u s e
unfolding Spells
ends_there st t u s e none r = subst (λ (z : Told × Spot). ReadsCodes st t z.0 s z.1) (ok_is (t, s) (u, e) r) (record { through = []; text = []; spelled = (none, refl, refl); front = front_none s })

no_room : (st : State) (s : Spot) → eqb (length (codes st)) 0 ≡ false → left_to_come st s ≤ 0 → ⊥
no_room st s some le = let pos : 0 < ahead st = ltb-true 0 (ahead st) (lives st some) in omega arith

-- a code and its value, in front of others
before_codes : (st : State) (t u : Told) (s e : Spot) (c : Code × Spot) (q : Told × Spot) → IsBytes s.bytes → code_at align.Bits (productions st) s ≡ given c → value_at c.0.0 s.place t c.1 ≡ given q → (IsBytes q.1.bytes → ReadsCodes c.0.1 q.0 u q.1 e) → ReadsCodes st t u s e
unfolding Spells
before_codes st t u s e c q fits code value others =
    let i = code_takes st c.0 s c.1 fits code in
    let on = bytes_on s c.1 i.text i.front fits in
    let v = value_takes c.0.0 s.place t q.0 c.1 q.1 on value in
    let k = others (bytes_on c.1 q.1 v.text v.front on) in
    let place : q.1.place ≡ s.place + length i.text + length v.text = omega (arith, i.front.place, v.front.place) in
    record {
      through = c.0 ∷ k.through;
      text = i.text ++ (v.text ++ k.text);
      spelled = record {
        code = i.text;
        value = v.text;
        others = k.text;
        parts = refl;
        told = q.0;
        stands = i.spelled;
        tells = v.spelled;
        behind = subst (λ (place : ℕ). Spells k.through c.0.1 place q.0 u k.text) place k.spelled;
      };
      front = front_then s c.1 e i.text (v.text ++ k.text) i.front (front_then c.1 q.1 e v.text k.text v.front k.front);
    }

codes_takes : (n : ℕ) (st : State) (t u : Told) (s e : Spot) → left_to_come st s ≤ n → IsBytes s.bytes → codes_at n st t s ≡ given (u, e) → ReadsCodes st t u s e
unfolding codes_at
codes_takes zero st t u s e le fits r = elim (cases_Bool (eqb (length (codes st)) 0)) [
  | inl none ↦ ends_there st t u s e (no_codes st none) r
  | inr some ↦ absurd (no_room st s some le)
]
codes_takes (suc m) st t u s e le fits r = elim (cases_Bool (eqb (length (codes st)) 0)) [
  | inl none ↦ ends_there st t u s e (no_codes st none) (sym (none_is_end (suc m) st t s none) ∙ r)
  | inr some ↦
      let r' : (code_at align.Bits (productions st) s >>= λ c. value_at c.0.0 s.place t c.1 >>= λ q. codes_at m c.0.1 q.0 q.1) ≡ given (u, e) = (rw some refl) ∙ r in
      let c = bind_ok (code_at align.Bits (productions st) s) (λ (c : Code × Spot). value_at c.0.0 s.place t c.1 >>= λ q. codes_at m c.0.1 q.0 q.1) (u, e) r' in
      let q = bind_ok (value_at c.0.0.0 s.place t c.0.1) (λ (q : Told × Spot). codes_at m c.0.0.1 q.0 q.1) (u, e) c.2 in
      let less = comes_less st s t c.0 q.0 c.1 q.1 in
      before_codes st t u s e c.0 q.0 fits c.1 q.1 (λ on. codes_takes m c.0.0.1 q.0.0 u q.0.1 e (omega (arith, less, le)) on q.2)
]

-- a state with a code has codes
has_codes : (cs : List Code) (i : ℕ) (c : Code) → slice_get cs i ≡ Some c → eqb (length cs) 0 ≡ false
has_codes [] i c e = absurd cc
has_codes (d ∷ ds) i c e = ne_eqb (suc (length ds)) 0 (λ same. omega (arith, same))

pub codes_again : (n : ℕ) (cs : List Code) (st : State) (t u : Told) (s : Spot) (text more : List Bool) → left_to_come st s ≤ n → IsBytes s.bytes → Spells cs st s.place t u text → rest s ≡ text ++ more → codes_at n st t s ≡ given (u, moved s (length text))
unfolding Spells
codes_again n [] st t u s text more le fits w e =
    let none : eqb (length (codes st)) 0 ≡ true = rw w.0 refl in
    none_is_end n st t s none ∙ ap (λ (z : Told). given (z, s)) w.1 ∙ (rw w.2 (ap (λ (z : Spot). given (u, z)) (sym (not_moved s))))
codes_again n (c ∷ cs) st t u s text more le fits w e =
    let e1 : rest s ≡ w.code ++ ((w.value ++ w.others) ++ more) = e ∙ ap (λ (x : List Bool). x ++ more) w.parts ∙ append_assoc w.code (w.value ++ w.others) more in
    let r1 : code_at align.Bits (productions st) s ≡ given (c, moved s (length w.code)) = code_again st c w.code s ((w.value ++ w.others) ++ more) fits w.stands e1 in
    let e2 : rest (moved s (length w.code)) ≡ w.value ++ (w.others ++ more) = rest_moved s w.code ((w.value ++ w.others) ++ more) e1 ∙ append_assoc w.value w.others more in
    let r2 : value_at c.0 s.place t (moved s (length w.code)) ≡ given (w.told, moved (moved s (length w.code)) (length w.value)) = value_again c.0 s.place t w.told w.value (moved s (length w.code)) (w.others ++ more) fits w.tells e2 in
    let e3 : rest (moved (moved s (length w.code)) (length w.value)) ≡ w.others ++ more = rest_moved (moved s (length w.code)) w.value (w.others ++ more) e2 in
    let k = code_found (codes st) s (c, moved s (length w.code)) r1 in
    let some = has_codes (codes st) k.place c k.there in
    let less = comes_less st s t (c, moved s (length w.code)) (w.told, moved (moved s (length w.code)) (length w.value)) r1 r2 in
    let last : moved (moved (moved s (length w.code)) (length w.value)) (length w.others) ≡ moved s (length text) =
    ap (λ (z : Spot). moved z (length w.others)) (moved_on s (w.code ++ w.value) w.code w.value refl) ∙ moved_on s text (w.code ++ w.value) w.others (w.parts ∙ sym (append_assoc w.code w.value w.others)) in
    by n le some less r1 r2 (λ m le'. codes_again m cs c.1 w.told u (moved (moved s (length w.code)) (length w.value)) w.others more le' fits w.behind e3) last
  where
    by : (n : ℕ) → left_to_come st s ≤ n → eqb (length (codes st)) 0 ≡ false → left_to_come c.1 (moved (moved s (length w.code)) (length w.value)) < left_to_come st s
        → code_at align.Bits (productions st) s ≡ given (c, moved s (length w.code))
        → value_at c.0 s.place t (moved s (length w.code)) ≡ given (w.told, moved (moved s (length w.code)) (length w.value))
        → ((m : ℕ) → left_to_come c.1 (moved (moved s (length w.code)) (length w.value)) ≤ m → codes_at m c.1 w.told (moved (moved s (length w.code)) (length w.value)) ≡ given (u, moved (moved (moved s (length w.code)) (length w.value)) (length w.others)))
        → moved (moved (moved s (length w.code)) (length w.value)) (length w.others) ≡ moved s (length text)
        → codes_at n st t s ≡ given (u, moved s (length text))
    by zero le some less r1 r2 others last = absurd (no_room st s some le)
    by (suc m) le some less r1 r2 others last =
        step_is m st t s (c, moved s (length w.code)) (w.told, moved (moved s (length w.code)) (length w.value)) some r1 r2
        ∙ others m (omega (arith, less, le)) ∙ ap (λ (z : Spot). given (u, z)) last

-- ---- the laws
no_conflict : (x : Bool) (q p : Told × Spot) (f : Fault) → cond x (Err f) (given q) ≡ given p → (x ≡ false) × (q ≡ p)
no_conflict true q p f e = absurd cc
no_conflict false q p f e = (refl, ok_is q p e)

pub read_spelled : ReadIsSpelled
unfolding options_at document_at
read_spelled told s t fits r =
    let b = bind_ok (codes_at (left_to_come state.Document s) state.Document untold s) (λ (q : Told × Spot). cond (conflicts q.0.options) (fault_at kind.Conflict q.1) (given q)) (told, t) r in
    let g = no_conflict (conflicts b.0.0.options) b.0 (told, t) (record { kind = kind.Conflict; bit = b.0.1.place }) b.2 in
    let k = codes_takes (left_to_come state.Document s) state.Document untold told s t (omega arith) fits (b.1 ∙ ap (λ (q : Told × Spot). given q) g.1) in
    let free : conflicts told.options ≡ false = ap (λ (q : Told × Spot). conflicts q.0.options) (sym g.1) ∙ g.0 in
    (k.text, record { codes = k.through; spelled = k.spelled }, free, k.front)

pub spelled_read : SpelledIsRead
unfolding options_at document_at
spelled_read told text s more fits w free e =
    let r = codes_again (left_to_come state.Document s) w.codes state.Document untold told s text more (omega arith) fits w.spelled e in
    rw (r, free) refl
