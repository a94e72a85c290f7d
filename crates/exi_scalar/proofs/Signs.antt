-- Bits, signs and what is made of them: spelled and read.
use Rattle.std.proofs.Common.{◌≡◌, ℕ, zero, suc, ◌+◌, ◌-◌, ◌*◌, ◌%◌, ◌^◌, ◌<◌, ◌≤◌, Bool, true, false, cond, eqb, leb, ltb, ℤ, List, ◌++◌, Result, Ok, Err, refl, sym, ap, ◌∙◌, subst, append_assoc, arith}
use Rattle.std.proofs.lemmas.Bool.{lt-ltb, ltb-true}
use Rattle.exi_bits.specs.declared.align.Align.{Align}
use Rattle.exi_bits.specs.declared.align.Align.TheVariants as align
use Rattle.exi_bits.specs.declared.fault.Fault.{Fault}
use Rattle.exi_bits.specs.declared.fault.Kind.TheVariants as kind
use Rattle.exi_bits.specs.Bits.{Spot, bits, number, taken}
use Rattle.exi_bits.specs.Unsigned.{◌>>=◌, below_at, shortest, unsigned_at}
use Rattle.exi_bits.specs.Widths.{width_for, width_from}
use Rattle.exi_bits.proofs.BitLaws.{pow_up}
use Rattle.exi_bits.proofs.UnsignedLaws.{shortest_spelled}
use Rattle.exi_items.specs.Spellings.{Made, SpellsUnsigned, Then}
use Rattle.exi_items.proofs.Items.{Item, given, item_made, item_below, item_same, item_spelled, item_tested, item_then, item_unsigned, then_made}
use Rattle.exi_names.specs.Seen.{Value, text, boolean, integer, decimal, float, moment, binary, items, name}
use Rattle.exi_names.specs.Wholes.{Number}
use Rattle.exi_scalar.specs.Scalars.{IsBoolean, IsFloat, IsInteger, bit_at, boolean_at, boolean_bits, decimal_at, decimal_bits, float_at, float_bits, float_of, integer_at, integer_bits, one_if, pair_at, parts_of, parts_of_int, signed_at, signed_bits, small_at, whole_of}
use Rattle.exi_scalar.specs.Spelled.{SpellsBit, SpellsBoolean, SpellsDecimal, SpellsFloat, SpellsInteger, SpellsSigned}

-- ---- a bit
Places : ℕ → Align → ℕ → List Bool → Type 0
Places count a v line = (ltb v count ≡ true) × ((line ≡ number (width_for count) a v) × (v < 2 ^ taken (width_for count) a))

narrow : (n : ℕ) (a : Align) → n ≤ taken n a
narrow n align.Bits = omega arith
narrow n align.Bytes = omega arith

one_fits : (b : Bool) (a : Align) → one_if b < 2 ^ taken 1 a
one_fits false align.Bits = omega arith
one_fits true align.Bits = omega arith
one_fits false align.Bytes = omega arith
one_fits true align.Bytes = omega arith

pub item_bit : (a : Align) → Item {X = Bool} a (bit_at a) (SpellsBit a)
unfolding bit_at Places width_from
item_bit a = item_spelled a (bit_at a) (Made (λ v. eqb v 1) (Places 2 a)) (SpellsBit a) to from (item_made a (below_at 2 a kind.BadPlace) (Places 2 a) (λ v. eqb v 1) (item_below 2 a kind.BadPlace))
  where
    bit_of : (v : ℕ) → v < 2 → one_if (eqb v 1) ≡ v
    bit_of zero lt = refl
    bit_of (suc zero) lt = refl
    bit_of (suc (suc v)) lt = absurd (omega arith)

    to : (b : Bool) (line : List Bool) → Made (λ v. eqb v 1) (Places 2 a) b line → SpellsBit a b line
    to b line m =
        let lt : m.from < 2 = ltb-true m.from 2 m.spelled.0 in
        let e : one_if b ≡ m.from = ap one_if (sym m.is) ∙ bit_of m.from lt in
        m.spelled.1.0 ∙ ap (λ (v : ℕ). number 1 a v) (sym e)

    from : (b : Bool) (line : List Bool) → SpellsBit a b line → Made (λ v. eqb v 1) (Places 2 a) b line
    from false line e = record { from = 0; is = refl; spelled = (refl, (e, one_fits false a)) }
    from true line e = record { from = 1; is = refl; spelled = (refl, (e, one_fits true a)) }

-- ---- a sign and a number
tested : (most : ℕ) (m : Bool × Spot) (fault : Fault) (q : Result (ℕ × Spot) Fault)
    → (q >>= λ size. cond (ltb size.0 most) (given {X = Bool × ℕ} ((m.0, size.0), size.1)) (Err fault)) ≡ ((q >>= λ size. cond (ltb size.0 most) (given size) (Err fault)) >>= λ y. given {X = Bool × ℕ} ((m.0, y.0), y.1))
tested most m fault (Err e) = refl
tested most m fault (Ok z) = by_test (ltb z.0 most)
  where
    by_test : (b : Bool) → cond b (given {X = Bool × ℕ} ((m.0, z.0), z.1)) (Err fault) ≡ (cond b (given z) (Err fault) >>= λ y. given {X = Bool × ℕ} ((m.0, y.0), y.1))
    by_test true = refl
    by_test false = refl

Below : ℕ → ℕ → List Bool → Type 0
Below most n line = (ltb n most ≡ true) × SpellsUnsigned n line

signed_same : (most : ℕ) (r : Result (Bool × Spot) Fault)
    → (r >>= λ minus. unsigned_at minus.1 >>= λ size. cond (ltb size.0 most) (given {X = Bool × ℕ} ((minus.0, size.0), size.1)) (Err (record { kind = kind.TooWide; bit = minus.1.place })))
    ≡ (r >>= λ x. (unsigned_at x.1 >>= λ size. cond (ltb size.0 most) (given size) (Err (record { kind = kind.TooWide; bit = x.1.place }))) >>= λ y. given {X = Bool × ℕ} ((x.0, y.0), y.1))
signed_same most (Err e) = refl
signed_same most (Ok m) = tested most m (record { kind = kind.TooWide; bit = m.1.place }) (unsigned_at m.1)

signed_below : (a : Align) (most : ℕ) → Item {X = Bool × ℕ} a (λ s. bit_at a s >>= λ minus. unsigned_at minus.1 >>= λ size. cond (ltb size.0 most) (given {X = Bool × ℕ} ((minus.0, size.0), size.1)) (Err (record { kind = kind.TooWide; bit = minus.1.place }))) (λ p line. (p.1 < most) × Then (SpellsBit a p.0) (SpellsUnsigned p.1) line)
unfolding Below
signed_below a most =
    item_spelled a _ (λ p. Then (SpellsBit a p.0) (Below most p.1)) (λ p line. (p.1 < most) × Then (SpellsBit a p.0) (SpellsUnsigned p.1) line) to from
    (item_same a _ _ _ (λ s. signed_same most (bit_at a s))
    (item_then a (bit_at a) (λ s. unsigned_at s >>= λ size. cond (ltb size.0 most) (given size) (Err (record { kind = kind.TooWide; bit = s.place }))) (SpellsBit a) (Below most) (item_bit a)
    (item_tested a unsigned_at SpellsUnsigned (λ n. ltb n most) (λ s n. record { kind = kind.TooWide; bit = s.place }) (item_unsigned a))))
  where
    to : (p : Bool × ℕ) (line : List Bool) → Then (SpellsBit a p.0) (Below most p.1) line → (p.1 < most) × Then (SpellsBit a p.0) (SpellsUnsigned p.1) line
    to p line w = (ltb-true p.1 most w.behind.0, record { first = w.first; second = w.second; parts = w.parts; front = w.front; behind = w.behind.1 })

    from : (p : Bool × ℕ) (line : List Bool) → (p.1 < most) × Then (SpellsBit a p.0) (SpellsUnsigned p.1) line → Then (SpellsBit a p.0) (Below most p.1) line
    from p line w = record { first = w.1.first; second = w.1.second; parts = w.1.parts; front = w.1.front; behind = (lt-ltb p.1 most w.0, w.1.behind) }

pub item_signed : (a : Align) → Item {X = Bool × ℕ} a (signed_at a) (SpellsSigned 127 a)
unfolding signed_at
item_signed a = signed_below a (2 ^ 127)

-- ---- Integer
pub item_integer : (a : Align) → Item {X = Number} a (integer_at a) (SpellsInteger a)
unfolding integer_at
item_integer a = item_made a (signed_at a) (SpellsSigned 127 a) whole_of (item_signed a)

-- ---- Float
pub item_small : (n : ℕ) (a : Align) → n ≤ 127 → Item {X = Bool × ℕ} a (small_at n a) (SpellsSigned n a)
unfolding small_at
item_small n a few =
    item_spelled a (small_at n a) (λ p line. (ltb p.1 (2 ^ n) ≡ true) × SpellsSigned 127 a p line) (SpellsSigned n a) to from
    (item_tested a (signed_at a) (SpellsSigned 127 a) (λ p. ltb p.1 (2 ^ n)) (λ s p. record { kind = kind.BadFloat; bit = s.place }) (item_signed a))
  where
    to : (p : Bool × ℕ) (line : List Bool) → (ltb p.1 (2 ^ n) ≡ true) × SpellsSigned 127 a p line → SpellsSigned n a p line
    to p line w = (ltb-true p.1 (2 ^ n) w.0, w.1.1)

    from : (p : Bool × ℕ) (line : List Bool) → SpellsSigned n a p line → (ltb p.1 (2 ^ n) ≡ true) × SpellsSigned 127 a p line
    from p line w = let up = pow_up n 127 few in (lt-ltb p.1 (2 ^ n) w.0, (omega (arith, w.0), w.1))

pub item_float : (a : Align) → Item {X = Value} a (float_at a) (SpellsFloat a)
unfolding float_at
item_float a =
    item_same a _ (float_at a) (SpellsFloat a) (λ s. then_made (λ m e. float_of m e) (small_at 63 a s) (small_at 14 a))
    (item_made {X = (Bool × ℕ) × (Bool × ℕ)} a _ (λ p. Then (SpellsSigned 63 a p.0) (SpellsSigned 14 a p.1)) (λ p. float_of p.0 p.1)
    (item_then a (small_at 63 a) (small_at 14 a) (SpellsSigned 63 a) (SpellsSigned 14 a) (item_small 63 a (omega arith)) (item_small 14 a (omega arith))))

-- ---- Decimal
decimal_of : Bool × (ℕ × ℕ) → Value
decimal_of p = decimal p.0 p.1.0 p.1.1

decimal_end : (m : Bool) (w : ℕ) (q : Result (ℕ × Spot) Fault)
    → (q >>= λ b. given {X = Value} (decimal m w b.0, b.1)) ≡ (((q >>= λ b. given {X = ℕ × ℕ} ((w, b.0), b.1)) >>= λ y. given {X = Bool × (ℕ × ℕ)} ((m, y.0), y.1)) >>= λ z. given {X = Value} (decimal_of z.0, z.1))
unfolding decimal_of
decimal_end m w (Ok b) = refl
decimal_end m w (Err e) = refl

decimal_rest : (m : Bool) (q : Result (ℕ × Spot) Fault)
    → (q >>= λ w. unsigned_at w.1 >>= λ b. given {X = Value} (decimal m w.0 b.0, b.1)) ≡ (((q >>= λ w. unsigned_at w.1 >>= λ b. given {X = ℕ × ℕ} ((w.0, b.0), b.1)) >>= λ y. given {X = Bool × (ℕ × ℕ)} ((m, y.0), y.1)) >>= λ z. given {X = Value} (decimal_of z.0, z.1))
decimal_rest m (Ok w) = decimal_end m w.0 (unsigned_at w.1)
decimal_rest m (Err e) = refl

decimal_same : (r : Result (Bool × Spot) Fault)
    → (r >>= λ m. unsigned_at m.1 >>= λ w. unsigned_at w.1 >>= λ b. given {X = Value} (decimal m.0 w.0 b.0, b.1)) ≡ ((r >>= λ m. (unsigned_at m.1 >>= λ w. unsigned_at w.1 >>= λ b. given {X = ℕ × ℕ} ((w.0, b.0), b.1)) >>= λ y. given {X = Bool × (ℕ × ℕ)} ((m.0, y.0), y.1)) >>= λ z. given {X = Value} (decimal_of z.0, z.1))
decimal_same (Ok m) = decimal_rest m.0 (unsigned_at m.1)
decimal_same (Err e) = refl

pub item_decimal : (a : Align) → Item {X = Value} a (decimal_at a) (SpellsDecimal a)
unfolding decimal_at decimal_of
item_decimal a =
    item_spelled a (decimal_at a) (Made {X = Bool × (ℕ × ℕ)} decimal_of (λ p. Then (SpellsBit a p.0) (Then (SpellsUnsigned p.1.0) (SpellsUnsigned p.1.1)))) (SpellsDecimal a) to from
    (item_same a _ (decimal_at a) _ (λ s. decimal_same (bit_at a s))
    (item_made {X = Bool × (ℕ × ℕ)} a _ (λ p. Then (SpellsBit a p.0) (Then (SpellsUnsigned p.1.0) (SpellsUnsigned p.1.1))) decimal_of
    (item_then {Y = ℕ × ℕ} a (bit_at a) _ (SpellsBit a) (λ q. Then (SpellsUnsigned q.0) (SpellsUnsigned q.1)) (item_bit a)
    (item_then a unsigned_at unsigned_at SpellsUnsigned SpellsUnsigned (item_unsigned a) (item_unsigned a)))))
  where
    to : (v : Value) (line : List Bool) → Made {X = Bool × (ℕ × ℕ)} decimal_of (λ p. Then (SpellsBit a p.0) (Then (SpellsUnsigned p.1.0) (SpellsUnsigned p.1.1))) v line → SpellsDecimal a v line
    to v line m = subst (λ (w : Value). SpellsDecimal a w line) m.is m.spelled

    from : (v : Value) (line : List Bool) → SpellsDecimal a v line → Made {X = Bool × (ℕ × ℕ)} decimal_of (λ p. Then (SpellsBit a p.0) (Then (SpellsUnsigned p.1.0) (SpellsUnsigned p.1.1))) v line
    from (decimal m w b) line h = record { from = (m, (w, b)); is = refl; spelled = h }
    from (text t) line h = absurd h
    from (boolean t d) line h = absurd h
    from (integer n) line h = absurd h
    from (float m e) line h = absurd h
    from (moment m) line h = absurd h
    from (binary k o) line h = absurd h
    from (items l) line h = absurd h
    from (name n) line h = absurd h

-- ---- Boolean
plain_of : Bool → Value
plain_of b = boolean b false

pair_of : ℕ → Value
pair_of n = boolean (leb 2 n) (eqb (n % 2) 1)

spells_plain : (a : Align) (v : Value) (line : List Bool) → SpellsBoolean false a v line → Made plain_of (SpellsBit a) v line
unfolding plain_of
spells_plain a (boolean t true) line h = absurd cc
spells_plain a (boolean t false) line h = record { from = t; is = refl; spelled = h.1 }
spells_plain a (text t) line h = absurd h
spells_plain a (integer n) line h = absurd h
spells_plain a (decimal m w b) line h = absurd h
spells_plain a (float m e) line h = absurd h
spells_plain a (moment m) line h = absurd h
spells_plain a (binary k o) line h = absurd h
spells_plain a (items l) line h = absurd h
spells_plain a (name n) line h = absurd h

spelled_plain : (a : Align) (v : Value) (line : List Bool) → Made plain_of (SpellsBit a) v line → SpellsBoolean false a v line
unfolding plain_of
spelled_plain a v line m = subst (λ (w : Value). SpellsBoolean false a w line) m.is (refl, m.spelled)

four_fit : (t d : Bool) (a : Align) → 2 * one_if t + one_if d < 2 ^ taken 2 a
four_fit false false align.Bits = omega arith
four_fit false true align.Bits = omega arith
four_fit true false align.Bits = omega arith
four_fit true true align.Bits = omega arith
four_fit false false align.Bytes = omega arith
four_fit false true align.Bytes = omega arith
four_fit true false align.Bytes = omega arith
four_fit true true align.Bytes = omega arith

pair_made : (t d : Bool) → pair_of (2 * one_if t + one_if d) ≡ boolean t d
unfolding pair_of
pair_made false false = refl
pair_made false true = refl
pair_made true false = refl
pair_made true true = refl

pair_below : (t d : Bool) → ltb (2 * one_if t + one_if d) 4 ≡ true
pair_below false false = refl
pair_below false true = refl
pair_below true false = refl
pair_below true true = refl

spells_pair : (a : Align) (v : Value) (line : List Bool) → SpellsBoolean true a v line → Made pair_of (Places 4 a) v line
unfolding Places width_from
spells_pair a (boolean t d) line h = record { from = 2 * one_if t + one_if d; is = pair_made t d; spelled = (pair_below t d, (h, four_fit t d a)) }
spells_pair a (text t) line h = absurd h
spells_pair a (integer n) line h = absurd h
spells_pair a (decimal m w b) line h = absurd h
spells_pair a (float m e) line h = absurd h
spells_pair a (moment m) line h = absurd h
spells_pair a (binary k o) line h = absurd h
spells_pair a (items l) line h = absurd h
spells_pair a (name n) line h = absurd h

-- the number that the two line tell
pair_back : (n : ℕ) → n < 4 → 2 * one_if (leb 2 n) + one_if (eqb (n % 2) 1) ≡ n
pair_back zero lt = refl
pair_back (suc zero) lt = refl
pair_back (suc (suc zero)) lt = refl
pair_back (suc (suc (suc zero))) lt = refl
pair_back (suc (suc (suc (suc n)))) lt = absurd (omega arith)

spelled_pair : (a : Align) (v : Value) (line : List Bool) → Made pair_of (Places 4 a) v line → SpellsBoolean true a v line
unfolding pair_of Places width_from
spelled_pair a v line m = subst (λ (w : Value). SpellsBoolean true a w line) m.is (m.spelled.1.0 ∙ ap (λ (n : ℕ). number 2 a n) (sym (pair_back m.from (ltb-true m.from 4 m.spelled.0))))

pub item_boolean : (pattern : Bool) (a : Align) → Item {X = Value} a (boolean_at pattern a) (SpellsBoolean pattern a)
unfolding boolean_at pair_at plain_of pair_of Places
item_boolean false a = item_spelled a (boolean_at false a) (Made plain_of (SpellsBit a)) (SpellsBoolean false a) (spelled_plain a) (spells_plain a) (item_made a (bit_at a) (SpellsBit a) plain_of (item_bit a))
item_boolean true a = item_spelled a (boolean_at true a) (Made pair_of (Places 4 a)) (SpellsBoolean true a) (spelled_pair a) (spells_pair a) (item_made a (below_at 4 a kind.BadPlace) (Places 4 a) pair_of (item_below 4 a kind.BadPlace))

-- ---- what is written
pub boolean_written : (pattern : Bool) (a : Align) (v : Value) → IsBoolean pattern v → SpellsBoolean pattern a v (boolean_bits pattern a v)
boolean_written false a (boolean t d) h = (h refl, refl)
boolean_written true a (boolean t d) h = refl
boolean_written false a (text t) h = absurd h
boolean_written false a (integer n) h = absurd h
boolean_written false a (decimal m w b) h = absurd h
boolean_written false a (float m e) h = absurd h
boolean_written false a (moment m) h = absurd h
boolean_written false a (binary k o) h = absurd h
boolean_written false a (items l) h = absurd h
boolean_written false a (name n) h = absurd h
boolean_written true a (text t) h = absurd h
boolean_written true a (integer n) h = absurd h
boolean_written true a (decimal m w b) h = absurd h
boolean_written true a (float m e) h = absurd h
boolean_written true a (moment m) h = absurd h
boolean_written true a (binary k o) h = absurd h
boolean_written true a (items l) h = absurd h
boolean_written true a (name n) h = absurd h

written_unsigned : (n : ℕ) → n < 2 ^ 128 → SpellsUnsigned n (bits (shortest n))
written_unsigned n lt = record { octets = shortest n; unsigned = shortest_spelled n lt; bits = refl }

written_signed : (n : ℕ) (a : Align) (p : Bool × ℕ) → n ≤ 127 → p.1 < 2 ^ n → SpellsSigned n a p (signed_bits a p)
written_signed n a p few lt =
    let up = pow_up n 128 (omega arith) in
    (lt, record { first = number 1 a (one_if p.0); second = bits (shortest p.1); parts = refl; front = refl; behind = written_unsigned p.1 (omega arith) })

whole_again : (v : Number) → (v.size ≡ 0 → v.minus ≡ false) → whole_of (parts_of v) ≡ v
whole_again v h = by_parts v.minus v.size h
  where
    by_parts : (m : Bool) (n : ℕ) → (n ≡ 0 → m ≡ false) → whole_of (m, n - one_if m) ≡ record { minus = m; size = n }
    by_parts false n h = let e : n - 0 ≡ n = omega arith in ap (λ (k : ℕ). record { minus = false; size = k }) e
    by_parts true zero h = absurd (let e = h refl in cc)
    by_parts true (suc n) h = let e : suc n - 1 ≡ n = omega arith in ap (λ (k : ℕ). record { minus = true; size = suc k }) e

pub integer_written : (a : Align) (v : Number) → (v.size ≡ 0 → v.minus ≡ false) → IsInteger v → SpellsInteger a v (integer_bits a v)
integer_written a v h lt = record { from = parts_of v; is = whole_again v h; spelled = written_signed 127 a (parts_of v) (omega arith) lt }

pub decimal_written : (a : Align) (minus : Bool) (whole back : ℕ) → whole < 2 ^ 128 → back < 2 ^ 128 → SpellsDecimal a (decimal minus whole back) (decimal_bits a (decimal minus whole back))
decimal_written a minus whole back lw lb = record {
  first = number 1 a (one_if minus);
  second = bits (shortest whole) ++ bits (shortest back);
  parts = append_assoc (number 1 a (one_if minus)) (bits (shortest whole)) (bits (shortest back));
  front = refl;
  behind = record { first = bits (shortest whole); second = bits (shortest back); parts = refl; front = written_unsigned whole lw; behind = written_unsigned back lb };
}

pub float_written : (a : Align) (m e : ℤ) → (parts_of_int m).1 < 2 ^ 63 → IsFloat (float m e) → SpellsFloat a (float m e) (float_bits a (float m e))
float_written a m e lt h = record {
  from = (parts_of_int m, parts_of_int e);
  is = h.1;
  spelled = record {
    first = signed_bits a (parts_of_int m);
    second = signed_bits a (parts_of_int e);
    parts = refl;
    front = written_signed 63 a (parts_of_int m) (omega arith) lt;
    behind = written_signed 14 a (parts_of_int e) (omega arith) h.0;
  };
}
