-- The numbers that stand side by side in a word, and the date and time that they tell.
use Rattle.std.proofs.Common.{◌≡◌, ℕ, ◌+◌, ◌*◌, ◌/◌, ◌%◌, ◌^◌, ◌<◌, ◌≤◌, ◌==◌, Bool, ltb, List, length, take, drop, Some, None, Ok, refl, sym, ap, ◌∙◌, arith}
use Rattle.std.proofs.lemmas.List.{length-take, drop-drop, drop-take, take-take}
use Rattle.std.proofs.lemmas.Bool.{le-ltb, lt-ltb, ltb-false}
use Rattle.std.specs.Prelude.{ℤ}
use Rattle.exi_bits.specs.declared.align.Align.TheVariants as align
use Rattle.exi_bits.specs.declared.fault.Kind.TheVariants as fault
use Rattle.exi_bits.specs.Bits.{Spot, at_bit, bits, left, moved, number_at, rest, value_of}
use Rattle.exi_bits.specs.Unsigned.{below_at, field_at, unsigned_at}
use Rattle.exi_bits.specs.Widths.{width_from}
use Rattle.exi_bits.proofs.BitLaws.{middle_of}
use Rattle.exi_bits.proofs.Groups.{one_octet}
use Rattle.exi_bits.proofs.Spelled.{guard_some, length-rest}
use Rattle.exi_names.specs.declared.moment.Moment.{Moment}
use Rattle.exi_names.specs.declared.moment.MomentKind.TheVariants as form
use Rattle.exi_moment.specs.Reading.{fraction_at, moment_at, month_day_at, month_day_of, offset_at, time_at, time_of, year_at, year_of, zone_at, zone_of}

-- a number of k bits in one of n, with r bits behind it
pub part : (n k r w p : ℕ) (s t : Spot) (a : ℕ) → number_at n align.Bits s ≡ Some (w, t) → n ≡ a + k + r → p ≡ s.place + a → number_at k align.Bits (at_bit s p) ≡ Some (w / 2 ^ r % 2 ^ k, at_bit s (p + k))
unfolding number_at
part n k r w p s t a e size place =
    let g = guard_some (ltb (left s) n) (value_of (take n (rest s)), moved s n) (w, t) e in
    let long : n ≤ left s = ltb-false (left s) n g.0 in
    let is : value_of (take n (rest s)) ≡ w = ap (λ (q : ℕ × Spot). q.0) g.1 in
    let len : a + k + r ≡ length (take n (rest s)) = omega (arith, length-take n (rest s), length-rest s) in
    let behind : drop p (bits s.bytes) ≡ drop a (rest s) = ap (λ (q : ℕ). drop q (bits s.bytes)) place ∙ sym (drop-drop a s.place (bits s.bytes)) in
    let more : n ≡ a + (k + r) = omega arith in
    let cut : take k (drop a (take n (rest s))) ≡ take k (drop a (rest s)) =
    ap (λ (q : ℕ). take k (drop a (take q (rest s)))) more ∙ ap (λ (x : List Bool). take k x) (drop-take a (k + r) (rest s)) ∙ take-take k (k + r) (drop a (rest s)) (omega arith) in
    let value : value_of (take k (drop p (bits s.bytes))) ≡ w / 2 ^ r % 2 ^ k =
    ap (λ (x : List Bool). value_of (take k x)) behind ∙ sym (ap value_of cut) ∙ sym (middle_of (take n (rest s)) a k r len) ∙ ap (λ (x : ℕ). x / 2 ^ r % 2 ^ k) is in
    rw (le-ltb (left (at_bit s p)) k (omega arith), value) refl

year_is : (s u v : Spot) (b o : ℕ) (y : ℤ) → number_at 1 align.Bits s ≡ Some (b, u) → b < 2 → number_at 8 align.Bits u ≡ Some (o, v) → o < 128 → year_of (b == 1) o ≡ Some y → year_at align.Bits s ≡ Ok (y, v)
unfolding year_at below_at field_at width_from
year_is s u v b o y sign bit octet small is = rw (sign, lt-ltb b 2 bit, one_octet o u v octet small, lt-ltb o (2 ^ 127) (omega arith), is) refl

month_day_is : (s t : Spot) (n : ℕ) (d : ℕ × ℕ) → number_at 9 align.Bits s ≡ Some (n, t) → month_day_of form.DateTime n ≡ Some d → month_day_at form.DateTime align.Bits s ≡ Ok (d, t)
unfolding month_day_at field_at
month_day_is s t n d e is = rw (e, is) refl

time_is : (s t : Spot) (n : ℕ) (d : ℕ × ℕ × ℕ) → number_at 17 align.Bits s ≡ Some (n, t) → time_of n ≡ Some d → time_at align.Bits s ≡ Ok (d, t)
unfolding time_at field_at
time_is s t n d e is = rw (e, is) refl

fraction_is : (s t : Spot) (b : ℕ) → number_at 1 align.Bits s ≡ Some (b, t) → b ≡ 0 → fraction_at align.Bits s ≡ Ok (None, t)
unfolding fraction_at below_at field_at width_from
fraction_is s t b e none = rw (e, none) refl

zone_is : (s t u : Spot) (b n : ℕ) (z : ℤ) → number_at 1 align.Bits s ≡ Some (b, t) → b ≡ 1 → number_at 11 align.Bits t ≡ Some (n, u) → zone_of n ≡ Some z → zone_at align.Bits s ≡ Ok (Some z, u)
unfolding zone_at offset_at below_at field_at width_from
zone_is s t u b n z e one f is = rw (e, one, f, is) refl

-- what 48 bits tell
pub record Short (w : ℕ) (m : Moment) : Type 0 where
  pub octet : w / 2 ^ 39 % 2 ^ 8 < 128
  pub whole : w / 2 ^ 12 % 2 ^ 1 ≡ 0
  pub zoned : w / 2 ^ 11 % 2 ^ 1 ≡ 1
  pub kind : m.kind ≡ form.DateTime
  pub year : year_of (w / 2 ^ 47 % 2 ^ 1 == 1) (w / 2 ^ 39 % 2 ^ 8) ≡ Some m.year
  pub month_day : month_day_of form.DateTime (w / 2 ^ 30 % 2 ^ 9) ≡ Some (m.month, m.day)
  pub time : time_of (w / 2 ^ 13 % 2 ^ 17) ≡ Some (m.hour, m.minute, m.second)
  pub fraction : m.fraction ≡ None
  pub zone : (z : ℤ) × (zone_of (w / 2 ^ 0 % 2 ^ 11) ≡ Some z) × (m.zone ≡ Some z)

pub short_is : (w : ℕ) (s t : Spot) (m : Moment) → number_at 48 align.Bits s ≡ Some (w, t) → t ≡ moved s 48 → Short w m → moment_at form.DateTime align.Bits s ≡ Ok (m, t)
unfolding moment_at
short_is w s t m e moves short =
    let p : ℕ = s.place in
    let sign = part 48 1 47 w s.place s t 0 e (omega arith) (omega arith) in
    let octet = part 48 8 39 w (s.place + 1) s t 1 e (omega arith) refl in
    let day = part 48 9 30 w (s.place + 1 + 8) s t 9 e (omega arith) (omega arith) in
    let clock = part 48 17 13 w (s.place + 1 + 8 + 9) s t 18 e (omega arith) (omega arith) in
    let fraction = part 48 1 12 w (s.place + 1 + 8 + 9 + 17) s t 35 e (omega arith) (omega arith) in
    let zoned = part 48 1 11 w (s.place + 1 + 8 + 9 + 17 + 1) s t 36 e (omega arith) (omega arith) in
    let zone = part 48 11 0 w (s.place + 1 + 8 + 9 + 17 + 1 + 1) s t 37 e (omega arith) (omega arith) in
    let a = year_is s _ _ (w / 2 ^ 47 % 2 ^ 1) (w / 2 ^ 39 % 2 ^ 8) m.year sign (omega arith) octet short.octet short.year in
    let b = month_day_is _ _ (w / 2 ^ 30 % 2 ^ 9) (m.month, m.day) day short.month_day in
    let c = time_is _ _ (w / 2 ^ 13 % 2 ^ 17) (m.hour, m.minute, m.second) clock short.time in
    let d = fraction_is _ _ (w / 2 ^ 12 % 2 ^ 1) fraction short.whole in
    let f = zone_is _ _ _ (w / 2 ^ 11 % 2 ^ 1) (w / 2 ^ 0 % 2 ^ 11) short.zone.0 zoned short.zoned zone short.zone.1 in
    let end : s.place + 1 + 8 + 9 + 17 + 1 + 1 + 11 ≡ s.place + 48 = omega arith in
    rw (a, b, c, d, f, moves, end, short.kind, short.fraction, short.zone.2) refl
