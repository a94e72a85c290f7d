-- Fields and their numbers, both ways.
use Rattle.std.proofs.Common.{◌≡◌, ℕ, zero, suc, ◌+◌, ◌*◌, ◌-◌, ◌/◌, ◌%◌, ◌^◌, ◌<◌, ◌≤◌, ◌&&◌, Bool, true, false, cond, ltb, leb, Option, Some, None, refl, sym, ap, ◌∙◌, subst, arith, inl, inr}
use Rattle.std.proofs.lemmas.Bool.{and_parts, cases_lt, le-leb, le-ltb, leb-true, lt-ltb, ltb-true, eqb-true}
use Rattle.std.proofs.lemmas.Int.{ints}
use Rattle.std.specs.Prelude.{ℤ, pos, negsuc, ◌+ℤ◌, ◌-ℤ◌, neg_ℤ, unsigned_abs, option_map, IsTrue}
use Rattle.exi_names.specs.declared.moment.MomentKind.{MomentKind}
use Rattle.exi_names.specs.Moments.{fields, is_in, is_month_day, is_time, is_year}
use Rattle.exi_moment.specs.Spelling.{hours_minutes, zone_number}
use Rattle.exi_moment.specs.Reading.{minutes_of, month_day_of, signed, time_of, year_of, zone_of}

abbrev pub some : {X : Type 0} → X → Option X
some x = Some x

some_is : {X : Type 0} → (x y : X) → some x ≡ some y → x ≡ y
some_is x y e = cc

some_guard : {X : Type 0} → (b : Bool) (x y : X) → cond b (some x) None ≡ some y → (b ≡ true) × (x ≡ y)
some_guard true x y e = (refl, some_is x y e)
some_guard false x y e = absurd cc

-- ---- years
offset_of : (o y : ℤ) → o +ℤ pos 2000 ≡ y → y -ℤ pos 2000 ≡ o
offset_of o y e = omega (arith, ints)

year_from : (o y : ℤ) → y -ℤ pos 2000 ≡ o → o +ℤ pos 2000 ≡ y
year_from o y e = omega (arith, ints)

pub year_told : (minus : Bool) (size : ℕ) (y : ℤ) → year_of minus size ≡ some y → IsTrue (is_year y) × (y -ℤ pos 2000 ≡ signed minus size)
unfolding year_of
year_told minus size y e =
    let g = some_guard (is_year (signed minus size +ℤ pos 2000)) (signed minus size +ℤ pos 2000) y e in (
      subst (λ (v : ℤ). is_year v ≡ true) g.1 g.0,
      offset_of (signed minus size) y g.1,
    )

pub year_again : (minus : Bool) (size : ℕ) (y : ℤ) → IsTrue (is_year y) → y -ℤ pos 2000 ≡ signed minus size → year_of minus size ≡ some y
unfolding year_of
year_again minus size y h e = rw (year_from (signed minus size) y e, h) refl

pub few_after : (y : ℤ) (n : ℕ) → IsTrue (is_year y) → y -ℤ pos 2000 ≡ pos n → n < 2 ^ 127
few_after (pos v) n h e = let lt = ltb-true v (2 ^ 63) h in omega (arith, ints)
few_after (negsuc v) n h e = omega (arith, ints)

pub few_before : (y : ℤ) (n : ℕ) → IsTrue (is_year y) → y -ℤ pos 2000 ≡ negsuc n → n < 2 ^ 127
few_before (pos v) n h e = omega (arith, ints)
few_before (negsuc v) n h e = let lt = ltb-true v (2 ^ 63) h in omega (arith, ints)

-- ---- month and day, time
at_most : (counts : Bool) (least most v : ℕ) → is_in counts least most v ≡ true → v ≤ most
at_most true least most v h = leb-true v most (and_parts (leb least v) (leb v most) h).1
at_most false least most v h = omega (arith, eqb-true v 0 h)

pub month_day_told : (k : MomentKind) (n : ℕ) (d : ℕ × ℕ) → month_day_of k n ≡ some d → IsTrue (is_month_day k d.0 d.1) × (d.0 * 32 + d.1 ≡ n)
unfolding month_day_of
month_day_told k n d e =
    let g = some_guard (is_month_day k (n / 32) (n % 32)) (n / 32, n % 32) d e in
    subst (λ (p : ℕ × ℕ). IsTrue (is_month_day k p.0 p.1) × (p.0 * 32 + p.1 ≡ n)) g.1 (g.0, omega arith)

pub month_day_again : (k : MomentKind) (m d : ℕ) → IsTrue (is_month_day k m d) → (month_day_of k (m * 32 + d) ≡ some (m, d)) × (m * 32 + d < 2 ^ 9)
unfolding month_day_of
month_day_again k m d h =
    let parts = and_parts (is_in (fields k).month 1 12 m) (is_in (fields k).day 1 31 d) h in
    let few : m ≤ 12 = at_most (fields k).month 1 12 m parts.0 in
    let short : d ≤ 31 = at_most (fields k).day 1 31 d parts.1 in
    let high : (m * 32 + d) / 32 ≡ m = omega arith in
    let low : (m * 32 + d) % 32 ≡ d = omega arith in (
      rw (high, low, h) refl,
      omega arith,
    )

pub time_told : (n : ℕ) (t : ℕ × ℕ × ℕ) → time_of n ≡ some t → IsTrue (is_time true t.0 t.1 t.2) × ((t.0 * 64 + t.1) * 64 + t.2 ≡ n)
unfolding time_of
time_told n t e =
    let g = some_guard (is_time true (n / 4096) (n / 64 % 64) (n % 64)) (n / 4096, n / 64 % 64, n % 64) t e in
    subst (λ (p : ℕ × ℕ × ℕ). IsTrue (is_time true p.0 p.1 p.2) × ((p.0 * 64 + p.1) * 64 + p.2 ≡ n)) g.1 (g.0, omega arith)

pub time_again : (h m s : ℕ) → IsTrue (is_time true h m s) → (time_of ((h * 64 + m) * 64 + s) ≡ some (h, m, s)) × ((h * 64 + m) * 64 + s < 2 ^ 17)
unfolding time_of
time_again h m s e =
    let first = and_parts (is_in true 0 24 h && is_in true 0 59 m) (is_in true 0 60 s) e in
    let parts = and_parts (is_in true 0 24 h) (is_in true 0 59 m) first.0 in
    let hours : h ≤ 24 = at_most true 0 24 h parts.0 in
    let minutes : m ≤ 59 = at_most true 0 59 m parts.1 in
    let seconds : s ≤ 60 = at_most true 0 60 s first.1 in
    let high : ((h * 64 + m) * 64 + s) / 4096 ≡ h = omega arith in
    let middle : ((h * 64 + m) * 64 + s) / 64 % 64 ≡ m = omega arith in
    let low : ((h * 64 + m) * 64 + s) % 64 ≡ s = omega arith in (
      rw (high, middle, low, e) refl,
      omega arith,
    )

-- ---- zones
mapped : {X : Type 0} → (f : ℕ → X) (o : Option ℕ) (x : X) → option_map f o ≡ some x → (m : ℕ) × (o ≡ some m) × (f m ≡ x)
mapped f None x e = absurd cc
mapped f (Some m) x e = (m, refl, some_is (f m) x e)

minutes_told : (n m : ℕ) → minutes_of n ≡ some m → (m ≤ 840) × (hours_minutes m ≡ n)
unfolding minutes_of
minutes_told n m e =
    let g = some_guard (ltb (n % 64) 60 && leb (n / 64 * 60 + n % 64) 840) (n / 64 * 60 + n % 64) m e in
    let parts = and_parts (ltb (n % 64) 60) (leb (n / 64 * 60 + n % 64) 840) g.0 in
    let few : n % 64 < 60 = ltb-true (n % 64) 60 parts.0 in
    let all : n / 64 * 60 + n % 64 ≤ 840 = leb-true (n / 64 * 60 + n % 64) 840 parts.1 in
    subst (λ (x : ℕ). (x ≤ 840) × (hours_minutes x ≡ n)) g.1 (all, omega arith)

minutes_again : (m : ℕ) → m ≤ 840 → minutes_of (hours_minutes m) ≡ some m
unfolding minutes_of
minutes_again m le =
    let low : (m / 60 * 64 + m % 60) % 64 ≡ m % 60 = omega arith in
    let high : (m / 60 * 64 + m % 60) / 64 ≡ m / 60 = omega arith in
    let all : m / 60 * 60 + m % 60 ≡ m = omega arith in
    rw (low, high, all, lt-ltb (m % 60) 60 (omega arith), le-leb m 840 le) refl

west : (n m : ℕ) (z : ℤ) → n < 896 → (m ≤ 840) × (hours_minutes m ≡ 896 - n) → neg_ℤ (pos m) ≡ z → (unsigned_abs z ≤ 840) × (zone_number z ≡ n)
west n zero z lt h e = absurd (omega (arith, h.1))
west n (suc m) z lt h e = subst (λ (x : ℤ). (unsigned_abs x ≤ 840) × (zone_number x ≡ n)) e (h.0, omega (arith, h.1))

east : (n m : ℕ) (z : ℤ) → 896 ≤ n → (m ≤ 840) × (hours_minutes m ≡ n - 896) → pos m ≡ z → (unsigned_abs z ≤ 840) × (zone_number z ≡ n)
east n m z le h e = subst (λ (x : ℤ). (unsigned_abs x ≤ 840) × (zone_number x ≡ n)) e (h.0, omega (arith, h.1))

pub zone_told : (n : ℕ) (z : ℤ) → zone_of n ≡ some z → (unsigned_abs z ≤ 840) × (zone_number z ≡ n)
unfolding zone_of
zone_told n z e =
    elim (cases_lt n 896) [
      | inl lt ↦
          let g = mapped (λ m. neg_ℤ (pos m)) (minutes_of (896 - n)) z (sym (ap (λ (b : Bool). cond b (option_map (λ m. neg_ℤ (pos m)) (minutes_of (896 - n))) (option_map pos (minutes_of (n - 896)))) (lt-ltb n 896 lt)) ∙ e) in
          west n g.0 z lt (minutes_told (896 - n) g.0 g.1) g.2
      | inr le ↦
          let g = mapped pos (minutes_of (n - 896)) z (sym (ap (λ (b : Bool). cond b (option_map (λ m. neg_ℤ (pos m)) (minutes_of (896 - n))) (option_map pos (minutes_of (n - 896)))) (le-ltb n 896 le)) ∙ e) in
          east n g.0 z le (minutes_told (n - 896) g.0 g.1) g.2
    ]

pub zone_again : (z : ℤ) → unsigned_abs z ≤ 840 → (zone_of (zone_number z) ≡ some z) × (zone_number z < 2 ^ 11)
unfolding zone_of
zone_again (pos m) le =
    let back : 896 + hours_minutes m - 896 ≡ hours_minutes m = omega arith in
    let test : ltb (896 + hours_minutes m) 896 ≡ false = le-ltb (896 + hours_minutes m) 896 (omega arith) in (
      rw (test, back, minutes_again m le) refl,
      omega arith,
    )
zone_again (negsuc m) le =
    let below : hours_minutes (suc m) ≤ 896 = omega arith in
    let some_minutes : 0 < hours_minutes (suc m) = omega arith in
    let back : 896 - (896 - hours_minutes (suc m)) ≡ hours_minutes (suc m) = omega arith in
    let test : ltb (896 - hours_minutes (suc m)) 896 ≡ true = lt-ltb (896 - hours_minutes (suc m)) 896 (omega arith) in (
      rw (test, back, minutes_again (suc m) le) refl,
      omega arith,
    )
