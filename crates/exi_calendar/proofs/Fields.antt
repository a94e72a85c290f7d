-- Fields of two digits behind their marks, both ways; and the zone.
use Rattle.std.proofs.Common.{◌≡◌, ℕ, zero, suc, zero-le, ◌+◌, ◌-◌, ◌*◌, ◌/◌, ◌%◌, ◌<◌, ◌≤◌, Bool, true, false, ◌&&◌, cond, eqb, leb, List, [], ◌∷◌, ◌++◌, Option, Some, None, refl, sym, ap, ◌∙◌, subst, inl, inr, append_assoc, arith}
use Rattle.std.proofs.lemmas.Bool.{cases_Bool, cases_lt, eq-eqb, eqb-true, le-leb, leb-true, and_parts}
use Rattle.std.proofs.lemmas.List.{append-nil}
use Rattle.std.proofs.lemmas.Fmt.{decimal_digit, decimal_step}
use Rattle.std.proofs.lemmas.Option.{cond_some}
use Rattle.std.specs.Prelude.{decimal, option_map, not, ℤ, pos, neg_ℤ, IfSome, unsigned_abs}
use Rattle.exi_digits.specs.Digits.{has_any, is_digit, padded}
use Rattle.exi_digits.proofs.Decimals.{digit_of}
use Rattle.exi_digits.proofs.Pushing.{padded_two}
use Rattle.exi_calendar.specs.Parts.{IsIn, colon, hyphen, letter_z, no_mark, one_mark, plus}
use Rattle.exi_calendar.specs.Forms.{SpellsZone, field_text, offset_text}
use Rattle.exi_calendar.specs.Forms.SpellsZone.{absent, utc, east, west}
use Rattle.exi_calendar.specs.Reading.{◌>>=◌, field_at, offset_of, past, two_digits_at, two_digits_of, within, zone_of}

-- ---- optional values
abbrev pub some : {A : Type 0} → A → Option A
some x = Some x

pub some_is : {A : Type 0} → (x y : A) → some x ≡ some y → x ≡ y
some_is x y e = cc

pub bind_some : {A B : Type 0} → (o : Option A) (f : A → Option B) (y : B) → (o >>= f) ≡ some y → (x : A) × (o ≡ some x) × (f x ≡ some y)
bind_some None f y e = absurd cc
bind_some (Some x) f y e = (x, refl, e)

pub map_some : {A B : Type 0} → (o : Option A) (f : A → B) (y : B) → option_map f o ≡ some y → (x : A) × (o ≡ some x) × (f x ≡ y)
map_some None f y e = absurd cc
map_some (Some x) f y e = (x, refl, some_is (f x) y e)

pub cond_some_of : {A : Type 0} → (b : Bool) (o : Option A) (x : A) → cond b o None ≡ some x → (b ≡ true) × (o ≡ some x)
cond_some_of true o x e = (refl, e)
cond_some_of false o x e = absurd cc

-- ---- marks
pub past_front : (marks rest : List ℕ) → past marks (marks ++ rest) ≡ some rest
unfolding past
past_front [] rest = refl
past_front (m ∷ marks) rest = rw (eq-eqb m m refl) (past_front marks rest)

pub past_back : (marks text rest : List ℕ) → past marks text ≡ some rest → text ≡ marks ++ rest
unfolding past
past_back [] text rest e = some_is text rest e
past_back (m ∷ marks) [] rest e = absurd cc
past_back (m ∷ marks) (c ∷ text) rest e =
    let g = cond_some_of (eqb c m) (past marks text) rest e in
    let same : c ≡ m = eqb-true c m g.0 in
    rw (same, past_back marks text rest g.1) refl

-- ---- two digits
pub digit_bounds : (c : ℕ) → is_digit c ≡ true → (48 ≤ c) × (c ≤ 57)
digit_bounds c e = let p = and_parts (leb 48 c) (leb c 57) e in (leb-true 48 c p.0, leb-true c 57 p.1)

two_digits_told : (least most n : ℕ) → least ≤ n → n ≤ most → n < 100 → two_digits_of least most (48 + n / 10) (48 + n % 10) ≡ some n
unfolding two_digits_of
two_digits_told least most n low high few =
    let q : n / 10 < 10 = omega arith in
    let r : n % 10 < 10 = omega arith in
    let e : (48 + n / 10 - 48) * 10 + (48 + n % 10 - 48) ≡ n = omega arith in
    rw (digit_of (n / 10) q, digit_of (n % 10) r, e, le-leb least n low, le-leb n most high) refl

two_digits_front : (least most n : ℕ) (rest : List ℕ) → least ≤ n → n ≤ most → n < 100 → two_digits_at least most (padded 2 n ++ rest) ≡ some (n, rest)
two_digits_front least most n rest low high few = rw (padded_two n few) (ap (option_map (λ (k : ℕ). (k, rest))) (two_digits_told least most n low high few))

pub two_digits_back : (least most tens ones n : ℕ) → two_digits_of least most tens ones ≡ some n → (tens ∷ ones ∷ [] ≡ padded 2 n) × (least ≤ n) × (n ≤ most)
unfolding two_digits_of
two_digits_back least most tens ones n e =
    let g = cond_some_of (is_digit tens && is_digit ones) (within least most ((tens - 48) * 10 + (ones - 48))) n e in
    let d = and_parts (is_digit tens) (is_digit ones) g.0 in
    let t = digit_bounds tens d.0 in
    let o = digit_bounds ones d.1 in
    let w = cond_some (leb least ((tens - 48) * 10 + (ones - 48)) && leb ((tens - 48) * 10 + (ones - 48)) most) ((tens - 48) * 10 + (ones - 48)) n g.1 in
    let b = and_parts (leb least ((tens - 48) * 10 + (ones - 48))) (leb ((tens - 48) * 10 + (ones - 48)) most) w.0 in
    let low = leb-true least ((tens - 48) * 10 + (ones - 48)) b.0 in
    let high = leb-true ((tens - 48) * 10 + (ones - 48)) most b.1 in
    let same : (tens - 48) * 10 + (ones - 48) ≡ n = w.1 in
    let q : 48 + n / 10 ≡ tens = omega arith in
    let r : 48 + n % 10 ≡ ones = omega arith in
    let few : n < 100 = omega arith in
    (rw (padded_two n few, q, r) refl, omega arith, omega arith)

pub two_digits_number : (least most tens ones n : ℕ) → two_digits_of least most tens ones ≡ some n → (is_digit tens ≡ true) × (is_digit ones ≡ true) × (n ≡ (tens - 48) * 10 + (ones - 48)) × (n ≤ most)
unfolding two_digits_of
two_digits_number least most tens ones n e =
    let g = cond_some_of (is_digit tens && is_digit ones) (within least most ((tens - 48) * 10 + (ones - 48))) n e in
    let d = and_parts (is_digit tens) (is_digit ones) g.0 in
    let w = cond_some (leb least ((tens - 48) * 10 + (ones - 48)) && leb ((tens - 48) * 10 + (ones - 48)) most) ((tens - 48) * 10 + (ones - 48)) n g.1 in
    let b = and_parts (leb least ((tens - 48) * 10 + (ones - 48))) (leb ((tens - 48) * 10 + (ones - 48)) most) w.0 in
    let high = leb-true ((tens - 48) * 10 + (ones - 48)) most b.1 in
    (d.0, d.1, sym w.1, omega (arith, high, w.1))

pub two_at_back : (least most n : ℕ) (text rest : List ℕ) → two_digits_at least most text ≡ some (n, rest) → (text ≡ padded 2 n ++ rest) × (least ≤ n) × (n ≤ most)
two_at_back least most n [] rest e = absurd cc
two_at_back least most n (tens ∷ []) rest e = absurd cc
two_at_back least most n (tens ∷ ones ∷ text) rest e =
    let g = map_some (two_digits_of least most tens ones) (λ (k : ℕ). (k, text)) (n, rest) e in
    let number : g.0 ≡ n = ap (λ (p : ℕ × List ℕ). p.0) g.2 in
    let behind : text ≡ rest = ap (λ (p : ℕ × List ℕ). p.1) g.2 in
    let b = two_digits_back least most tens ones n (g.1 ∙ ap some number) in
    (rw (← b.0, behind) refl, b.1, b.2)

-- ---- a field
pub field_front : (marks : Option (List ℕ)) (least most n : ℕ) (rest : List ℕ) → IsIn marks least most n → most < 100 → field_at marks least most (field_text marks n ++ rest) ≡ some (n, rest)
unfolding field_at
field_front None least most n rest range few = rw range refl
field_front (Some marks) least most n rest range few =
    let low : least ≤ n = range.0 in
    let high : n ≤ most = range.1 in
    rw (append_assoc marks (padded 2 n) rest, past_front marks (padded 2 n ++ rest)) (two_digits_front least most n rest low high (omega arith))

pub field_back : (marks : Option (List ℕ)) (least most n : ℕ) (text rest : List ℕ) → field_at marks least most text ≡ some (n, rest) → (text ≡ field_text marks n ++ rest) × IsIn marks least most n
unfolding field_at
field_back None least most n text rest e =
    let p = some_is (0, text) (n, rest) e in
    (ap (λ (p : ℕ × List ℕ). p.1) p, sym (ap (λ (p : ℕ × List ℕ). p.0) p))
field_back (Some marks) least most n text rest e =
    let b = bind_some (past marks text) (two_digits_at least most) (n, rest) e in
    let t = two_at_back least most n b.0 rest b.2 in
    (past_back marks text b.0 b.1 ∙ ap (λ (x : List ℕ). marks ++ x) t.0 ∙ sym (append_assoc marks (padded 2 n) rest), (t.1, t.2))

-- ---- the zone
offset_by_parts : (hours minutes n : ℕ) (text behind : List ℕ) → field_at no_mark 0 14 text ≡ some (hours, behind) → field_at (one_mark colon) 0 59 behind ≡ some (minutes, []) → hours * 60 + minutes ≡ n → n ≤ 840 → offset_of text ≡ some n
unfolding offset_of
offset_by_parts hours minutes n text behind h m e few = rw (h, m, e, le-leb n 840 few) refl

pub offset_front : (n : ℕ) → n ≤ 840 → offset_of (offset_text n) ≡ some n
offset_front n few =
    let hours : n / 60 ≤ 14 = omega arith in
    let minutes : n % 60 ≤ 59 = omega arith in
    let h = field_front no_mark 0 14 (n / 60) (colon ∷ padded 2 (n % 60)) (zero-le, hours) (omega arith) in
    let m : field_at (one_mark colon) 0 59 (colon ∷ padded 2 (n % 60)) ≡ some (n % 60, []) = rw append-nil at (field_front (one_mark colon) 0 59 (n % 60) [] (zero-le, minutes) (omega arith)) in
    offset_by_parts (n / 60) (n % 60) n (offset_text n) (colon ∷ padded 2 (n % 60)) h m (omega arith) few

pub size_west : (n : ℕ) → unsigned_abs (neg_ℤ (pos n)) ≡ n
size_west zero = refl
size_west (suc n) = refl

pub zone_front : (z : Option ℤ) (text : List ℕ) → SpellsZone z text → IfSome z (λ y. unsigned_abs y ≤ 14 * 60) → zone_of text ≡ some z
unfolding zone_of
zone_front z text absent few = refl
zone_front z text utc few = refl
zone_front z text (east n) few = ap (option_map (λ (k : ℕ). some (pos k))) (offset_front n few)
zone_front z text (west n) few = ap (option_map (λ (k : ℕ). some (neg_ℤ (pos k)))) (offset_front n (omega (arith, size_west n)))

nothing_left : (text : List ℕ) → not (has_any text) ≡ true → text ≡ []
nothing_left [] e = refl
nothing_left (c ∷ text) e = absurd cc

offset_written : (hours minutes n : ℕ) → minutes ≤ 59 → hours * 60 + minutes ≡ n → padded 2 hours ++ colon ∷ padded 2 minutes ≡ offset_text n
offset_written hours minutes n few e =
    let h : n / 60 ≡ hours = omega arith in
    let m : n % 60 ≡ minutes = omega arith in
    rw (h, m) refl

pub offset_back : (n : ℕ) (text : List ℕ) → offset_of text ≡ some n → (text ≡ offset_text n) × (n ≤ 840)
unfolding offset_of
offset_back n text e =
    let h = bind_some (field_at no_mark 0 14 text) (λ hours. field_at (one_mark colon) 0 59 hours.1 >>= λ minutes. cond (not (has_any minutes.1) && leb (hours.0 * 60 + minutes.0) 840) (Some (hours.0 * 60 + minutes.0)) None) n e in
    let m = bind_some (field_at (one_mark colon) 0 59 h.0.1) (λ minutes. cond (not (has_any minutes.1) && leb (h.0.0 * 60 + minutes.0) 840) (Some (h.0.0 * 60 + minutes.0)) None) n h.2 in
    let g = cond_some (not (has_any m.0.1) && leb (h.0.0 * 60 + m.0.0) 840) (h.0.0 * 60 + m.0.0) n m.2 in
    let t = and_parts (not (has_any m.0.1)) (leb (h.0.0 * 60 + m.0.0) 840) g.0 in
    let few : h.0.0 * 60 + m.0.0 ≤ 840 = leb-true (h.0.0 * 60 + m.0.0) 840 t.1 in
    let hours = field_back no_mark 0 14 h.0.0 text h.0.1 h.1 in
    let minutes = field_back (one_mark colon) 0 59 m.0.0 h.0.1 m.0.1 m.1 in
    let small : m.0.0 ≤ 59 = minutes.1.1 in
    let last : h.0.1 ≡ colon ∷ padded 2 m.0.0 = minutes.0 ∙ ap (λ (x : List ℕ). (colon ∷ padded 2 m.0.0) ++ x) (nothing_left m.0.1 t.0) ∙ append-nil (colon ∷ padded 2 m.0.0) in
    (hours.0 ∙ ap (λ (x : List ℕ). padded 2 h.0.0 ++ x) last ∙ offset_written h.0.0 m.0.0 n small g.1, omega (arith, g.1))

is_spelled : (c mark : ℕ) (text given : List ℕ) (y : ℤ) (z : Option ℤ) → c ≡ mark → text ≡ given → some y ≡ z → SpellsZone (some y) (mark ∷ given) → unsigned_abs y ≤ 14 * 60 → SpellsZone z (c ∷ text) × IfSome z (λ x. unsigned_abs x ≤ 14 * 60)
is_spelled c mark text given y z same behind value spells few =
    let t : SpellsZone (some y) (c ∷ text) = rw (same, behind) spells in
    subst (λ (o : Option ℤ). SpellsZone o (c ∷ text) × IfSome o (λ x. unsigned_abs x ≤ 14 * 60)) value (t, few)

pub zone_back : (z : Option ℤ) (text : List ℕ) → zone_of text ≡ some z → SpellsZone z text × IfSome z (λ y. unsigned_abs y ≤ 14 * 60)
unfolding zone_of
zone_back z [] e = subst (λ (o : Option ℤ). SpellsZone o [] × IfSome o (λ y. unsigned_abs y ≤ 14 * 60)) (some_is None z e) (absent, tt)
zone_back z (c ∷ text) e =
    elim (cases_Bool (eqb c plus)) [
      | inl is_plus ↦
          let m = map_some (offset_of text) (λ (k : ℕ). some (pos k)) z (rw is_plus at e) in
          let o = offset_back m.0 text m.1 in
          is_spelled c plus text (offset_text m.0) (pos m.0) z (eqb-true c plus is_plus) o.0 m.2 (east m.0) o.1
      | inr no_plus ↦ elim (cases_Bool (eqb c hyphen)) [
        | inl is_hyphen ↦
            let m = map_some (offset_of text) (λ (k : ℕ). some (neg_ℤ (pos k))) z (rw (no_plus, is_hyphen) at e) in
            let o = offset_back m.0 text m.1 in
            is_spelled c hyphen text (offset_text m.0) (neg_ℤ (pos m.0)) z (eqb-true c hyphen is_hyphen) o.0 m.2 (west m.0) (omega (arith, o.1, size_west m.0))
        | inr no_hyphen ↦
            let g = cond_some (eqb c letter_z && not (has_any text)) (some (pos 0)) z (rw (no_plus, no_hyphen) at e) in
            let t = and_parts (eqb c letter_z) (not (has_any text)) g.0 in
            is_spelled c letter_z text [] (pos 0) z (eqb-true c letter_z t.0) (nothing_left text t.1) g.1 utc zero-le
      ]
    ]
