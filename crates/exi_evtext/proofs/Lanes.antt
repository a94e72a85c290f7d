-- From the mask of sixteen bytes to the bytes that pass a test.
use Rattle.std.proofs.Common.{◌≡◌, ℕ, zero, suc, take, drop, Option, Some, None, eqb, ◌+◌, ◌-◌, ◌%◌, ◌^◌, ◌<◌, ◌≤◌, Bool, true, false, not, ◌||◌, List, [], ◌∷◌, map, length, get_or, replicate, Fits, w8, refl, sym, ap, ap₂, ◌∙◌, subst, arith, inl, inr}
use Rattle.std.proofs.lemmas.Bool.{agree_below, agree_below_at, not-true, not-false, cases_eq, cases_lt, eq-eqb, ne_eqb, cond-true, cond-false}
use Rattle.std.proofs.lemmas.Simd.{map-map, mask_l-mod, length-chunk, get_or-chunk, leading_from_mask_l, trailing_mask_l}
use Rattle.std.proofs.lemmas.List.{length-map}
use Rattle.std.proofs.lemmas.List.Sums.{prefix_len-le-length, prefix_len_passes, prefix_len_stops}
use Rattle.std.specs.List.{prefix_len}
use lib.Lanes.{chunk, zip2, mask_l, top}
use Rattle.exi_digits.specs.Splits.{before, behind, is_mark}
use Rattle.exi_evtext.specs.Parsing.{run_width, stops_run}
use Rattle.exi_evtext.specs.Plain.{AllPass, IsRunIn, IsWidth, PassesIn, first_set, is_inside_line, is_inside_run}

zip2-map : (h : ℕ → ℕ → ℕ) (f g : ℕ → ℕ) (xs : List ℕ) → zip2 h (map f xs) (map g xs) ≡ map (λ x. h (f x) (g x)) xs
zip2-map h f g [] = refl
zip2-map h f g (x ∷ xs) = ap (λ r. h (f x) (g x) ∷ r) (zip2-map h f g xs)

-- an operation on two vectors that were computed lane by lane from v
pub joined : (h : ℕ → ℕ → ℕ) (f g : ℕ → ℕ) (v : List ℕ) {a b : List ℕ} → a ≡ map f v → b ≡ map g v → zip2 h a b ≡ map (λ x. h (f x) (g x)) v
joined h f g v p q = ap₂ (zip2 h) p q ∙ zip2-map h f g v

pub splat_is : (v : List ℕ) (n y : ℕ) → length v ≡ n → replicate n y ≡ map (λ _. y) v
splat_is [] n y e = ap (λ k. replicate k y) (sym e)
splat_is (x ∷ xs) n y e = ap (λ k. replicate k y) (sym e) ∙ ap (λ r. y ∷ r) (splat_is xs (length xs) y refl)

pub itself : (v : List ℕ) → v ≡ map (λ x. x) v
itself [] = refl
itself (x ∷ xs) = ap (λ r. x ∷ r) (itself xs)

run_is : (p : ℕ → Bool) (v : List ℕ) (n : ℕ) → length v ≡ n → n ≤ 64 → first_set (mask_l (map p v)) n ≡ prefix_len (λ x. not (p x)) v
run_is p v n long few =
    elim (cases_eq (mask_l (map p v)) 0) [
      | inl none ↦ cond-true _ _ _ (eq-eqb _ _ none) ∙ sym (leading_from_mask_l p v none ∙ long)
      | inr some ↦ cond-false _ _ _ (ne_eqb _ _ some) ∙ trailing_mask_l p 64 v (omega arith) (omega arith)
    ]

module _ (q : ℕ → Bool) (d : List ℕ) (i n r : ℕ) (z : List ℕ) (room : i + n ≤ length d) (few : n ≤ 64)
    (fits : (k : ℕ) → Fits w8 (get_or d k 0)) (found : r ≡ first_set (mask_l (map (top 7) z) % 2 ^ 64) n)
    (f : ℕ → ℕ) (lanes : z ≡ map f (chunk i n d)) where
  abbrev stops : ℕ → Bool
  stops x = top 7 (f x)

  long : length (chunk i n d) ≡ n
  long = length-chunk i n d room

  counted : r ≡ prefix_len (λ x. not (stops x)) (chunk i n d)
  counted =
      let v = chunk i n d in
      let mask = ap (λ l. mask_l l % 2 ^ 64) (ap (map (top 7)) lanes ∙ map-map (top 7) f v) ∙ mask_l-mod (map stops v) 64 (omega (arith, length-map v stops, long)) in
      found ∙ ap (λ m. first_set m n) mask ∙ run_is stops v n long few

  goes_on : (k : ℕ) → i ≤ k → k < i + r → stops (get_or d k 0) ≡ false
  goes_on k from to =
      let back : i + (k - i) ≡ k = omega arith in
      let bound = prefix_len-le-length (λ x. not (stops x)) (chunk i n d) in
      let at = get_or-chunk i n d (k - i) 0 (omega (arith, counted, long)) ∙ ap (λ j. get_or d j 0) back in
      subst (λ x. stops x ≡ false) at (not-true _ (prefix_len_passes (λ x. not (stops x)) (chunk i n d) (k - i) 0 (omega (arith, counted))))

  -- each byte at which no lane stops passes q
  pub passes_in : agree_below (λ x. stops x || q x) (λ _. true) 256 ≡ true → PassesIn q d i n r
  passes_in all = (
    omega (arith, counted, long, prefix_len-le-length (λ x. not (stops x)) (chunk i n d)),
    λ k from to. sym (ap (λ b. b || q (get_or d k 0)) (goes_on k from to)) ∙ agree_below_at (λ x. stops x || q x) (λ _. true) 256 (get_or d k 0) all (fits k).fits,
  )

  -- a lane stops just where q fails
  pub run_in : agree_below stops (λ x. not (q x)) 256 ≡ true → IsRunIn q d i n r
  run_in all = (
    (
      omega (arith, counted, long, prefix_len-le-length (λ x. not (stops x)) (chunk i n d)),
      λ k from to. not-false _ (sym (agree_below_at stops (λ x. not (q x)) 256 (get_or d k 0) all (fits k).fits) ∙ goes_on k from to),
    ),
    λ short.
        let at = ap (λ j. get_or (chunk i n d) j 0) (sym counted) ∙ get_or-chunk i n d r 0 short in
        let set = subst (λ x. stops x ≡ true) at (not-false _ (prefix_len_stops (λ x. not (stops x)) (chunk i n d) 0 (omega (arith, counted, long)))) in
        not-true _ (sym (agree_below_at stops (λ x. not (q x)) 256 (get_or d (i + r) 0) all (fits (i + r)).fits) ∙ set),
  )

-- what passes up to a place, and from there on
pub pass_on : (q : ℕ → Bool) (d : List ℕ) (m n : ℕ) → AllPass q d 0 m → AllPass q d m n → AllPass q d 0 n
pass_on q d m n front back k from to = elim (cases_lt k m) [
  | inl early ↦ front k from early
  | inr late ↦ back k (omega arith) to
]

-- ---- widths
-- the next of a width behind its first byte
width_next : (q : ℕ → Bool) (c : ℕ) (cs : List ℕ) (m : ℕ) → IsWidth q (c ∷ cs) (suc m) → IsWidth q cs m
width_next q c cs m w =
    let le = w.within in
    record {
      within = omega (arith, le);
      pass = λ k from to. w.pass (suc k) (omega arith) (omega arith);
      stops = λ lt. w.stops (omega arith);
    }

-- the line in front
pub line_front_is : (s : List ℕ) (n : ℕ) → IsWidth is_inside_line s n → take n s ≡ before (is_mark 10) s
line_front_is [] zero w = refl
line_front_is [] (suc m) w = let le = w.within in absurd (omega (arith, le))
line_front_is (c ∷ cs) zero w = let mark : eqb c 10 ≡ true = not-false (eqb c 10) (w.stops (omega arith)) in rw mark refl
line_front_is (c ∷ cs) (suc m) w =
    let other : eqb c 10 ≡ false = not-true (eqb c 10) (w.pass 0 (omega arith) (omega arith)) in
    rw other (ap (λ (x : List ℕ). c ∷ x) (line_front_is cs m (width_next is_inside_line c cs m w)))

-- what stands behind it
abbrev pub behind_first : List ℕ → Option (List ℕ)
behind_first [] = None
behind_first (b ∷ more) = Some more

pub line_back_is : (s : List ℕ) (n : ℕ) → IsWidth is_inside_line s n → behind_first (drop n s) ≡ behind (is_mark 10) s
line_back_is [] zero w = refl
line_back_is [] (suc m) w = let le = w.within in absurd (omega (arith, le))
line_back_is (c ∷ cs) zero w = let mark : eqb c 10 ≡ true = not-false (eqb c 10) (w.stops (omega arith)) in rw mark refl
line_back_is (c ∷ cs) (suc m) w =
    let other : eqb c 10 ≡ false = not-true (eqb c 10) (w.pass 0 (omega arith) (omega arith)) in
    rw other (line_back_is cs m (width_next is_inside_line c cs m w))

-- the run in front
pub run_is_width : (s : List ℕ) (n : ℕ) → IsWidth is_inside_run s n → n ≡ run_width s
run_is_width [] zero w = refl
run_is_width [] (suc m) w = let le = w.within in absurd (omega (arith, le))
run_is_width (c ∷ cs) zero w = let stop : stops_run c ≡ true = not-false (stops_run c) (w.stops (omega arith)) in rw stop refl
run_is_width (c ∷ cs) (suc m) w =
    let other : stops_run c ≡ false = not-true (stops_run c) (w.pass 0 (omega arith) (omega arith)) in
    rw other (ap suc (run_is_width cs m (width_next is_inside_run c cs m w)))

pub none_first : (s : List ℕ) → length s ≡ 0 → None ≡ behind_first s
none_first [] h = refl
none_first (b ∷ more) h = absurd (omega (arith, h))
