-- How many pass before a place, one place after another.
use Rattle.std.proofs.Common.{◌≡◌, ℕ, zero, suc, ◌+◌, ◌-◌, ◌<◌, ◌≤◌, Bool, true, false, cond, ◌||◌, ◌&&◌, Option, Some, None, inl, inr, List, [], ◌∷◌, ◌++◌, get_or, length, slice_get, refl, sym, ap, ◌∙◌, arith}
use Rattle.std.proofs.lemmas.Bool.{cases_eq}
use Rattle.std.proofs.lemmas.List.{get_or_append_left, get_or_push, length-append}
use Rattle.xsd_places.specs.Kinds.{count_before}
use Rattle.xsd_places.specs.Counted.{IsCounted}

pub count_more : (test : ℕ → Bool) (n : ℕ) → count_before test (n + 1) ≡ cond (test n) (suc (count_before test n)) (count_before test n)
count_more test n = let e : n + 1 ≡ suc n = omega arith in rw e refl

pub count_passed : (test : ℕ → Bool) (n all : ℕ) (r : Bool) → r ≡ true → r ≡ test n → all ≡ count_before test n → all + 1 ≡ count_before test (n + 1)
count_passed test n all r yes_is e q =
    let s : all + 1 ≡ suc all = omega arith in
    s ∙ ap suc q ∙ ap (λ b. cond b (suc (count_before test n)) (count_before test n)) (sym yes_is ∙ e) ∙ sym (count_more test n)

pub count_stays : (test : ℕ → Bool) (n all : ℕ) (r : Bool) → r ≡ false → r ≡ test n → all ≡ count_before test n → all ≡ count_before test (n + 1)
count_stays test n all r no_is e q =
    q ∙ ap (λ b. cond b (suc (count_before test n)) (count_before test n)) (sym no_is ∙ e) ∙ sym (count_more test n)

pub one_more_le : (b : Bool) (k n : ℕ) → k ≤ n → cond b (suc k) k ≤ suc n
one_more_le true k n h = omega (arith, h)
one_more_le false k n h = omega (arith, h)

pub count_le : (test : ℕ → Bool) (n : ℕ) → count_before test n ≤ n
count_le test zero = omega arith
count_le test (suc n) = one_more_le (test n) (count_before test n) n (count_le test n)

-- ---- a table of counts
pub table_next : (test : ℕ → Bool) (before new : List ℕ) (n r : ℕ) → length before ≡ n → ((k : ℕ) → k < n → get_or before k 0 ≡ count_before test k) → r ≡ count_before test n → new ≡ before ++ r ∷ [] → (k : ℕ) → k < n + 1 → get_or new k 0 ≡ count_before test k
table_next test before new n r count each r_is new_is k less =
    ap (λ (l : List ℕ). get_or l k 0) new_is ∙ elim (cases_eq k n) [
      | inl e ↦
          let here : length before ≡ k = omega (arith, count, e) in
          get_or_push before r 0 k here ∙ r_is ∙ ap (count_before test) (sym e)
      | inr d ↦
          let earlier : k < n = omega (arith, d, less) in
          let inside : k < length before = omega (arith, count, earlier) in
          get_or_append_left before (r ∷ []) 0 k inside ∙ each k earlier
    ]

pub table_count : (before new : List ℕ) (n r : ℕ) → length before ≡ n → new ≡ before ++ r ∷ [] → length new ≡ n + 1
table_count before new n r count new_is = ap length new_is ∙ length-append before (r ∷ []) ∙ ap (λ (k : ℕ). k + 1) count

-- ---- behind all
pub count_behind : (test : ℕ → Bool) (n k : ℕ) → ((j : ℕ) → n ≤ j → test j ≡ false) → count_before test (n + k) ≡ count_before test n
count_behind test n zero h = let e : n + 0 ≡ n = omega arith in ap (count_before test) e
count_behind test n (suc k) h =
    let e : n + suc k ≡ (n + k) + 1 = omega arith in
    let le : n ≤ n + k = omega arith in
    ap (count_before test) e
    ∙ count_more test (n + k)
    ∙ ap (λ b. cond b (suc (count_before test (n + k))) (count_before test (n + k))) (h (n + k) le)
    ∙ count_behind test n k h

pub none_behind : (test : ℕ → Bool) (n i : ℕ) → ((j : ℕ) → n ≤ j → test j ≡ false) → n ≤ i → count_before test n ≡ count_before test i
none_behind test n i h le =
    let e : n + (i - n) ≡ i = omega (arith, le) in
    sym (count_behind test n (i - n) h) ∙ ap (count_before test) e
