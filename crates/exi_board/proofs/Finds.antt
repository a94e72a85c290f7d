-- A binary search over offsets that rise.
use Rattle.std.proofs.Common.{◌≡◌, ℕ, zero, suc, ◌+◌, ◌-◌, ◌<◌, ◌≤◌, List, length, get_or, Err, subst, arith}
use Rattle.std.proofs.lemmas.List.Sorted.{searched}
use Rattle.std.specs.List.Sorted.{IsStrictlyIncreasing, IsBinarySearchResult}
use Rattle.std.specs.Ordering.{nat_cmp}
use mathlib.Core.Logic.{dite}
use native.Mathlib.Decide.{dec_le}
use Rattle.exi_board.specs.Arrivals.{IsHintOf}

rises : (xs : List ℕ) → IsStrictlyIncreasing xs → (i d : ℕ) → i + d < length xs → get_or xs i 0 ≤ get_or xs (i + d) 0
rises xs h i zero lt = let e : i ≡ i + 0 = omega arith in subst (λ (j : ℕ). get_or xs i 0 ≤ get_or xs j 0) e (omega arith)
rises xs h i (suc d) lt =
    let e : i + d + 1 ≡ i + suc d = omega arith in
    let before = rises xs h i d (omega arith) in let next = h (i + d) (omega arith) in
    subst (λ (j : ℕ). get_or xs i 0 ≤ get_or xs j 0) e (omega arith)

up : (xs : List ℕ) → IsStrictlyIncreasing xs → (i j : ℕ) → i ≤ j → j < length xs → get_or xs i 0 ≤ get_or xs j 0
up xs h i j le lt = let e : i + (j - i) ≡ j = omega arith in subst (λ (k : ℕ). get_or xs i 0 ≤ get_or xs k 0) e (rises xs h i (j - i) (omega arith))

pub absent : (xs : List ℕ) (x i : ℕ) → IsStrictlyIncreasing xs → IsBinarySearchResult (λ y. nat_cmp y x) xs (Err i) → (k : ℕ) → ¬ IsHintOf xs x k
absent xs x i h found k at =
    let s = searched xs x (Err i) found (up xs h) in
    dite (dec_le i k) (λ le. let after = s.2 k le at.0 in omega (arith, at.1)) (λ gt. let before = s.1 k (omega arith) in omega (arith, at.1))
