-- The innermost of the open elements is the last of a row, and the first of its reverse.
use Rattle.std.proofs.Common.{◌≡◌, ◌<◌, ◌-◌, ℕ, suc, true, false, List, [], ◌∷◌, ◌++◌, length, refl, sym, ap, ◌∙◌, arith, slice_index_or, slice_set}
use Rattle.std.proofs.lemmas.List.{length-append, reverse-append, reverse-reverse}
use Rattle.std.specs.Prelude.{reverse}
use mathlib.Core.List.{reverse_aux-eq}
use Rattle.exi_processing.specs.Changes.{moved_elements, moved_state}
use Rattle.exi_processing.specs.declared.frames.Element.{Element}
use Rattle.exi_processing.specs.declared.frames.State.{State}

set_last : {X : Type 0} (xs : List X) (x y : X) → slice_set (xs ++ x ∷ []) (length xs) y ≡ xs ++ y ∷ []
set_last [] x y = refl
set_last {X} (z ∷ xs) x y = ap (λ (l : List X). z ∷ l) (set_last xs x y)

get_last : {X : Type 0} (xs : List X) (x d : X) → slice_index_or (xs ++ x ∷ []) (length xs) d ≡ x
get_last [] x d = refl
get_last (z ∷ xs) x d = get_last xs x d

moved_one : (e now : Element) (s : State) (to : ℕ) → now ≡ e → s ≡ moved_state to now.state → record now { state = s } ≡ record e { state = moved_state to e.state }
moved_one e now s to is moved = cc (is, moved)

moved_at : (ys : List Element) (e now : Element) (s : State) (to : ℕ) → now ≡ slice_index_or (ys ++ e ∷ []) (length ys) now → s ≡ moved_state to now.state → reverse (slice_set (ys ++ e ∷ []) (length ys) (record now { state = s })) ≡ moved_elements to (e ∷ reverse ys)
moved_at ys e now s to at moved =
    ap (λ (l : List Element). reverse l) (set_last ys e (record now { state = s }))
    ∙ reverse-append ys (record now { state = s } ∷ [])
    ∙ ap (λ (z : Element). z ∷ reverse ys) (moved_one e now s to (at ∙ get_last ys e now) moved)

moved_by : (r es : List Element) (n : ℕ) (now : Element) (s : State) (to : ℕ) → es ≡ reverse r → suc n ≡ length es → now ≡ slice_index_or es n now → s ≡ moved_state to now.state → reverse (slice_set es n (record now { state = s })) ≡ moved_elements to r
moved_by [] es n now s to is count at moved = absurd (let k : length es ≡ 0 = ap length is in omega (arith, k, count))
moved_by (e ∷ r) es n now s to is count at moved =
    let k : es ≡ reverse r ++ e ∷ [] = is ∙ reverse_aux-eq r (e ∷ []) in
    let j : length es ≡ length (reverse r ++ e ∷ []) = ap length k in
    let i : n ≡ length (reverse r) = omega (arith, j, count, length-append (reverse r) (e ∷ [])) in
    rw (k, i) (moved_at (reverse r) e now s to (rw (k, i) at at) moved ∙ ap (λ (l : List Element). moved_elements to (e ∷ l)) (reverse-reverse r))

pub moved_some : (es : List Element) (len : ℕ) (now : Element) (s : State) (to : ℕ) → len ≡ length es → 0 < len → now ≡ slice_index_or es (len - 1) now → s ≡ moved_state to now.state → reverse (slice_set es (len - 1) (record now { state = s })) ≡ moved_elements to (reverse es)
moved_some es len now s to count some at moved = moved_by (reverse es) es (len - 1) now s to (sym (reverse-reverse es)) (omega (arith, count, some)) at moved

no_yes : {X : Type 0} → false ≡ true → X
no_yes e = absurd cc

pub moved_none : (es : List Element) (len : ℕ) (to : ℕ) → len ≡ length es → (0 < len → false ≡ true) → reverse es ≡ moved_elements to (reverse es)
moved_none [] len to count none = refl
moved_none (e ∷ es) len to count none = no_yes (none (omega (arith, count)))
