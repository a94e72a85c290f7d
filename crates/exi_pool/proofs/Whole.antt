-- The laws of the rule.
use Rattle.std.proofs.Common.{◌≡◌, ℕ, zero, suc, ◌+◌, ◌-◌, ◌≤◌, List, [], ◌∷◌, length, map, sym, refl, ap, ◌∙◌, subst, arith}
use mathlib.Core.Option.{some, some-injective}
use lib.ListN.{get_elem?}
use native.Mathlib.Decide.{ℕ_discrete}
use mathlib.Core.Logic.{dite}
use Rattle.exi_pool.specs.declared.view.View.{View}
use Rattle.exi_pool.specs.Views.{total, one_if, up_to, later, newcomer, newcomers, firsts, takes, gives}
use Rattle.exi_pool.specs.Rule.{held}
use Rattle.exi_pool.specs.Laws.{AreMade, AllBack, OutOnce, EmptyAlone}
use Rattle.exi_pool.proofs.Sums.{total-append, other_one, once_up_to}

by_lists : (n : ℕ) (views : List View) → total (firsts n) views ≡ total (total (one_if n)) (map (λ (v : View). v.firsts) views)
by_lists n [] = refl
by_lists n (v ∷ vs) = ap (λ k. firsts n v + k) (by_lists n vs)

later_none : (n k : ℕ) → total (firsts n) (later k) ≡ 0
later_none n zero = refl
later_none n (suc k) = omega (arith, later_none n k, total-append (firsts n) (later k) (newcomer (suc k) 0 ∷ []))

-- how often the passes put the page n
made_of : (pages passes n : ℕ) (views : List View) → AreMade pages passes views → total (firsts n) views ≡ total (one_if n) (up_to pages)
made_of pages passes n views are =
    let here = by_lists n views ∙ ap (total (total (one_if n))) are ∙ sym (by_lists n (newcomers pages passes)) in
    omega (arith, here, later_none n (passes - 1))

pub all_back : AllBack
all_back pages passes items views kept are back n =
    let once = once_up_to n pages in
    let same : held n items ≡ total (one_if n) (up_to pages) = omega (arith, kept.even n, back n, made_of pages passes n views are) in
    ((λ lt. same ∙ once.0 lt), λ le. same ∙ once.1 le)

most_once : (n pages : ℕ) → total (one_if n) (up_to pages) ≤ 1
most_once n zero = omega arith
most_once n (suc k) =
    let more = total-append (one_if n) (up_to k) (k ∷ []) in
    dite (ℕ_discrete k n) (λ e. let a = (once_up_to n (suc k)).0 (omega arith) in omega arith) (λ d. omega (arith, most_once n k, other_one n k d))

pub out_once : OutOnce
out_once pages passes items views kept are n = omega (arith, kept.even n, made_of pages passes n views are, most_once n pages)

only : (v : View) (views : List View) → get_elem? views 0 ≡ some v → 1 ≡ length views → views ≡ v ∷ []
only v [] at one = absurd (omega arith)
only v (x ∷ []) at one = ap (λ y. y ∷ []) (some-injective x v at)
only v (x ∷ y ∷ l) at one = absurd (omega arith)

pub empty_alone : EmptyAlone
empty_alone v first sole was n =
    let views = was.0 in let kept = was.2 in
    let at : get_elem? views 0 ≡ some v = subst (λ (j : ℕ). get_elem? views j ≡ some v) first was.1 in
    let is : views ≡ v ∷ [] = only v views at (sym sole ∙ kept.made v at) in
    omega (arith, kept.even n, ap (total (takes n)) is, ap (total (firsts n)) is, ap (total (gives n)) is)
