-- Each step keeps the rule.
use Rattle.std.proofs.Common.{◌≡◌, ℕ, ◌+◌, List, [], ◌∷◌, ◌++◌, length, set, sym, refl, ap, ◌∙◌, subst, ⊎_elim, arith, length-append, length-set}
use Rattle.std.specs.Prelude.{⊤}
use mathlib.Core.Option.{some, some-injective}
use lib.ListN.{get_elem?}
use Rattle.crossbeam_queue.specs.Fifo.{Pushes, Pops, Forks, Learns}
use Rattle.crossbeam_queue.proofs.Lists.{at_set}
use Rattle.exi_pool.specs.declared.view.View.{View}
use Rattle.exi_pool.specs.Pages.{number_of, IsLone}
use Rattle.exi_pool.specs.Views.{one_if, newcomer, with_made, putting, taking, giving, firsts, takes, gives}
use Rattle.exi_pool.specs.Rule.{Page, held, AllLone, Kept, Saw}
use Rattle.exi_pool.proofs.Sums.{total-append, total-set, at_length, at_end, alone}

all_lone : (items : List Page) (p : Page) → AllLone items → IsLone p → AllLone (items ++ p ∷ [])
all_lone [] p all one = (one, tt)
all_lone (x ∷ xs) p all one = (all.0, all_lone xs p all.1 one)

pub begins : Kept [] (newcomer 0 1 ∷ [])
begins = record {
  even = λ n. refl;
  lone = tt;
  numbered = alone (newcomer 0 1) (λ i u. u.number ≡ i) refl;
  made = λ v e. ap (λ (x : View). x.made) (sym (some-injective (newcomer 0 1) v e));
}

-- a step of one pass, after which the queue holds more
stays : (items more : List Page) (views : List View) (id : ℕ) (v w : View) → Kept items views → get_elem? views id ≡ some v → w.number ≡ v.number → w.made ≡ v.made → AllLone more
    → ((n : ℕ) → held n more + takes n w + firsts n v + gives n v ≡ held n items + takes n v + firsts n w + gives n w)
    → Kept more (set views id w)
stays items more views id v w kept at number made lone step = record {
  even = λ n. omega (arith, kept.even n, step n, total-set (takes n) views id v w at, total-set (firsts n) views id v w at, total-set (gives n) views id v w at);
  lone = lone;
  numbered = λ i u e. ⊎_elim (λ x. sym (ap (λ (y : View). y.number) x.1) ∙ number ∙ kept.numbered id v at ∙ sym x.0) (λ x. kept.numbered i u x.1) (at_set views id i w u e);
  made = λ u e. ⊎_elim
      (λ x. sym (ap (λ (y : View). y.made) x.1) ∙ made ∙ kept.made v (subst (λ (j : ℕ). get_elem? views j ≡ some v) (sym x.0) at) ∙ sym (length-set views id w))
      (λ x. kept.made u x.1 ∙ sym (length-set views id w)) (at_set views id 0 w u e);
}

pub puts : (cap id : ℕ) (v : View) (p : Page) → IsLone p → Pushes Kept cap id v p (λ w. w ≡ putting (number_of p) v)
puts cap id v p lone items views room kept at = let w : View = putting (number_of p) v in (
  w,
  stays items (items ++ p ∷ []) views id v w kept at refl refl (all_lone items p kept.lone lone)
      (λ n. omega (arith, total-append (λ q. one_if n (number_of q)) items (p ∷ []), total-append (one_if n) v.firsts (number_of p ∷ []))),
  refl,
)

pub give_keeps : (cap id : ℕ) (v : View) (p : Page) → IsLone p → Pushes Kept cap id v p (λ w. w ≡ giving (number_of p) v)
give_keeps cap id v p lone items views room kept at = let w : View = giving (number_of p) v in (
  w,
  stays items (items ++ p ∷ []) views id v w kept at refl refl (all_lone items p kept.lone lone)
      (λ n. omega (arith, total-append (λ q. one_if n (number_of q)) items (p ∷ []), total-append (one_if n) v.gives (number_of p ∷ []))),
  refl,
)

pub take_keeps : (id : ℕ) (v : View) → Pops Kept id v (λ p w. (w ≡ taking (number_of p) v) × IsLone p)
take_keeps id v p items views kept at = let w : View = taking (number_of p) v in (
  w,
  stays (p ∷ items) items views id v w kept at refl refl kept.lone.1 (λ n. omega (arith, total-append (one_if n) v.takes (number_of p ∷ []))),
  (refl, kept.lone.0),
)

pub sees : (id : ℕ) (v : View) → Learns Kept id v (λ items. Saw v items)
sees id v items views kept at = (views, subst (λ (j : ℕ). get_elem? views j ≡ some v) (sym (kept.numbered id v at)) at, kept)

pub learns_nothing : (id : ℕ) (v : View) → Learns Kept id v (λ items. ⊤)
learns_nothing id v items views kept at = tt

pub makes : (id : ℕ) (v : View) → id ≡ 0 → Forks Kept id v (with_made (v.made + 1) v) (newcomer v.made 0)
makes id v first items views kept at =
    let w : View = with_made (v.made + 1) v in let x : View = newcomer v.made 0 in let all = set views id w in
    let count : v.made ≡ length views = kept.made v (subst (λ (j : ℕ). get_elem? views j ≡ some v) first at) in
    let many : length all ≡ length views = length-set views id w in
    let near = at_length views id v at in
    record {
      even = λ n. omega (
        arith,
        kept.even n,
        total-set (takes n) views id v w at,
        total-set (firsts n) views id v w at,
        total-set (gives n) views id v w at,
        total-append (takes n) all (x ∷ []),
        total-append (firsts n) all (x ∷ []),
        total-append (gives n) all (x ∷ []),
      );
      lone = kept.lone;
      numbered = λ i u e. ⊎_elim
          (λ a. ⊎_elim (λ y. sym (ap (λ (z : View). z.number) y.1) ∙ kept.numbered id v at ∙ sym y.0) (λ y. kept.numbered i u y.1) (at_set views id i w u a))
          (λ b. sym (ap (λ (z : View). z.number) b.1) ∙ count ∙ sym many ∙ sym b.0) (at_end all x u i e);
      made = λ u e. ⊎_elim
          (λ a. ⊎_elim (λ y. let m = ap (λ (z : View). z.made) y.1 in omega (arith, length-append all (x ∷ []))) (λ y. absurd (y.0 (sym first))) (at_set views id 0 w u a))
          (λ b. absurd (omega (arith, b.0))) (at_end all x u 0 e);
    }
