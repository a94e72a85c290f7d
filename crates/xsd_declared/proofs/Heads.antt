-- From an element to that which has its type, head by head.
use Rattle.std.proofs.Common.{◌≡◌, ℕ, suc, ◌+◌, ◌-◌, ◌<◌, ◌≤◌, List, refl, sym, ap, ◌∙◌, arith}
use Rattle.xsd_builtins.specs.BuiltIns.{any_type}
use Rattle.xsd_tree.specs.declared.node.Node.{Node}
use Rattle.xsd_components.specs.declared.type_at.TypeAt.{TypeAt}
use Rattle.xsd_components.specs.declared.type_at.TypeAt.TheVariants as type_at
use Rattle.xsd_declared.specs.Decls.{after_step, element_type_within, type_step}
use Rattle.xsd_declared.specs.declared.type_step.TypeStep.TheVariants as step

pub one_more : (ns : List Node) (n k i : ℕ) → k < n → element_type_within (n - k) ns i ≡ after_step (element_type_within (n - (k + 1)) ns) (type_step ns i)
one_more ns n k i less = let e : n - k ≡ suc (n - (k + 1)) = omega arith in rw e refl

pub ends_here : (ns : List Node) (n k i : ℕ) (found all : TypeAt) → k < n → step.Ends found ≡ type_step ns i → element_type_within (n - k) ns i ≡ all → found ≡ all
ends_here ns n k i found all less e q = ap (after_step (element_type_within (n - (k + 1)) ns)) e ∙ sym (one_more ns n k i less) ∙ q

pub goes_on : (ns : List Node) (n k i head : ℕ) (all : TypeAt) → k < n → step.Goes head ≡ type_step ns i → element_type_within (n - k) ns i ≡ all → element_type_within (n - (k + 1)) ns head ≡ all
goes_on ns n k i head all less e q = ap (after_step (element_type_within (n - (k + 1)) ns)) e ∙ sym (one_more ns n k i less) ∙ q

pub never_ends : (ns : List Node) (n k i : ℕ) (all : TypeAt) → n ≤ k → element_type_within (n - k) ns i ≡ all → type_at.Built any_type ≡ all
never_ends ns n k i all le q = let e : n - k ≡ 0 = omega arith in ap (λ (m : ℕ). element_type_within m ns i) (sym e) ∙ q
