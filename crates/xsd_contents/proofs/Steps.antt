-- From a type to that of its value, step by step.
use Rattle.std.proofs.Common.{◌≡◌, ℕ, zero, suc, ◌+◌, ◌-◌, ◌<◌, ◌≤◌, Option, None, List, refl, sym, ap, ◌∙◌, arith}
use Rattle.xsd_tree.specs.declared.node.Node.{Node}
use Rattle.xsd_components.specs.declared.type_at.TypeAt.{TypeAt}
use Rattle.xsd_contents.specs.Contents.{after_step, value_here, value_type_within}
use Rattle.xsd_contents.specs.declared.value_step.ValueStep.{ValueStep}
use Rattle.xsd_contents.specs.declared.value_step.ValueStep.TheVariants as step

pub one_more : (ns : List Node) (n k : ℕ) (t : TypeAt) → k < n → value_type_within (n - k) ns t ≡ after_step (value_type_within (n - (k + 1)) ns) (value_here ns t)
one_more ns n k t less = let e : n - k ≡ suc (n - (k + 1)) = omega arith in rw e refl

pub ends_here : (ns : List Node) (n k : ℕ) (t : TypeAt) (found all : Option TypeAt) → k < n → step.Ends found ≡ value_here ns t → value_type_within (n - k) ns t ≡ all → found ≡ all
ends_here ns n k t found all less e q = ap (after_step (value_type_within (n - (k + 1)) ns)) e ∙ sym (one_more ns n k t less) ∙ q

pub goes_on : (ns : List Node) (n k : ℕ) (t next : TypeAt) (all : Option TypeAt) → k < n → step.Goes next ≡ value_here ns t → value_type_within (n - k) ns t ≡ all → value_type_within (n - (k + 1)) ns next ≡ all
goes_on ns n k t next all less e q = ap (after_step (value_type_within (n - (k + 1)) ns)) e ∙ sym (one_more ns n k t less) ∙ q

pub never_ends : (ns : List Node) (n k : ℕ) (t : TypeAt) (all : Option TypeAt) → n ≤ k → value_type_within (n - k) ns t ≡ all → None ≡ all
never_ends ns n k t all le q = let e : n - k ≡ 0 = omega arith in ap (λ (m : ℕ). value_type_within m ns t) (sym e) ∙ q
