use Rattle.std.proofs.Common.{◌≡◌, IfOk, Bool, List, ap, ◌∙◌, subst}
use Rattle.xsd_tree.specs.declared.node.Node.{Node}
use Rattle.xsd_type_wildcards.specs.TypeWildcards.{is_second_wild}
use Rattle.xsd_schema.proofs.conditions.Conditions.is_second_wild.Goals as goal

pub returns : goal.returns
returns c =
    subst (λ (b : Bool). IfOk c.is_second_wild.result (λ x. x ≡ b))
    (ap (λ (ns : List Node). is_second_wild ns c.args.place) (c.self.invariant.2 ∙ c.self.view_is))
    c.is_second_wild.ensures
