use Rattle.std.proofs.Common.{◌≡◌, IfOk, Option, List, ap, ◌∙◌, subst}
use Rattle.xsd_tree.specs.declared.node.Node.{Node}
use Rattle.xsd_wildcards.specs.declared.allowed.Allowed.{Allowed}
use Rattle.xsd_type_wildcards.specs.Wilds.{own_wild_by, wild_told}
use Rattle.xsd_type_wildcards.proofs.Allowing.{own_by_wilds}
use Rattle.xsd_type_wildcards.proofs.wilds.own_wild.Goals as goal

pub returns : goal.returns
returns c =
    subst (λ (x : Option Allowed). IfOk c.own_wild_by.result (λ a. a ≡ x))
    (ap (λ (x : List Node). own_wild_by x (wild_told c.args.groups.now) c.args.place) c.schema.ensures ∙ own_by_wilds c.args.paths.now c.args.groups.now c.args.place c.requires.wilds c.requires.groups)
    c.own_wild_by.ensures
