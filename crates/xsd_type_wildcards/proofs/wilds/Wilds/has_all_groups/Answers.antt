use Rattle.std.proofs.Common.{List, ap, ◌∙◌}
use Rattle.xsd_tree.specs.declared.node.Node.{Node}
use Rattle.xsd_components.specs.declared.type_at.TypeAt.TheVariants as type_at
use Rattle.xsd_type_wildcards.specs.TypeWildcards.{has_all_groups}
use Rattle.xsd_type_wildcards.proofs.wilds.Wilds.has_all_groups.Goals as goal

pub returns : goal.returns
returns c = c.has_all_groups.ensures ∙ ap (λ (ns : List Node). has_all_groups ns (type_at.Node c.args.place)) c.self.view_is
