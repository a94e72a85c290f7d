use Rattle.std.proofs.Common.{List, ap, ◌∙◌}
use Rattle.xsd_tree.specs.declared.node.Node.{Node}
use Rattle.xsd_components.specs.declared.type_at.TypeAt.TheVariants as type_at
use Rattle.xsd_type_wildcards.specs.TypeWildcards.{has_all_groups}
use Rattle.xsd_type_wildcards.proofs.type_wildcards.TypeWildcards.source.Goals as goal

pub told_source-requires-clause-groups : goal.told_source-requires-clause-groups
told_source-requires-clause-groups c = ap (λ (ns : List Node). has_all_groups ns (type_at.Node c.args.place)) c.self.view_is ∙ c.requires.groups
