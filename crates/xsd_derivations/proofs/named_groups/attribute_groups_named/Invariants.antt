use Rattle.std.proofs.Common.{◌≡◌, [], ◌∷◌, map, take}
use Rattle.xsd_nodes.specs.Nodes.{children}
use Rattle.xsd_nodes.specs.declared.part.Part.TheVariants as part
use Rattle.xsd_derivations.specs.Derivations.{attribute_group_named}
use Rattle.xsd_derivations.proofs.named_groups.attribute_groups_named.Given as goal

abbrev pub invariant-loop-child : goal.invariant-loop-child
invariant-loop-child l = l.found.items ≡ map (attribute_group_named l.fn.schema) (take l.child-index (children l.fn.schema (part.AttributeGroup ∷ []) l.fn.place))
