use Rattle.std.proofs.Common.{◌≡◌, Some, None, [], ◌∷◌, drop, map}
use Rattle.xsd_nodes.specs.Nodes.{children}
use Rattle.xsd_nodes.specs.declared.part.Part.TheVariants as part
use Rattle.xsd_wildcards.specs.Wildcards.{allowed_at}
use Rattle.xsd_type_wildcards.specs.TypeWildcards.{all_together}
use Rattle.xsd_type_wildcards.specs.Wilds.{held_wilds}
use Rattle.xsd_type_wildcards.proofs.wilds.held_wild.Given as goal

abbrev pub invariant-loop-child : goal.invariant-loop-child
invariant-loop-child l = all_together l.found (map (λ j. Some (allowed_at l.fn.schema j)) (drop l.child-index (children l.fn.schema (part.AnyAttribute ∷ []) l.fn.place))) ≡ all_together None (held_wilds l.fn.schema l.fn.place)
