use Rattle.std.proofs.Common.{◌≡◌, [], ◌∷◌, map, take}
use Rattle.xsd_nodes.specs.Nodes.{children}
use Rattle.xsd_nodes.specs.declared.part.Part.TheVariants as part
use Rattle.xsd_declared.specs.Decls.{use_at}
use Rattle.xsd_declared.proofs.attributes.uses_at.Given as goal

abbrev pub invariant-loop-child : goal.invariant-loop-child
invariant-loop-child l = l.uses ≡ map (use_at l.fn.places) (take l.child-index (children l.fn.places (part.Attribute ∷ part.AttributeGroup ∷ []) l.fn.place))
