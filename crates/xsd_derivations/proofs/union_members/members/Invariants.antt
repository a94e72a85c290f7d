use Rattle.std.proofs.Common.{◌≡◌, [], ◌∷◌, ◌++◌, map, take}
use Rattle.xsd_nodes.specs.Nodes.{children}
use Rattle.xsd_nodes.specs.declared.part.Part.TheVariants as part
use Rattle.xsd_derivations.specs.Derivations.{member_held, named_members}
use Rattle.xsd_derivations.proofs.union_members.members.Given as goal

abbrev pub invariant-loop-child : goal.invariant-loop-child
invariant-loop-child l = l.found.items ≡ named_members l.fn.schema l.fn.place ++ map member_held (take l.child-index (children l.fn.schema (part.SimpleType ∷ []) l.fn.place))
