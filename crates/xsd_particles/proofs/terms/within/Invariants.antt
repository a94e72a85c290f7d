use Rattle.std.proofs.Common.{◌≡◌, map, take}
use Rattle.xsd_nodes.specs.Nodes.{children}
use Rattle.xsd_contents.specs.Contents.{particles}
use Rattle.xsd_places.specs.Kinds.{place_of}
use Rattle.xsd_places.specs.declared.kind.Kind.TheVariants as kind
use Rattle.xsd_particles.proofs.terms.within.Given as goal

abbrev pub invariant-loop-child : goal.invariant-loop-child
invariant-loop-child l = l.found ≡ map (place_of kind.Particle l.fn.places) (take l.child-index (children l.fn.places particles l.fn.place))
