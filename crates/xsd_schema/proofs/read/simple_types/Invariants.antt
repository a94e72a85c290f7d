use Rattle.std.proofs.Common.{◌≡◌, ◌++◌, map}
use Rattle.xsd_declared.proofs.Listed.{listed}
use Rattle.xsd_places.specs.Kinds.{is_kind}
use Rattle.xsd_places.specs.declared.kind.Kind.TheVariants as kind
use Rattle.xsd_schema.specs.Seen.{type_seen}
use Rattle.xsd_schema.specs.Types.{built_in_types, simple_at}
use Rattle.xsd_schema.proofs.read.simple_types.Given as goal

abbrev pub invariant-loop-place : goal.invariant-loop-place
invariant-loop-place l = map (type_seen l.fn.simples.forms) l.types ≡ built_in_types ++ listed (simple_at l.fn.simples.nodes) (is_kind kind.Simple l.fn.simples.nodes) l.place
