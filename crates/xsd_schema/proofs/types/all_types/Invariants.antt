use Rattle.std.proofs.Common.{◌≡◌, ◌++◌, All, length, map}
use Rattle.xsd_declared.proofs.Listed.{listed}
use Rattle.xsd_places.specs.Kinds.{is_kind}
use Rattle.xsd_places.specs.declared.kind.Kind.TheVariants as kind
use Rattle.xsd_schema.specs.Seen.{type_seen}
use Rattle.xsd_schema.specs.Types.{HasFormIn, built_in_types}
use Rattle.xsd_schema.specs.Documents.{declared_type}
use Rattle.xsd_schema.proofs.types.all_types.Given as goal

abbrev pub invariant-loop-place : goal.invariant-loop-place
invariant-loop-place l = record {
  types : map (type_seen l.fn.simples.forms) l.types ≡ built_in_types ++ listed (declared_type l.fn.simples.nodes) (is_kind kind.Type l.fn.simples.nodes) l.place;
  forms : All (HasFormIn (length l.fn.simples.forms)) l.types;
}
