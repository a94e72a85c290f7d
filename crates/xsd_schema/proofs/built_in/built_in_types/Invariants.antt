use Rattle.std.proofs.Common.{◌≡◌, ◌++◌, All, drop, length, map}
use Rattle.xsd_builtins.specs.BuiltIns.{built_in_names}
use Rattle.xsd_schema.specs.Seen.{type_seen}
use Rattle.xsd_schema.specs.Types.{HasFormIn, built_in_from, built_in_types}
use Rattle.xsd_schema.proofs.built_in.built_in_types.Given as goal

abbrev pub invariant-loop-place : goal.invariant-loop-place
invariant-loop-place l = record {
  types : map (type_seen l.fn.simples.forms) l.types ++ built_in_from l.place (drop l.place built_in_names) ≡ built_in_types;
  forms : All (HasFormIn (length l.fn.simples.forms)) l.types;
}
