use Rattle.std.proofs.Common.{◌≡◌, length, take}
use Rattle.xsd_type_wildcards.proofs.Bases.{TellsTypes}
use Rattle.xsd_type_wildcards.proofs.types.wild_types.Given as goal

abbrev pub invariant-loop-place : goal.invariant-loop-place
invariant-loop-place l = record {
  count : length l.types.items ≡ length l.fn.paths;
  each : TellsTypes l.fn.paths (take l.place-index l.order) l.types.items;
}
