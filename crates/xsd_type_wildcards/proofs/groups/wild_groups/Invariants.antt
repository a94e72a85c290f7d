use Rattle.std.proofs.Common.{◌≡◌, length, take}
use Rattle.xsd_type_wildcards.proofs.Named.{TellsGroups}
use Rattle.xsd_type_wildcards.proofs.groups.wild_groups.Given as goal

abbrev pub invariant-loop-place : goal.invariant-loop-place
invariant-loop-place l = record {
  count : length l.groups.items ≡ length l.fn.paths;
  each : TellsGroups l.fn.paths (take l.place-index l.order) l.groups.items;
}
