use Rattle.std.proofs.Common.{◌≡◌, length, take}
use Rattle.xsd_type_wildcards.proofs.Allowing.{TellsWilds}
use Rattle.xsd_type_wildcards.proofs.wilds.group_wilds.Given as goal

abbrev pub invariant-loop-place : goal.invariant-loop-place
invariant-loop-place l = record {
  count : length l.groups.items ≡ length l.fn.paths;
  each : TellsWilds l.fn.paths (take l.place-index l.order) l.groups.items;
}
