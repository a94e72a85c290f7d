use Rattle.std.proofs.Common.{◌≡◌, length, take}
use Rattle.xsd_values.proofs.Walks.{TellsValues}
use Rattle.xsd_values.proofs.value_types.value_types.Given as goal

abbrev pub invariant-loop-place : goal.invariant-loop-place
invariant-loop-place l = record {
  count : length l.values.items ≡ length l.fn.paths;
  each : TellsValues l.fn.paths (take l.place-index l.order) l.values.items;
}
