use Rattle.std.proofs.Common.{◌≡◌, length, take}
use Rattle.xsd_values.proofs.Walks.{TellsMixed}
use Rattle.xsd_values.proofs.mixed.mixed_types.Given as goal

abbrev pub invariant-loop-place : goal.invariant-loop-place
invariant-loop-place l = record {
  count : length l.mixed.items ≡ length l.fn.paths;
  each : TellsMixed l.fn.paths (take l.place-index l.order) l.mixed.items;
}
