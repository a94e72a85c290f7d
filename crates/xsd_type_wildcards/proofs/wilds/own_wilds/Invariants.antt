use Rattle.std.proofs.Common.{◌≡◌, ℕ, ◌<◌, length}
use Rattle.xsd_type_wildcards.specs.Wilds.{own_if_whole, wild_told}
use Rattle.xsd_type_wildcards.proofs.wilds.own_wilds.Given as goal

abbrev pub invariant-loop-place : goal.invariant-loop-place
invariant-loop-place l = record {
  count : length l.own.items ≡ l.place;
  each : (k : ℕ) → k < l.place → wild_told l.own.items k ≡ own_if_whole l.fn.paths k;
}
