use Rattle.std.proofs.Common.{◌≡◌, ℕ, ◌<◌, ◌≤◌, get_or, length}
use Rattle.xsd_places.specs.Kinds.{count_before, is_kind}
use Rattle.xsd_places.proofs.counts.counts_of.Given as goal

abbrev pub invariant-loop-place : goal.invariant-loop-place
invariant-loop-place l = record {
  count : length l.before.items ≡ l.place;
  each : (k : ℕ) → k < l.place → get_or l.before.items k 0 ≡ count_before (is_kind l.fn.kind l.fn.nodes) k;
  all : l.all ≡ count_before (is_kind l.fn.kind l.fn.nodes) l.place;
  few : l.all ≤ l.place;
}
