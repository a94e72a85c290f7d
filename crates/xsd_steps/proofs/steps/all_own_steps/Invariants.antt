use Rattle.std.proofs.Common.{◌≡◌, ℕ, ◌<◌, [], get_or, length}
use Rattle.xsd_steps.specs.Table.{own_steps}
use Rattle.xsd_steps.proofs.steps.all_own_steps.Given as goal

abbrev pub invariant-loop-place : goal.invariant-loop-place
invariant-loop-place l = record {
  count : length l.lists.items ≡ l.place;
  each : (i : ℕ) → i < l.place → get_or l.lists.items i [] ≡ own_steps l.fn.schema i;
}
