use Rattle.std.proofs.Common.{◌≡◌, ℕ, ◌<◌, [], get_or, length}
use Rattle.xsd_steps.proofs.Led.{steps_below}
use Rattle.xsd_steps.proofs.steps.Steps.of.Given as goal

abbrev pub invariant-loop-place : goal.invariant-loop-place
invariant-loop-place l = record {
  count : length l.lists.items ≡ length l.fn.schema;
  each : (i : ℕ) → i < length l.fn.schema → get_or l.lists.items i [] ≡ steps_below l.fn.schema l.place i;
}
