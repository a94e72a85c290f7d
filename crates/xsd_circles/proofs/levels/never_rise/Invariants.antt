use Rattle.std.proofs.Common.{◌≡◌, ℕ, ◌+◌, ◌<◌, true}
use Rattle.xsd_steps.specs.Steps.{steps}
use Rattle.xsd_circles.specs.Levels.{are_under, level_at}
use Rattle.xsd_circles.proofs.levels.never_rise.Given as goal

abbrev pub invariant-loop-place : goal.invariant-loop-place
invariant-loop-place l = (i : ℕ) → i < l.place → are_under l.fn.levels (level_at l.fn.levels i + 1) (steps l.fn.steps i) ≡ true
