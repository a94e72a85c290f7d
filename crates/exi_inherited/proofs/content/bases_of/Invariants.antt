use Rattle.std.proofs.Common.{◌≡◌}
use Rattle.exi_inherited.specs.Contents.{content_of}
use Rattle.exi_inherited.specs.Shown.{built_on}
use Rattle.exi_inherited.proofs.Builds.{from_base, left_steps}
use Rattle.exi_inherited.proofs.content.bases_of.Given as goal

abbrev pub invariant-loop-step : goal.invariant-loop-step
invariant-loop-step l = built_on l.fn.parts l.bases.items (from_base (left_steps l.fn.parts l._step) l.fn.parts l.next) ≡ content_of l.fn.parts l.fn.of
