use Rattle.std.proofs.Common.{◌≡◌, []}
use Rattle.exi_inherited.specs.Told.{told_with_all}
use Rattle.exi_inherited.specs.Uses.{said_in}
use Rattle.exi_inherited.specs.Walks.{AreWalked}
use Rattle.exi_inherited.proofs.Builds.{left_steps, said_from}
use Rattle.exi_inherited.proofs.uses.told_of.Given as goal

abbrev pub invariant-loop-step : goal.invariant-loop-step
invariant-loop-step l = record {
  walked : AreWalked l.fn.parts l.walk.walked.keys l.walk.told;
  frames : l.walk.frames.items ≡ [];
  told : told_with_all (said_from (left_steps l.fn.parts l._step) l.fn.parts l.next) l.walk.told ≡ told_with_all (said_in l.fn.parts l.fn.of) [];
}
