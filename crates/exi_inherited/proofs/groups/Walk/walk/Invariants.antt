use Rattle.std.proofs.Common.{◌≡◌}
use Rattle.exi_inherited.specs.Told.{told_with_all}
use Rattle.exi_inherited.specs.Uses.{said_of}
use Rattle.exi_inherited.specs.Walks.{AreOpen, AreWalked, ending, turns}
use Rattle.exi_inherited.proofs.groups.Walk.walk.Given as goal

abbrev pub invariant-loop-frame : goal.invariant-loop-frame
invariant-loop-frame l = record {
  walked : AreWalked l.fn.parts l.self.walked.keys l.self.told;
  frames : AreOpen l.fn.parts l.self.frames.items l.self.told;
  end : ending l.fn.parts l.self.frames.items l.self.told ≡ told_with_all (said_of l.fn.parts l.fn.used) l.fn.self.told;
}

abbrev pub decreases-loop-frame : goal.decreases-loop-frame
decreases-loop-frame l = turns l.fn.parts l.self.frames.items
