use Rattle.std.proofs.Common.{◌≡◌, [], length}
use Rattle.std.specs.List.{flat_map}
use Rattle.exi_inherited.specs.Told.{told_with_all}
use Rattle.exi_inherited.specs.Uses.{said_of}
use Rattle.exi_inherited.specs.Walks.{AreWalked}
use Rattle.exi_inherited.proofs.groups.Walk.walk_all.Given as goal

abbrev pub invariant-loop-used : goal.invariant-loop-used
invariant-loop-used l = record {
  walked : AreWalked l.fn.parts l.self.walked.keys l.self.told;
  frames : l.self.frames.items ≡ [];
  told : told_with_all (flat_map (said_of l.fn.parts) l.rest) l.self.told ≡ told_with_all (flat_map (said_of l.fn.parts) l.fn.uses) l.fn.self.told;
}

abbrev pub decreases-loop-used : goal.decreases-loop-used
decreases-loop-used l = length l.rest
