use Rattle.std.proofs.Common.{◌≡◌, [], drop}
use Rattle.exi_normal.specs.Normals.{with_targets}
use Rattle.exi_normal.proofs.work.see_all.Given as goal

abbrev pub invariant-loop-state : goal.invariant-loop-state
invariant-loop-state l = with_targets (drop l.state-index l.states) l.seen ≡ with_targets l.states []
