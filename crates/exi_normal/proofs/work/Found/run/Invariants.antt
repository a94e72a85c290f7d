use Rattle.std.proofs.Common.{◌≡◌, ◌≤◌, ◌-◌, length, suc}
use Rattle.exi_normal.specs.Normals.{worked}
use Rattle.exi_normal.specs.Steps.{states_of}
use Rattle.exi_normal.specs.Working.{work_of}
use Rattle.exi_normal.proofs.work.Found.run.Given as goal

abbrev pub invariant-loop-turn : goal.invariant-loop-turn
invariant-loop-turn l = (length l.self.states ≤ length l.self.lists) × (worked (states_of l.numbered) l.most (suc l.most - l._turn) (work_of l.self) ≡ worked (states_of l.numbered) l.most (suc l.most) (work_of l.fn.self))
