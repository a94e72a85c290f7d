use Rattle.std.proofs.Common.{◌≡◌, All}
use Rattle.exi_proto.specs.Tasks.{IsTask, tasks_left, whole}
use Rattle.exi_proto.proofs.work.Work.finish.Given as goal

abbrev pub invariant-loop-turn : goal.invariant-loop-turn
invariant-loop-turn l = All (IsTask l.fn.counts) (tasks_left l.work) × (whole l.fn.counts l.work ≡ whole l.fn.counts l.fn.self)
