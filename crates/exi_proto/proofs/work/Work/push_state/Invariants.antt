use Rattle.std.proofs.Common.{◌≡◌, map, length}
use Rattle.exi_gram.specs.Terminals.{step_rule}
use Rattle.exi_proto.specs.Places.{with_ends}
use Rattle.exi_proto.specs.Tasks.{ends_left, made, tasks_left}
use Rattle.exi_proto.proofs.work.Work.push_state.Given as goal

abbrev pub invariant-loop-end : goal.invariant-loop-end
invariant-loop-end l =
    (made l.self ≡ made l.fn.self)
    × (tasks_left l.self ≡ tasks_left l.fn.self)
    × (with_ends (ends_left l.self) (map step_rule l.steps) ≡ with_ends (ends_left l.fn.self) (map step_rule l.fn.steps))

abbrev pub decreases-loop-end : goal.decreases-loop-end
decreases-loop-end l = length l.self.ends.items
