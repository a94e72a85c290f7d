use Rattle.std.proofs.Common.{◌≡◌, [], ◌+◌, ◌*◌, ◌++◌, drop, map}
use Rattle.exi_proto.specs.Places.{laid}
use Rattle.exi_proto.specs.Protos.{opening_piece}
use Rattle.exi_proto.specs.Tasks.{ends_left, made, tasks_left}
use Rattle.exi_proto.proofs.work.Work.push_each.Given as goal

abbrev pub invariant-loop-place : goal.invariant-loop-place
invariant-loop-place l =
    (l.at.first ≡ l.fn.spot.first + 2 * l.place-index)
    × (l.at.before ≡ l.fn.spot.before + l.place-index)
    × (l.at.next ≡ l.fn.spot.next)
    × (ends_left l.self ≡ [])
    × (tasks_left l.self ≡ tasks_left l.fn.self)
    × (made l.self ++ laid l.at.first l.at.before l.at.next (map (opening_piece l.fn.elements) (drop l.place-index l.fn.places)) ≡ made l.fn.self ++ laid l.fn.spot.first l.fn.spot.before l.fn.spot.next (map (opening_piece l.fn.elements) l.fn.places))
