use Rattle.std.proofs.Common.{◌≡◌, ◌+◌, ◌*◌, ◌++◌, drop, length}
use Rattle.exi_proto.specs.Attributes.{each_use, made_of}
use Rattle.exi_proto.specs.Places.{led_from}
use Rattle.exi_proto.proofs.attributes.push_uses.Given as goal

abbrev pub invariant-loop-used : goal.invariant-loop-used
invariant-loop-used l =
    (length l.states ≡ length l.fn.states + 2 * l.used-index)
    × (made_of l.states ++ led_from (length l.states) (each_use l.fn.parts l.fn.wild (drop l.used-index l.fn.uses)) ≡ made_of l.fn.states ++ led_from (length l.fn.states) (each_use l.fn.parts l.fn.wild l.fn.uses))
