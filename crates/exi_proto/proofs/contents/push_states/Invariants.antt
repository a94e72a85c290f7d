use Rattle.std.proofs.Common.{◌≡◌, ◌+◌, ◌++◌, length}
use Rattle.exi_proto.specs.Attributes.{made_of}
use Rattle.exi_proto.specs.Contents.{text_at}
use Rattle.exi_proto.proofs.contents.push_states.Given as goal

abbrev pub invariant-loop-state : goal.invariant-loop-state
invariant-loop-state l =
    (l.place ≡ length l.fn.states + length l.yielded)
    × (made_of l.states ≡ made_of l.fn.states ++ text_at l.fn.mixed (length l.fn.states) (made_of l.yielded))
