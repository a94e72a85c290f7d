use Rattle.std.proofs.Common.{length}
use Rattle.exi_proto.specs.Attributes.{made_of}
use Rattle.exi_proto.proofs.Lining.{elements_made, room_before, room_behind}
use Rattle.exi_proto.proofs.Making.{on_ok}
use Rattle.exi_proto.proofs.contents.push_content.Goals as goal

pub element_states-requires-clause-fits : goal.element_states-requires-clause-fits
element_states-requires-clause-fits c = room_before c.args.counts.now c.args.whole.now c.in-Elements.any c.in-Elements.particles c.as_slice-in-Elements.result.now c.in-Elements.mixed c.args.states.now c.as_slice.result.now c.in-Elements.is c.as_slice-in-Elements.ensures c.as_slice.ensures c.requires.room

pub push_states-requires-in-Elements : goal.push_states-requires-in-Elements
push_states-requires-in-Elements c = record { room = room_behind c.args.counts.now c.args.whole.now c.in-Elements.any c.in-Elements.particles c.as_slice-in-Elements.result.now c.in-Elements.mixed c.args.states.now c.in_ok-more-in-Elements.more (length c.as_slice.result.now) c.in-Elements.is c.as_slice-in-Elements.ensures c.in_ok-more-in-Elements.ensures c.requires.room }

pub returns-in_ok-more-in-Elements : goal.returns-in_ok-more-in-Elements
returns-in_ok-more-in-Elements c =
    on_ok c.push_states-in-Elements.result
    (λ e. elements_made c.args.counts.now c.args.whole.now c.in-Elements.any c.in-Elements.particles c.as_slice-in-Elements.result.now c.in-Elements.mixed c.args.states.now c.as_slice.result.now c.push_states-in-Elements.new.states (made_of c.in_ok-more-in-Elements.more) c.in-Elements.is c.as_slice-in-Elements.ensures c.as_slice.ensures c.in_ok-more-in-Elements.ensures e)
    c.push_states-in-Elements.ensures
