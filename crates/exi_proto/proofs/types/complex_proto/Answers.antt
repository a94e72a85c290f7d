use Rattle.std.proofs.Common.{◌≡◌, ◌∙◌, length, ap, arith}
use Rattle.xsd_model.specs.Parts.{Parts}
use Rattle.exi_inherited.specs.Contents.{content_of}
use Rattle.exi_inherited.specs.Shown.{whole_of}
use Rattle.exi_inherited.specs.Uses.{uses_of}
use Rattle.exi_proto.specs.Attributes.{made_of}
use Rattle.exi_proto.specs.Places.{led_from}
use Rattle.exi_proto.specs.Protos.{attribute_states, content_states}
use Rattle.exi_proto.proofs.Typing.{complex_content, complex_end, end_there, length-attributes, room_content, room_end, room_uses, whole_there}
use Rattle.exi_proto.proofs.types.complex_proto.Goals as goal
use Rattle.exi_proto.proofs.types.complex_proto.Goals.{then-empty+in_ok-one_end+in_ok-push_states, else-empty+in_ok-whole+in_ok-push_content+in-Elements-1, else-empty+in_ok-whole+in_ok-push_content+in-Value-1}

pub attribute_states-requires : goal.attribute_states-requires
attribute_states-requires c =
    let p = c.args.counts.now in
    let fits = room_uses p c.args.of c.args.wild.now c.args.empty c.requires.few in
    let same : length (uses_of c.parts-parts.result.now c.args.of) ≡ length (uses_of p c.args.of) = ap (λ (q : Parts). length (uses_of q c.args.of)) (c.parts-parts.ensures ∙ c.elements.ensures) in
    record { room = omega (arith, fits, same) }

pub overflow_cast-content : goal.overflow_cast-content
overflow_cast-content c =
    let p = c.args.counts.now in
    let was : made_of c.in_ok-states.states ≡ led_from 0 (attribute_states p c.args.of c.args.wild.now) = c.in_ok-states.ensures ∙ ap (λ (q : Parts). led_from 0 (attribute_states q c.args.of c.args.wild.now)) (c.parts-parts.ensures ∙ c.elements.ensures) in
    let n = length-attributes p c.args.of c.args.wild.now c.in_ok-states.states was in
    let l : length c.as_slice.result.now ≡ length c.in_ok-states.states = ap (λ xs. length xs) c.as_slice.ensures in
    let few = c.requires.few in
    let below = end_there p c.args.of c.args.wild.now c.args.empty few in
    omega (arith, n, l, below)

pub push_states-requires : goal.push_states-requires
push_states-requires c =
    let p = c.args.counts.now in
    let was : made_of c.in_ok-states.states ≡ led_from 0 (attribute_states p c.args.of c.args.wild.now) = c.in_ok-states.ensures ∙ ap (λ (q : Parts). led_from 0 (attribute_states q c.args.of c.args.wild.now)) (c.parts-parts.ensures ∙ c.elements.ensures) in
    record { room = room_end p c.args.of c.args.wild.now c.args.empty c.in_ok-states.states c.in_ok-one_end.field-0 (length c.as_slice.result.now) c.if-empty.true was c.in_ok-one_end.ensures c.requires.few }

pub push_content-requires-clause-room : goal.push_content-requires-clause-room
push_content-requires-clause-room c =
    let p = c.args.counts.now in
    let was : made_of c.in_ok-states.states ≡ led_from 0 (attribute_states p c.args.of c.args.wild.now) = c.in_ok-states.ensures ∙ ap (λ (q : Parts). led_from 0 (attribute_states q c.args.of c.args.wild.now)) (c.parts-parts.ensures ∙ c.elements.ensures) in
    room_content p c.args.of c.args.wild.now c.args.empty (whole_of c.in_ok-whole.whole) c.in_ok-states.states
    (whole_there p c.parts-parts.result.now c.args.of (whole_of c.in_ok-whole.whole) (c.parts-parts.ensures ∙ c.elements.ensures) c.in_ok-whole.ensures)
    c.if-empty.false was c.requires.few

pub returns : goal.returns
returns c =
    let p = c.args.counts.now in
    let zs = attribute_states p c.args.of c.args.wild.now in
    let old = c.in_ok-states.states in
    let was : made_of old ≡ led_from 0 zs = c.in_ok-states.ensures ∙ ap (λ (q : Parts). led_from 0 (attribute_states q c.args.of c.args.wild.now)) (c.parts-parts.ensures ∙ c.elements.ensures) in
    let here : length c.as_slice.result.now ≡ length old = ap (λ xs. length xs) c.as_slice.ensures in
    elim c.if-empty.branch [
      | then-empty+in_ok-one_end+in_ok-push_states w ↦
          complex_end zs (content_states p (content_of p c.args.of)) c.args.empty old w.in_ok-one_end.field-0 w.push_states.new.states c.if-empty.states (length c.as_slice.result.now)
          w.if-empty.true was w.in_ok-one_end.ensures w.in_ok-push_states.ensures w.states-is here
      | else-empty+in_ok-whole+in_ok-push_content+in-Elements-1 w ↦
          complex_content p zs (whole_of w.in_ok-whole.whole) (content_of p c.args.of) c.args.empty old w.push_content.new.states c.if-empty.states (length c.as_slice.result.now)
          w.if-empty.false (whole_there p c.parts-parts.result.now c.args.of (whole_of w.in_ok-whole.whole) (c.parts-parts.ensures ∙ c.elements.ensures) w.in_ok-whole.ensures)
          was w.in_ok-push_content.ensures w.states-is here
      | else-empty+in_ok-whole+in_ok-push_content+in-Value-1 w ↦
          complex_content p zs (whole_of w.in_ok-whole.whole) (content_of p c.args.of) c.args.empty old w.push_content.new.states c.if-empty.states (length c.as_slice.result.now)
          w.if-empty.false (whole_there p c.parts-parts.result.now c.args.of (whole_of w.in_ok-whole.whole) (c.parts-parts.ensures ∙ c.elements.ensures) w.in_ok-whole.ensures)
          was w.in_ok-push_content.ensures w.states-is here
    ]
