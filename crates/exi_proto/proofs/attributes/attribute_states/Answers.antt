use Rattle.std.proofs.Common.{◌++◌, List, length, ap, ◌∙◌, arith}
use Rattle.exi_gram.specs.declared.grammar.Step.{Step}
use Rattle.exi_inherited.specs.declared.uses.Use.{Use}
use Rattle.exi_inherited.specs.Uses.{uses_of}
use Rattle.exi_proto.specs.Attributes.{each_use, made_of}
use Rattle.exi_proto.specs.Places.{led_from}
use Rattle.exi_proto.specs.Protos.{last_wild}
use Rattle.exi_proto.proofs.Behind.{attributes_made}
use Rattle.exi_proto.proofs.Lining.{length-uses}
use Rattle.exi_proto.proofs.attributes.attribute_states.Goals as goal

pub push_last_wild-requires : goal.push_last_wild-requires
push_last_wild-requires c =
    let long = length-uses c.args.parts.now c.args.wild.now c.as_slice.result.now c.new-states.result c.push_uses.new.states c.in_ok-push_uses.ensures in
    let none = ap (λ (z : List (List Step)). length z) c.new-states.ensures in
    let uses = ap (λ (z : List Use). length z) (c.as_slice.ensures ∙ c.in_ok-uses.ensures) in
    let room = c.requires.room in
    record { room = omega (arith, long, none, uses, room) }

pub returns : goal.returns
returns c =
    let p = c.args.parts.now in
    let w = c.args.wild.now in
    attributes_made (each_use p w (uses_of p c.args.of)) (last_wild w) c.push_uses.new.states c.push_last_wild.new.states
    (c.in_ok-push_uses.ensures
    ∙ ap (λ (z : List (List Step)). made_of z ++ led_from (length z) (each_use p w c.as_slice.result.now)) c.new-states.ensures
    ∙ ap (λ (us : List Use). led_from 0 (each_use p w us)) (c.as_slice.ensures ∙ c.in_ok-uses.ensures))
    c.in_ok-push_last_wild.ensures
