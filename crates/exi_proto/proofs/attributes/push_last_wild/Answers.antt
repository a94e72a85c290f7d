use Rattle.std.proofs.Common.{ℕ, ◌+◌, ◌++◌, List, length, map, refl, ap, ◌∙◌}
use Rattle.exi_gram.specs.declared.grammar.Step.{Step}
use Rattle.exi_gram.specs.Terminals.{step_rule}
use Rattle.exi_proto.specs.Attributes.{wild_at}
use Rattle.exi_proto.specs.Pieces.{leading}
use Rattle.exi_proto.proofs.Lining.{last_by}
use Rattle.exi_proto.proofs.Looping.{push_steps}
use Rattle.exi_proto.proofs.Making.{on_ok}
use Rattle.exi_proto.proofs.attributes.push_last_wild.Goals as goal

pub returns : goal.returns
returns c =
    let f : ℕ = length c.as_slice.result.now in
    let steps = push_steps c.push_wild.new.steps c.push.new.self c.leading.result (leading (f + 1)) c.in_ok-push.ensures.ok c.leading.ensures in
    let wilds = c.in_ok-push_wild.ensures ∙ ap (λ (z : List Step). map step_rule z ++ wild_at f c.args.wild.now) c.new-steps.ensures in
    on_ok c.push-2.result
    (λ e. last_by c.args.wild.now c.is_none.result f (f + 1) c.args.states.now c.push-2.new.self c.push_wild.new.steps c.push.new.self c.is_none.ensures c.if-is_none.false (ap (λ (z : List (List Step)). length z) c.as_slice.ensures) refl wilds steps e)
    c.push-2.ensures.ok
