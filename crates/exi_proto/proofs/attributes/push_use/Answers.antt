use Rattle.std.proofs.Common.{◌≡◌, ℕ, ◌+◌, ◌++◌, Some, List, length, ap, ◌∙◌}
use Rattle.exi_gram.specs.declared.grammar.Step.{Step}
use Rattle.exi_proto.specs.Attributes.{made_of}
use Rattle.exi_proto.specs.Places.{set}
use Rattle.exi_proto.specs.Protos.{use_states}
use Rattle.exi_proto.proofs.Behind.{use_made}
use Rattle.exi_proto.proofs.Making.{on_ok}
use Rattle.exi_proto.proofs.attributes.push_use.Goals as goal

pub returns : goal.returns
returns c =
    let p = c.args.parts.now in
    let w = c.args.wild.now in
    let u = c.args.used in
    let old = c.args.states.now in
    let f : ℕ = length c.as_slice.result.now in
    let first : f ≡ length old = ap (λ (z : List (List Step)). length z) c.as_slice.ensures in
    on_ok c.push_leading.result
    (λ e. use_made p w u.attribute u.required f (f + 2) old c.push.new.self c.push_leading.new.states c.in_ok-steps.steps c.push_skip.new.steps c.push_wild.new.steps c.in_ok-steps.ensures c.in_ok-push_skip.ensures c.in_ok-push_wild.ensures c.in_ok-push.ensures.ok e
    ∙ ap (λ (k : ℕ). made_of old ++ set k 0 (Some (k + 2)) (use_states p w u.attribute u.required)) first)
    c.push_leading.ensures
