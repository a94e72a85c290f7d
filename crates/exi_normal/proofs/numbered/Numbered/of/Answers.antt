use Rattle.std.proofs.Common.{◌≡◌, ◌+◌, ◌<◌, ◌≤◌, ◌∙◌, [], ap, get_or, length, map, sym, subst, take, take_all}
use Rattle.exi_gram.specs.Terminals.{step_rule}
use Rattle.exi_normal.specs.Steps.{AreApart, ShowsState, ShowsStates, symbols}
use Rattle.exi_normal.proofs.Turns.{state_more}
use Rattle.exi_normal.proofs.numbered.Numbered.of.Goals as goal

pub loop-steps-init : goal.loop-steps-init
loop-steps-init c = (subst AreApart (sym c.new-terminals.ensures) tt, subst (λ z. ShowsStates (symbols c.new-terminals.result) z []) (sym c.new-states.ensures.items) tt)

pub loop-steps-preserved : goal.loop-steps-preserved
loop-steps-preserved c =
    let all = c.args.proto.now.states in
    let old = symbols c.loop-steps.terminals in
    let new = symbols c.state.new.self in
    let index = c.loop-steps.steps-index in
    let less : index < length all = subst (λ z. index < length z) c.as_slice-steps-items.ensures c.loop-steps-test.true in
    let steps : c.as_slice.result.now ≡ get_or all index c.steps-item.result = c.as_slice.ensures ∙ c.steps-item.is ∙ ap (λ z. get_or z index c.steps-item.result) c.as_slice-steps-items.ensures in
    let shows : ShowsState new c.in_ok-state.field-0 (map step_rule (get_or all index c.steps-item.result)) = subst (λ z. ShowsState new c.in_ok-state.field-0 (map step_rule z)) steps c.in_ok-state.ensures.shows in (
      c.in_ok-state.ensures.apart,
      subst (λ z. ShowsStates new z (map (map step_rule) (take (index + 1) all))) (sym c.in_ok-push.ensures.items)
          (state_more old new c.loop-steps.states.items all index c.in_ok-state.field-0 c.steps-item.result less c.in_ok-state.ensures.kept shows c.loop-steps.invariant.1),
    )

pub returns-clause-numbered : goal.returns-clause-numbered
returns-clause-numbered c =
    let all = c.args.proto.now.states in
    let index = c.loop-steps.steps-index in
    let le : length all ≤ index = subst (λ z. length z ≤ index) c.as_slice-steps-items.ensures c.loop-steps-test.false in
    record {
      apart = c.loop-steps.invariant.0;
      shows = subst (λ z. ShowsStates (symbols c.loop-steps.terminals) c.loop-steps.states.items (map (map step_rule) z)) (take_all index all le) c.loop-steps.invariant.1;
    }
