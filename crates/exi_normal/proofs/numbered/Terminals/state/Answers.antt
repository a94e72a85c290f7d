use Rattle.std.proofs.Common.{◌+◌, [], get_or, map, sym, subst, take, take_all}
use Rattle.exi_gram.specs.Terminals.{step_rule}
use Rattle.exi_normal.specs.Steps.{ShowsState, ShowsStep, symbols}
use Rattle.exi_normal.proofs.Same.{kept_same, kept_then}
use Rattle.exi_normal.proofs.Turns.{step_more}
use Rattle.exi_normal.proofs.numbered.Terminals.state.Goals as goal

pub loop-step-init : goal.loop-step-init
loop-step-init c = (c.requires.apart, kept_same (symbols c.args.self.now), subst (λ z. ShowsState (symbols c.args.self.now) z []) (sym c.new-moves.ensures) tt)

pub loop-step-preserved : goal.loop-step-preserved
loop-step-preserved c =
    let old = symbols c.loop-step.self in
    let new = symbols c.step.new.self in
    let shows : ShowsStep new c.in_ok-step.field-0 (step_rule (get_or c.args.steps.now c.loop-step.step-index c.step-item.result)) = subst (λ s. ShowsStep new c.in_ok-step.field-0 (step_rule s)) c.step-item.is c.in_ok-step.ensures.shows in (
      c.in_ok-step.ensures.apart,
      kept_then (symbols c.args.self.now) old new c.loop-step.invariant.1 c.in_ok-step.ensures.kept,
      subst (λ z. ShowsState new z (map step_rule (take (c.loop-step.step-index + 1) c.args.steps.now))) (sym c.in_ok-push.ensures.ok)
          (step_more old new c.loop-step.moves c.args.steps.now c.loop-step.step-index c.in_ok-step.field-0 c.step-item.result c.loop-step-test.true c.in_ok-step.ensures.kept shows c.loop-step.invariant.2),
    )

pub returns-clause-shows : goal.returns-clause-shows
returns-clause-shows c = subst (λ z. ShowsState (symbols c.loop-step.self) c.loop-step.moves (map step_rule z)) (take_all c.loop-step.step-index c.args.steps.now c.loop-step-test.false) c.loop-step.invariant.2
