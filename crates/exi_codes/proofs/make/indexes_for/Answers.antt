use Rattle.std.proofs.Common.{◌+◌, List, [], ◌∷◌, ◌++◌, take, sym, ap, ◌∙◌, subst}
use Rattle.std.proofs.lemmas.List.{take_more}
use Rattle.exi_gram.specs.Candidates.{FindInStates, Listed}
use Rattle.exi_gram.specs.Codes.{Productions}
use Rattle.exi_gram.specs.Naming.{Entry}
use Rattle.exi_gram.proofs.Indexed.{states_more}
use Rattle.exi_codes.proofs.make.indexes_for.Goals as goal

pub loop-state-preserved : goal.loop-state-preserved
loop-state-preserved c =
    let i = c.loop-state.state-index in
    subst (λ (z : List Listed). FindInStates z (take (i + 1) c.args.states.now)) (sym c.in_ok-push.ensures.ok)
    (subst (λ (z : List (Productions Entry)). FindInStates (c.loop-state.indexes ++ c.in_ok-index.field-0 ∷ []) z)
    (sym (take_more c.args.states.now i c.state-item.result c.loop-state-test.true ∙ ap (λ (p : Productions Entry). take i c.args.states.now ++ p ∷ []) (sym c.state-item.is)))
    (states_more c.loop-state.indexes (take i c.args.states.now) c.in_ok-index.field-0 c.state-item.result c.loop-state.invariant c.in_ok-index.ensures))
