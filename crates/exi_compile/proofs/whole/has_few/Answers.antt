use Rattle.std.proofs.Common.{◌≡◌, ◌<◌, ◌^◌, All, List, ap, arith, length, subst}
use Rattle.std.proofs.lemmas.List.{take_all}
use Rattle.std.proofs.lemmas.List.Elements.{All-more}
use Rattle.exi_gram.specs.declared.grammar.Production.{Production}
use Rattle.exi_compile.proofs.whole.has_few.Goals as goal

pub loop-state-preserved : goal.loop-state-preserved
loop-state-preserved c =
    let same : length c.as_slice.result.now ≡ length c.state-item.result = ap (λ (s : List Production). length s) c.as_slice.ensures in
    let few : length c.state-item.result < 2 ^ 30 = omega (arith, same, c.if-as_slice-ge-TOO_MANY_PRODUCTIONS.false) in
    All-more (λ (s : List Production). length s < 2 ^ 30) c.args.states.now c.loop-state.state-index c.state-item.result c.loop-state-test.true c.loop-state.invariant
    (subst (λ (s : List Production). length s < 2 ^ 30) c.state-item.is few)

pub returns : goal.returns
returns c = λ _. subst (All (λ (s : List Production). length s < 2 ^ 30)) (take_all c.loop-state.state-index c.args.states.now c.loop-state-test.false) c.loop-state.invariant
