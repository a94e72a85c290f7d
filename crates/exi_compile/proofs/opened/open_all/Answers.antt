use Rattle.std.proofs.Common.{◌≡◌, ◌++◌, ◌∙◌, ap, arith, drop, get_or, length, map, sym, take}
use Rattle.std.proofs.lemmas.List.{length-map}
use Rattle.exi_gram.specs.Terminals.{rule}
use Rattle.exi_compile.specs.Opening.{opened_rule}
use Rattle.exi_compile.proofs.Produced.{replaced_seen, written_same}
use Rattle.exi_compile.proofs.opened.open_all.Goals as goal

pub loop-state-preserved : goal.loop-state-preserved
loop-state-preserved c =
    let f = opened_rule c.args.grammars.now c.args.otherwise in
    let s = get_or c.loop-state.states c.loop-state.state-index c.state-item.result in
    let now = c.open_state.new.state in
    let made : map rule now ≡ map f (map rule s) = c.open_state.ensures ∙ ap (λ z. map f (map rule z)) c.as_mut_slice.ensures.value in
    let long : length now ≡ length s = sym (length-map now rule) ∙ ap length made ∙ length-map (map rule s) f ∙ length-map s rule in
    let all : length c.as_mut_slice-states.result.now ≡ length c.args.grammar.now.states = ap length c.as_mut_slice-states.ensures.value in
    replaced_seen (map rule) (map f) c.args.grammar.now.states c.loop-state.states c.loop-state.state-index c.state-item.result
    (take (length s) (now ++ drop (length now) s))
    (omega (arith, all, c.loop-state-test.true)) (c.loop-state.auto.states ∙ all)
    (ap (map rule) (written_same s now long) ∙ made)
    c.loop-state.invariant
