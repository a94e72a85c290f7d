use Rattle.std.proofs.Common.{◌≡◌, ◌<◌, ◌||◌, Bool, false, List, [], ◌∷◌, ◌++◌, get_or, length, map, take, sym, ap, ◌∙◌, subst, arith}
use Rattle.std.specs.Prelude.{◌==◌}
use Rattle.std.proofs.lemmas.List.{length-map, map-append}
use Rattle.exi_gram.specs.declared.grammar.Production.{Production}
use Rattle.exi_gram.specs.Additions.{attribute_states, firsts_of, is_early, loose_from, loose_state}
use Rattle.exi_gram.specs.Books.{state_of}
use Rattle.exi_gram.specs.Terminals.{rule, rules_of}
use Rattle.exi_codes.specs.Made.{loose_by}
use Rattle.exi_codes.proofs.Assembling.{early_is, loose_more}
use Rattle.exi_codes.proofs.maker.Maker.loose_states.Goals as goal

pub loop-place-preserved : goal.loop-place-preserved
loop-place-preserved c =
    let o = c.args.self.now.options.now in
    let names = c.args.self.now.places.now in
    let g = rules_of c.args.grammar.now in
    let states = c.args.grammar.now.states in
    let place = c.loop-place.place in
    let x = c.index-states-place.result in
    let early = c.is_early-early.result in
    let copy = length c.as_slice-states.result.now in
    let count : length states ≡ length g.states = sym (length-map states (map rule)) in
    let copy_is : copy ≡ length g.states = ap length c.as_slice-states.ensures ∙ count in
    let less : place < length states = omega (arith, c.loop-place-test.true, ap length c.as_slice-states.ensures) in
    let is : x ≡ get_or states place x = subst (λ z. x ≡ get_or z place x) c.as_slice-states.ensures c.index-states-place.is in
    let marked : place < length c.in_ok-marks.marks.items = omega (arith, less, c.in_ok-marks.ensures.count, count) in
    let early_eq : early ≡ is_early g (attribute_states g) place =
    c.is_early-early.ensures ∙ ap (λ (z : List Bool). get_or z place false || place == g.content) c.as_slice.ensures.value ∙ ap (λ b. b || place == g.content) (c.in_ok-marks.ensures.reached.marked place marked) in
    let made : c.in_ok-loose_state.field-0 ≡ state_of o names (loose_state g (attribute_states g) place (firsts_of (map rule x))) =
    c.in_ok-loose_state.ensures
    ∙ ap (λ (z : List Production). state_of o names (loose_by early place copy (firsts_of (map rule z)))) c.as_slice-in-loop-place.ensures
    ∙ ap (state_of o names) (early_is g place copy early (firsts_of (map rule x)) early_eq copy_is) in
    c.in_ok-push.ensures.ok
    ∙ (λ i. c.loop-place.invariant i ++ made i ∷ [])
    ∙ sym (map-append (state_of o names) (loose_from g (attribute_states g) 0 (map (map rule) (take place states))) (loose_state g (attribute_states g) place (firsts_of (map rule x)) ∷ []))
    ∙ ap (map (state_of o names)) (sym (loose_more g (attribute_states g) states place x less is))
