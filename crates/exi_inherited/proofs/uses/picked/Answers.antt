use Rattle.std.proofs.Common.{ℕ, ◌++◌, ◌∷◌, [], get_or, map, take, sym, ap, ◌∙◌}
use Rattle.std.proofs.lemmas.List.{map_more, take_all}
use Rattle.exi_inherited.specs.declared.uses.Use.{Use}
use Rattle.exi_inherited.proofs.uses.picked.Goals as goal

pub loop-place-preserved : goal.loop-place-preserved
loop-place-preserved c = λ (given : Use).
    c.in_ok-push.ensures.ok
    ∙ ap (λ us. us ++ c.use_at.result ∷ []) (c.loop-place.invariant given)
    ∙ ap (λ u. map (λ (i : ℕ). get_or c.args.uses.now i given) (take c.loop-place.place-index c.args.places.now) ++ u ∷ []) (c.use_at.ensures given)
    ∙ sym (map_more (λ (i : ℕ). get_or c.args.uses.now i given) c.args.places.now c.loop-place.place-index 0 c.loop-place-test.true)

pub returns : goal.returns
returns c = λ (given : Use). c.loop-place.invariant given ∙ ap (map (λ (i : ℕ). get_or c.args.uses.now i given)) (take_all c.loop-place.place-index c.args.places.now c.loop-place-test.false)
