use Rattle.std.proofs.Common.{◌++◌, ℕ, List, Some, ap, sym, ◌∙◌, take, [], ◌∷◌}
use Rattle.exi_gram.proofs.LookUps.{Declared}
use Rattle.exi_gram.specs.Globals.{attribute_names, hashed_from}
use Rattle.exi_gram.proofs.Hashes.{hashed_next}
use Rattle.exi_gram.proofs.globals.NameIndex.of_attributes.Goals as goal

pub loop-place-preserved : goal.loop-place-preserved
loop-place-preserved c = λ hash.
    c.in_ok-add.ensures hash
    ∙ ap (λ (z : List ℕ). z ++ hashed_from hash c.loop-place.place ((λ (a : Declared). Some a.0) c.index-attributes-place.result ∷ [])) (c.loop-place.invariant hash)
    ∙ ap (λ (x : Declared). hashed_from hash 0 (attribute_names (take c.loop-place.place c.args.attributes.now)) ++ hashed_from hash c.loop-place.place ((λ (a : Declared). Some a.0) x ∷ [])) c.index-attributes-place.is
    ∙ sym (hashed_next (λ (a : Declared). Some a.0) hash c.args.attributes.now c.loop-place.place c.index-attributes-place.result c.loop-place-test.true)
