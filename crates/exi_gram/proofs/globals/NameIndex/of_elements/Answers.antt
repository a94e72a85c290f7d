use Rattle.std.proofs.Common.{◌++◌, ℕ, List, Some, ap, sym, ◌∙◌, take, [], ◌∷◌}
use Rattle.exi_gram.specs.declared.entry.ElementEntry.{ElementEntry}
use Rattle.exi_gram.specs.Globals.{element_names, hashed_from}
use Rattle.exi_gram.proofs.Hashes.{hashed_next}
use Rattle.exi_gram.proofs.globals.NameIndex.of_elements.Goals as goal

pub loop-place-preserved : goal.loop-place-preserved
loop-place-preserved c = λ hash.
    c.in_ok-add.ensures hash
    ∙ ap (λ (z : List ℕ). z ++ hashed_from hash c.loop-place.place ((λ (e : ElementEntry). Some e.name) c.index-elements-place.result ∷ [])) (c.loop-place.invariant hash)
    ∙ ap (λ (x : ElementEntry). hashed_from hash 0 (element_names (take c.loop-place.place c.args.elements.now)) ++ hashed_from hash c.loop-place.place ((λ (e : ElementEntry). Some e.name) x ∷ [])) c.index-elements-place.is
    ∙ sym (hashed_next (λ (e : ElementEntry). Some e.name) hash c.args.elements.now c.loop-place.place c.index-elements-place.result c.loop-place-test.true)
