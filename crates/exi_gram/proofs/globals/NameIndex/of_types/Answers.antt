use Rattle.std.proofs.Common.{◌≡◌, ◌++◌, ℕ, List, Option, ap, sym, ◌∙◌, take, [], ◌∷◌}
use Rattle.exi_names.specs.declared.names.QName.{QName}
use Rattle.exi_gram.specs.declared.entry.TypeEntry.{TypeEntry}
use Rattle.exi_gram.specs.Globals.{Hashed, type_names, hashed_from, places_under}
use Rattle.exi_gram.proofs.Hashes.{hashed_next, none_added}
use Rattle.exi_gram.proofs.globals.NameIndex.of_types.Goals as goal
use Rattle.exi_gram.proofs.globals.NameIndex.of_types.Goals.{in-Some+in_ok-add, in_default}

pub loop-place-preserved : goal.loop-place-preserved
loop-place-preserved c = λ hash.
    let more : places_under c.match-entry.index hash ≡ places_under c.loop-place.index hash ++ hashed_from hash c.loop-place.place (c.index-types-place.result.name ∷ []) = elim c.match-entry.branch [
      | in-Some+in_ok-add w ↦ ap (λ (i : Hashed). places_under i hash) w.index-is ∙ w.in_ok-add.ensures hash ∙ ap (λ (n : Option QName). places_under c.loop-place.index hash ++ hashed_from hash c.loop-place.place (n ∷ [])) (sym w.in-Some.is)
      | in_default w ↦ ap (λ (i : Hashed). places_under i hash) w.index-is ∙ none_added hash c.loop-place.place c.index-types-place.result.name (places_under c.loop-place.index hash) w.in_default.is
    ] in
    more
    ∙ ap (λ (z : List ℕ). z ++ hashed_from hash c.loop-place.place (c.index-types-place.result.name ∷ [])) (c.loop-place.invariant hash)
    ∙ ap (λ (x : TypeEntry). hashed_from hash 0 (type_names (take c.loop-place.place c.args.types.now)) ++ hashed_from hash c.loop-place.place (x.name ∷ [])) c.index-types-place.is
    ∙ sym (hashed_next (λ (t : TypeEntry). t.name) hash c.args.types.now c.loop-place.place c.index-types-place.result c.loop-place-test.true)
