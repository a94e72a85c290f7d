use Rattle.std.proofs.Common.{◌≡◌, ◌++◌, ◌∷◌, ◌∙◌, [], List, ℕ, ap}
use Rattle.std.proofs.lemmas.List.{take_all}
use Rattle.exi_gram.specs.Candidates.{found}
use Rattle.exi_gram.proofs.Indexed.{found_added}
use Rattle.exi_gram.proofs.index.Index.add.Goals as goal

pub returns : goal.returns
returns c =
    let whole : c.loop-place.places ≡ c.find-place-items.result.now = c.loop-place.invariant ∙ take_all c.loop-place.place-index c.find-place-items.result.now c.loop-place-test.false in
    let all : c.push-2.new.self ≡ found c.args.self.now c.args.class c.args.name ++ c.args.place ∷ [] = c.in_ok-push-2.ensures.ok ∙ ap (λ (z : List ℕ). z ++ c.args.place ∷ []) (whole ∙ c.find-place-items.ensures) in
    found_added c.args.self.now c.insert.new.self.entries c.args.class c.args.name c.push-2.new.self c.args.place all
    (rw (c.key_of.ensures, c.self.view_is) at c.in_ok-insert.ensures.updates.0)
