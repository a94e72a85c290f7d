use Rattle.std.proofs.Common.{◌≡◌, ℕ, false, Some, None, List, get_or, refl, sym, ap, ◌∙◌, slice_get}
use Rattle.exi_gram.proofs.LookUps.{Declared}
use Rattle.exi_names.specs.Shown.{named}
use Rattle.exi_gram.specs.Globals.{first_at, passes, represented_by, same_texts, told_of}
use Rattle.exi_gram.proofs.Hashes.{at_none, at_some}
use Rattle.exi_gram.proofs.LookUps.{look_up_found, look_up_passed}
use Rattle.exi_gram.proofs.globals.attribute_among.Goals as goal
use Rattle.exi_gram.proofs.globals.attribute_among.Goals.{in-Some+else-has_texts, in_default}

pub returns-then-has_texts : goal.returns-then-has_texts
returns-then-has_texts c =
    let here : slice_get c.args.attributes.now (get_or c.args.places.now c.loop-place.place-index 0) ≡ Some c.in-Some.attribute.now = at_some c.args.attributes.now (get_or c.args.places.now c.loop-place.place-index 0) c.in-Some.attribute.now c.in-Some.ensures.lookup.0 c.in-Some.ensures.lookup.1 in
    ap (told_of (λ (a : Declared). represented_by (Some a.1)) (represented_by None)) (sym here)
    ∙ look_up_found (λ (ps : List ℕ). first_at (λ (a : Declared). same_texts a.0 (named c.args.name)) (λ (a : Declared). represented_by (Some a.1)) (represented_by None) c.args.attributes.now ps) (λ (p : ℕ). passes (λ (a : Declared). same_texts a.0 (named c.args.name)) (slice_get c.args.attributes.now p)) (λ (p : ℕ). told_of (λ (a : Declared). represented_by (Some a.1)) (represented_by None) (slice_get c.args.attributes.now p)) (represented_by None) refl (λ p ps. refl) 0 c.args.places.now c.loop-place.place-index (first_at (λ (a : Declared). same_texts a.0 (named c.args.name)) (λ (a : Declared). represented_by (Some a.1)) (represented_by None) c.args.attributes.now c.args.places.now) c.loop-place-test.true
    (ap (passes (λ (a : Declared). same_texts a.0 (named c.args.name))) here ∙ (sym c.has_texts.ensures ∙ c.if-has_texts.true)) c.loop-place.invariant

pub loop-place-preserved : goal.loop-place-preserved
loop-place-preserved c =
    let passed : passes (λ (a : Declared). same_texts a.0 (named c.args.name)) (slice_get c.args.attributes.now (get_or c.args.places.now c.loop-place.place-index 0)) ≡ false = elim c.match-get.branch [
      | in-Some+else-has_texts w ↦ ap (passes (λ (a : Declared). same_texts a.0 (named c.args.name))) (at_some c.args.attributes.now (get_or c.args.places.now c.loop-place.place-index 0) w.in-Some.attribute.now w.in-Some.ensures.lookup.0 w.in-Some.ensures.lookup.1) ∙ (sym w.has_texts.ensures ∙ w.if-has_texts.false)
      | in_default w ↦ ap (passes (λ (a : Declared). same_texts a.0 (named c.args.name))) (at_none c.args.attributes.now (get_or c.args.places.now c.loop-place.place-index 0) w.in_default.ensures.lookup.0)
    ] in
    look_up_passed (λ (ps : List ℕ). first_at (λ (a : Declared). same_texts a.0 (named c.args.name)) (λ (a : Declared). represented_by (Some a.1)) (represented_by None) c.args.attributes.now ps) (λ (p : ℕ). passes (λ (a : Declared). same_texts a.0 (named c.args.name)) (slice_get c.args.attributes.now p)) (λ (p : ℕ). told_of (λ (a : Declared). represented_by (Some a.1)) (represented_by None) (slice_get c.args.attributes.now p)) (represented_by None) refl (λ p ps. refl) 0 c.args.places.now c.loop-place.place-index (first_at (λ (a : Declared). same_texts a.0 (named c.args.name)) (λ (a : Declared). represented_by (Some a.1)) (represented_by None) c.args.attributes.now c.args.places.now) c.loop-place-test.true
    passed c.loop-place.invariant
