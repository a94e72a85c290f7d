use Rattle.std.proofs.Common.{◌≡◌, ℕ, false, Some, None, List, get_or, refl, sym, ap, ◌∙◌, slice_get}
use Rattle.exi_gram.specs.declared.entry.ElementEntry.{ElementEntry}
use Rattle.exi_names.specs.Shown.{named}
use Rattle.exi_gram.specs.Globals.{first_at, passes, same_texts, told_of}
use Rattle.exi_gram.proofs.Hashes.{at_none, at_some}
use Rattle.exi_gram.proofs.LookUps.{look_up_found, look_up_passed}
use Rattle.exi_gram.proofs.globals.element_among.Goals as goal
use Rattle.exi_gram.proofs.globals.element_among.Goals.{in-Some+else-has_texts, in_default}

pub returns-then-has_texts : goal.returns-then-has_texts
returns-then-has_texts c =
    let here : slice_get c.args.elements.now (get_or c.args.places.now c.loop-place.place-index 0) ≡ Some c.in-Some.element.now = at_some c.args.elements.now (get_or c.args.places.now c.loop-place.place-index 0) c.in-Some.element.now c.in-Some.ensures.lookup.0 c.in-Some.ensures.lookup.1 in
    ap (told_of (λ (e : ElementEntry). Some e.full) None) (sym here)
    ∙ look_up_found (λ (ps : List ℕ). first_at (λ (e : ElementEntry). same_texts e.name (named c.args.name)) (λ (e : ElementEntry). Some e.full) None c.args.elements.now ps) (λ (p : ℕ). passes (λ (e : ElementEntry). same_texts e.name (named c.args.name)) (slice_get c.args.elements.now p)) (λ (p : ℕ). told_of (λ (e : ElementEntry). Some e.full) None (slice_get c.args.elements.now p)) None refl (λ p ps. refl) 0 c.args.places.now c.loop-place.place-index (first_at (λ (e : ElementEntry). same_texts e.name (named c.args.name)) (λ (e : ElementEntry). Some e.full) None c.args.elements.now c.args.places.now) c.loop-place-test.true
    (ap (passes (λ (e : ElementEntry). same_texts e.name (named c.args.name))) here ∙ (sym c.has_texts.ensures ∙ c.if-has_texts.true)) c.loop-place.invariant

pub loop-place-preserved : goal.loop-place-preserved
loop-place-preserved c =
    let passed : passes (λ (e : ElementEntry). same_texts e.name (named c.args.name)) (slice_get c.args.elements.now (get_or c.args.places.now c.loop-place.place-index 0)) ≡ false = elim c.match-get.branch [
      | in-Some+else-has_texts w ↦ ap (passes (λ (e : ElementEntry). same_texts e.name (named c.args.name))) (at_some c.args.elements.now (get_or c.args.places.now c.loop-place.place-index 0) w.in-Some.element.now w.in-Some.ensures.lookup.0 w.in-Some.ensures.lookup.1) ∙ (sym w.has_texts.ensures ∙ w.if-has_texts.false)
      | in_default w ↦ ap (passes (λ (e : ElementEntry). same_texts e.name (named c.args.name))) (at_none c.args.elements.now (get_or c.args.places.now c.loop-place.place-index 0) w.in_default.ensures.lookup.0)
    ] in
    look_up_passed (λ (ps : List ℕ). first_at (λ (e : ElementEntry). same_texts e.name (named c.args.name)) (λ (e : ElementEntry). Some e.full) None c.args.elements.now ps) (λ (p : ℕ). passes (λ (e : ElementEntry). same_texts e.name (named c.args.name)) (slice_get c.args.elements.now p)) (λ (p : ℕ). told_of (λ (e : ElementEntry). Some e.full) None (slice_get c.args.elements.now p)) None refl (λ p ps. refl) 0 c.args.places.now c.loop-place.place-index (first_at (λ (e : ElementEntry). same_texts e.name (named c.args.name)) (λ (e : ElementEntry). Some e.full) None c.args.elements.now c.args.places.now) c.loop-place-test.true
    passed c.loop-place.invariant
