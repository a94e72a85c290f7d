use Rattle.std.proofs.Common.{◌≡◌, ℕ, false, Some, None, List, get_or, refl, sym, ap, ◌∙◌, slice_get}
use Rattle.exi_gram.specs.declared.entry.TypeEntry.{TypeEntry}
use Rattle.exi_names.specs.Shown.{named}
use Rattle.exi_gram.specs.Globals.{first_at, passes, is_named, told_of}
use Rattle.exi_gram.proofs.Hashes.{at_none, at_some}
use Rattle.exi_gram.proofs.LookUps.{look_up_found, look_up_passed}
use Rattle.exi_gram.proofs.globals.type_among.Goals as goal
use Rattle.exi_gram.proofs.globals.type_among.Goals.{in-Some+else-is_named, in_default}

pub returns-then-is_named : goal.returns-then-is_named
returns-then-is_named c =
    let here : slice_get c.args.types.now (get_or c.args.places.now c.loop-place.place-index 0) ≡ Some c.in-Some.entry.now = at_some c.args.types.now (get_or c.args.places.now c.loop-place.place-index 0) c.in-Some.entry.now c.in-Some.ensures.lookup.0 c.in-Some.ensures.lookup.1 in
    ap (told_of (λ (t : TypeEntry). Some t.full) None) (sym here)
    ∙ look_up_found (λ (ps : List ℕ). first_at (λ (t : TypeEntry). is_named t.name (named c.args.name)) (λ (t : TypeEntry). Some t.full) None c.args.types.now ps) (λ (p : ℕ). passes (λ (t : TypeEntry). is_named t.name (named c.args.name)) (slice_get c.args.types.now p)) (λ (p : ℕ). told_of (λ (t : TypeEntry). Some t.full) None (slice_get c.args.types.now p)) None refl (λ p ps. refl) 0 c.args.places.now c.loop-place.place-index (first_at (λ (t : TypeEntry). is_named t.name (named c.args.name)) (λ (t : TypeEntry). Some t.full) None c.args.types.now c.args.places.now) c.loop-place-test.true
    (ap (passes (λ (t : TypeEntry). is_named t.name (named c.args.name))) here ∙ (sym c.is_named.ensures ∙ c.if-is_named.true)) c.loop-place.invariant

pub loop-place-preserved : goal.loop-place-preserved
loop-place-preserved c =
    let passed : passes (λ (t : TypeEntry). is_named t.name (named c.args.name)) (slice_get c.args.types.now (get_or c.args.places.now c.loop-place.place-index 0)) ≡ false = elim c.match-get.branch [
      | in-Some+else-is_named w ↦ ap (passes (λ (t : TypeEntry). is_named t.name (named c.args.name))) (at_some c.args.types.now (get_or c.args.places.now c.loop-place.place-index 0) w.in-Some.entry.now w.in-Some.ensures.lookup.0 w.in-Some.ensures.lookup.1) ∙ (sym w.is_named.ensures ∙ w.if-is_named.false)
      | in_default w ↦ ap (passes (λ (t : TypeEntry). is_named t.name (named c.args.name))) (at_none c.args.types.now (get_or c.args.places.now c.loop-place.place-index 0) w.in_default.ensures.lookup.0)
    ] in
    look_up_passed (λ (ps : List ℕ). first_at (λ (t : TypeEntry). is_named t.name (named c.args.name)) (λ (t : TypeEntry). Some t.full) None c.args.types.now ps) (λ (p : ℕ). passes (λ (t : TypeEntry). is_named t.name (named c.args.name)) (slice_get c.args.types.now p)) (λ (p : ℕ). told_of (λ (t : TypeEntry). Some t.full) None (slice_get c.args.types.now p)) None refl (λ p ps. refl) 0 c.args.places.now c.loop-place.place-index (first_at (λ (t : TypeEntry). is_named t.name (named c.args.name)) (λ (t : TypeEntry). Some t.full) None c.args.types.now c.args.places.now) c.loop-place-test.true
    passed c.loop-place.invariant
