use Rattle.std.proofs.Common.{◌≡◌, false, ap, sym, ◌∙◌}
use Rattle.std.specs.Prelude.{slice_get}
use Rattle.exi_tables.specs.Kept.{has_text, least_of, lesser}
use Rattle.exi_tables.proofs.Lesser.{all_told, others_least, walk_ends, walks_on}
use Rattle.exi_tables.proofs.Looked.{least_stands}
use Rattle.exi_tables.proofs.hash_values.least_among.Goals as goal

pub returns-then-stands_at : goal.returns-then-stands_at
returns-then-stands_at c =
    least_stands c.args.live.now c.args.spots.now c.args.text.now c.requires.listed c.least-first.result (sym c.stands_at.ensures ∙ c.if-stands_at.true) c.least-first.ensures.below

pub loop-place-init : goal.loop-place-init
loop-place-init c =
    ap (least_of (all_told c.args.text.now c.args.live.now)) (c.into_iter-place-iterator.ensures.into_iter_gives.0 ∙ c.more-place-items.ensures)

pub loop-place-preserved : goal.loop-place-preserved
loop-place-preserved c =
    walks_on (all_told c.args.text.now c.args.live.now) c.loop-place.place-iterator c.next.new.self c.in-Some.place.now c.loop-place.least c.lesser-least.result
    (least_of (all_told c.args.text.now c.args.live.now) c.args.spots.now.more) c.in-Some.ensures.steps (c.lesser-least.ensures ∙ ap (λ o. lesser o c.loop-place.least) c.place_at.ensures) c.loop-place.invariant

pub returns : goal.returns
returns c =
    let not_there : has_text c.args.text.now (slice_get c.args.live.now c.args.spots.now.least) ≡ false
    = ap (λ p. has_text c.args.text.now (slice_get c.args.live.now p)) (sym c.least-first.ensures.least) ∙ sym c.stands_at.ensures ∙ c.if-stands_at.false in
    walk_ends (all_told c.args.text.now c.args.live.now) c.loop-place.place-iterator c.loop-place.least (least_of (all_told c.args.text.now c.args.live.now) c.args.spots.now.more)
    c.in-None.ensures.steps.0 c.loop-place.invariant
    ∙ others_least c.args.text.now c.args.live.now c.args.spots.now c.requires.listed not_there
