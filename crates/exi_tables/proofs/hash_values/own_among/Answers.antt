use Rattle.std.proofs.Common.{◌≡◌, ◌∷◌, length, ap, ◌∙◌}
use Rattle.exi_tables.specs.Kept.{least_of, lesser}
use Rattle.exi_tables.proofs.Lesser.{own_alone, own_least, own_told, walk_ends, walks_on}
use Rattle.exi_tables.proofs.hash_values.own_among.Goals as goal

pub returns-then-is_empty : goal.returns-then-is_empty
returns-then-is_empty c =
    let none : length c.more.result.now.keys ≡ 0 = c.is_empty.ensures.0 c.if-is_empty.true in
    c.local_at-least.ensures ∙ ap (own_told c.args.name c.args.text.now c.args.live.now) c.least.ensures.least
    ∙ own_alone c.args.name c.args.text.now c.args.live.now c.args.spots.now c.requires.listed (rw c.more.ensures at none)

pub loop-place-init : goal.loop-place-init
loop-place-init c =
    ap (λ o. lesser o (least_of (own_told c.args.name c.args.text.now c.args.live.now) c.into_iter-place-iterator.result))
    (c.local_at-least.ensures ∙ ap (own_told c.args.name c.args.text.now c.args.live.now) c.least.ensures.least)
    ∙ ap (λ ps. lesser (own_told c.args.name c.args.text.now c.args.live.now c.args.spots.now.least) (least_of (own_told c.args.name c.args.text.now c.args.live.now) ps))
    (c.into_iter-place-iterator.ensures.into_iter_gives.0 ∙ c.more-place-items.ensures)

pub loop-place-preserved : goal.loop-place-preserved
loop-place-preserved c =
    walks_on (own_told c.args.name c.args.text.now c.args.live.now) c.loop-place.place-iterator c.next.new.self c.in-Some.place.now c.loop-place.least c.lesser-least.result
    (least_of (own_told c.args.name c.args.text.now c.args.live.now) (c.args.spots.now.least ∷ c.args.spots.now.more)) c.in-Some.ensures.steps
    (c.lesser-least.ensures ∙ ap (λ o. lesser o c.loop-place.least) c.local_at.ensures) c.loop-place.invariant

pub returns : goal.returns
returns c =
    walk_ends (own_told c.args.name c.args.text.now c.args.live.now) c.loop-place.place-iterator c.loop-place.least
    (least_of (own_told c.args.name c.args.text.now c.args.live.now) (c.args.spots.now.least ∷ c.args.spots.now.more)) c.in-None.ensures.steps.0 c.loop-place.invariant
    ∙ own_least c.args.name c.args.text.now c.args.live.now c.args.spots.now c.requires.listed
