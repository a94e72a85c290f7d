use Rattle.std.proofs.Common.{◌<◌, ◌+◌, ◌∷◌, drop, get_or, length, sym, ◌∙◌, arith}
use Rattle.std.proofs.lemmas.List.Elements.{All-head, All-rest, All-same}
use Rattle.exi_proto.proofs.Looping.{drop_here, starts_next, sum_next}
use Rattle.exi_proto.proofs.Turning.{states_told}
use Rattle.exi_proto.proofs.turns.starts_of.Goals as goal

pub states-at-requires : goal.states-at-requires
states-at-requires c =
    let xs = c.args.places.now in
    let n = c.loop-place.place-index in
    let split = drop_here xs n 0 c.loop-place-test.true in
    record { exists = All-head (λ place. place < length c.args.counts.now.particles) (get_or xs n 0) (drop (n + 1) xs) (All-same (λ place. place < length c.args.counts.now.particles) (get_or xs n 0 ∷ drop (n + 1) xs) (drop n xs) (sym split) c.loop-place.invariant.1) }

pub overflow_add-at : goal.overflow_add-at
overflow_add-at c =
    let p = c.args.counts.now in
    let xs = c.args.places.now in
    let n = c.loop-place.place-index in
    let e = sum_next p xs n c.loop-place-test.true in
    let room = c.loop-place.invariant.0 in
    let told = states_told p (get_or xs n 0) c.states-at.result c.loop-place.at c.states-at.ensures (omega (arith, e, room)) in
    omega (arith, told, e, room)

pub loop-place-preserved : goal.loop-place-preserved
loop-place-preserved c =
    let p = c.args.counts.now in
    let xs = c.args.places.now in
    let n = c.loop-place.place-index in
    let e = sum_next p xs n c.loop-place-test.true in
    let room = c.loop-place.invariant.0 in
    let told = states_told p (get_or xs n 0) c.states-at.result c.loop-place.at c.states-at.ensures (omega (arith, e, room)) in
    let split = drop_here xs n 0 c.loop-place-test.true in (
      omega (arith, told, e, room),
      All-rest (λ place. place < length c.args.counts.now.particles) (get_or xs n 0) (drop (n + 1) xs) (drop n xs) split c.loop-place.invariant.1,
      starts_next p c.loop-place.at (c.loop-place.at + c.states-at.result) xs n c.loop-place.steps c.push.new.self c.leading.result c.loop-place-test.true c.in_ok-push.ensures.ok c.leading.ensures (omega (arith, told)) ∙ c.loop-place.invariant.2,
    )
