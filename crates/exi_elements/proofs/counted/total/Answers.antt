use Rattle.std.proofs.Common.{◌≡◌, ◌+◌, ◌<◌, get_or, take, arith}
use Rattle.std.specs.List.{sum_by}
use Rattle.std.proofs.lemmas.List.Sums.{sum_by_more, sum_by_more_le}
use Rattle.exi_elements.proofs.counted.total.Goals as goal

pub overflow_add-total : goal.overflow_add-total
overflow_add-total c =
    let counts = c.args.counts.now in
    let places = c.args.places.now in
    let place = c.loop-place.place-index in
    let le = sum_by_more_le (λ m. get_or counts m 0) places place 0 c.loop-place-test.true in
    let so_far : c.loop-place.total ≡ 1 + sum_by (λ m. get_or counts m 0) (take place places) = c.loop-place.invariant in
    let few : 1 + sum_by (λ m. get_or counts m 0) places < 4294967296 = c.requires.few in
    let fits : c.loop-place.total + get_or counts (get_or places place 0) 0 < 4294967296 = omega (arith, le, so_far, few) in
    omega (arith, fits)

pub loop-place-preserved : goal.loop-place-preserved
loop-place-preserved c =
    let counts = c.args.counts.now in
    let places = c.args.places.now in
    let place = c.loop-place.place-index in
    let more = sum_by_more (λ m. get_or counts m 0) places place 0 c.loop-place-test.true in
    let so_far : c.loop-place.total ≡ 1 + sum_by (λ m. get_or counts m 0) (take place places) = c.loop-place.invariant in
    omega (arith, more, so_far)
