use Rattle.std.proofs.Common.{◌≡◌, ◌<◌, ◌≤◌, length, ◌∙◌, arith}
use Rattle.std.proofs.lemmas.List.{get_or_read}
use Rattle.xsd_circles.specs.Searches.{shown}
use Rattle.xsd_circles.proofs.Searching.{begun_as, few_queued, next_as, searched_last}
use Rattle.xsd_circles.proofs.search.searched.Goals as goal

pub loop-index-init : goal.loop-index-init
loop-index-init c = begun_as c.args.steps.now c.args.place c.count_of.result (shown c.in_ok-search.search) (shown c.come_on.new.search) c.steps.result.now c.count_of.ensures c.in_ok-search.ensures c.steps.ensures c.in_ok-come_on.ensures

pub loop-index-smaller : goal.loop-index-smaller
loop-index-smaller c =
    let queue = c.loop-index.search.queue in
    let many : c.len.result ≡ length queue.items = c.len.ensures ∙ queue.ok.0 in
    let few : length queue.items ≤ length c.args.steps.now = few_queued c.args.steps.now c.args.place c.loop-index.index (shown c.loop-index.search) c.loop-index.invariant in
    omega (arith, c.loop-index-test.true, many, few)

pub loop-index-preserved : goal.loop-index-preserved
loop-index-preserved c =
    let queue = c.loop-index.search.queue in
    let many : c.len.result ≡ length queue.items = c.len.ensures ∙ queue.ok.0 in
    let less : c.loop-index.index < length queue.items = omega (arith, c.loop-index-test.true, many) in
    next_as c.args.steps.now c.args.place c.loop-index.index c.index-next.result.now (shown c.loop-index.search) (shown c.come_on-in-loop-index.new.search) c.steps-in-loop-index.result.now c.loop-index.invariant less (get_or_read queue.items c.loop-index.index c.index-next.result.now less c.index-next.ensures 0) c.steps-in-loop-index.ensures c.in_ok-come_on-2.ensures

pub returns : goal.returns
returns c =
    let queue = c.loop-index.search.queue in
    let many : c.len.result ≡ length queue.items = c.len.ensures ∙ queue.ok.0 in
    searched_last c.args.steps.now c.args.place c.loop-index.index (shown c.loop-index.search) c.loop-index.invariant (omega (arith, c.loop-index-test.false, many))
