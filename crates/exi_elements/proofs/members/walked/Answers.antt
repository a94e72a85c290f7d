use Rattle.std.proofs.Common.{◌≡◌, ◌+◌, ◌-◌, ◌<◌, [], get_or, length, ◌∙◌, arith}
use Rattle.std.proofs.lemmas.List.{get_or_default, get_or_read}
use Rattle.exi_elements.specs.Members.{members_in}
use Rattle.exi_elements.proofs.Walked.{walk_begun, walk_done, walk_more}
use Rattle.exi_elements.proofs.members.walked.Goals as goal

pub loop-index-init : goal.loop-index-init
loop-index-init c = walk_begun c.args.members.now c.args.starts.items c.requires.starts

pub loop-index-preserved : goal.loop-index-preserved
loop-index-preserved c =
    let lists = c.args.members.now in
    let walk = c.loop-index.walk in
    let index = c.loop-index.index in
    let place = c.index-place.result.now in
    let many : c.len.result ≡ length walk.items = c.len.ensures ∙ walk.ok.0 in
    let less : index < length walk.items = omega (arith, c.loop-index-test.true, many) in
    let at : place ≡ get_or walk.items index 0 = get_or_read walk.items index place less c.index-place.ensures 0 in
    let here : get_or walk.items index 0 < length lists = c.loop-index.invariant.below index 0 less in
    let inside : place < length lists = omega (arith, at, here) in
    let mine : c.as_slice.result.now ≡ members_in lists place = c.as_slice.ensures ∙ c.index-members-place.is ∙ get_or_default lists place c.index-members-place.result [] inside in
    walk_more lists c.args.starts.items walk.items c.extend_from_slice.new.self.items c.as_slice.result.now index place c.requires.members c.loop-index.invariant less at mine c.in_ok-extend_from_slice.ensures.items

pub loop-index-smaller : goal.loop-index-smaller
loop-index-smaller c =
    let fits = c.loop-index.auto.index-fits in
    let index = c.loop-index.index in
    let few : index < 18446744073709551616 = omega arith in
    let falls : 18446744073709551616 - (index + 1) < 18446744073709551616 - index = omega (arith, few) in
    falls

pub returns : goal.returns
returns c =
    let walk = c.loop-index.walk in
    let many : c.len.result ≡ length walk.items = c.len.ensures ∙ walk.ok.0 in
    walk_done c.args.members.now c.args.starts.items walk.items c.loop-index.index c.loop-index.invariant (omega (arith, c.loop-index-test.false, many))
