use Rattle.std.proofs.Common.{◌≡◌, ◌<◌, arith, length}
use Rattle.exi_elements.specs.StandIns.{opener}
use Rattle.exi_compiled.proofs.Drafts.{opener_below}
use Rattle.exi_compile.proofs.Placed.{grammars_count, grammars_next}
use Rattle.exi_compile.proofs.elements.element_grammars.Goals as goal

pub bounds-places-opener : goal.bounds-places-opener
bounds-places-opener c =
    let p = c.args.elements.now in
    let is : c.opener-opener.result ≡ opener p c.loop-place.place = c.opener-opener.ensures in
    let below : opener p c.loop-place.place < length p.elements = opener_below p c.loop-place.place (omega (arith, c.requires.long, c.loop-place-test.true)) in
    omega (arith, is, below, c.requires.long)

pub loop-place-preserved : goal.loop-place-preserved
loop-place-preserved c =
    let p = c.args.elements.now in
    let old = c.loop-place.grammars.items in
    let new = c.push.new.self.items in
    let less : c.loop-place.place < length p.elements = omega (arith, c.requires.long, c.loop-place-test.true) in record {
      count = grammars_count old new c.loop-place.place _ c.loop-place.invariant.count c.in_ok-push.ensures.items;
      each = grammars_next p c.args.places.now old new c.loop-place.place c.opener-opener.result c.requires.places less c.opener-opener.ensures c.in_ok-push.ensures.items c.loop-place.invariant.count c.loop-place.invariant.each;
    }
