use Rattle.std.proofs.Common.{◌≡◌, ◌<◌, List, get_or, length, sym, ap, ◌∙◌}
use Rattle.std.proofs.lemmas.List.{get_or_default}
use Rattle.xsd_model.specs.declared.parts.ElementDecl.{ElementDecl}
use Rattle.exi_elements.proofs.ByName.{keys_more, pair_is}
use Rattle.exi_elements.proofs.named.keys_of.Goals as goal

pub loop-place-preserved : goal.loop-place-preserved
loop-place-preserved c =
    let p = c.args.parts.now in
    let places = c.args.places.now in
    let i = c.loop-place.place-index in
    let place = get_or places i 0 in
    let less : place < length p.elements = c.requires.there i 0 c.loop-place-test.true in
    let e : ElementDecl = get_or c.elements-elements.result.now place c.index-elements-place.result in
    let at : e ≡ get_or p.elements place e = ap (λ (l : List ElementDecl). get_or l place c.index-elements-place.result) c.elements-elements.ensures.elements ∙ get_or_default p.elements place c.index-elements-place.result e less in
    keys_more p c.loop-place.keys.items c.push.new.self.items _ places i c.loop-place-test.true c.loop-place.invariant c.in_ok-push.ensures.items (sym (pair_is p place e less at))
