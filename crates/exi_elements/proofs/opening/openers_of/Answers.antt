use Rattle.std.proofs.Common.{◌≡◌, ◌+◌, ◌<◌, List, get_or, length, ap, ◌∙◌, arith}
use Rattle.std.specs.Map.{lookup}
use Rattle.std.proofs.lemmas.List.{length_push}
use Rattle.xsd_model.specs.declared.parts.ElementDecl.{ElementDecl}
use Rattle.exi_elements.specs.Openings.{IsOpening, or_place, same_opening}
use Rattle.exi_elements.proofs.Firsts.{firsts_more, opener_is, openers_next}
use Rattle.exi_elements.proofs.opening.openers_of.Goals as goal

pub loop-place-init : goal.loop-place-init
loop-place-init c = record {
  firsts = λ k. ap (lookup (same_opening k)) c.new-firsts.ensures.empty;
  count = ap length c.new-openers.ensures.items;
  each = λ i less. absurd (omega (arith, less));
}

pub loop-place-preserved : goal.loop-place-preserved
loop-place-preserved c =
    let p = c.args.parts.now in
    let place = c.loop-place.place in
    let e = c.index-elements-place.result in
    let k = c.opening_of-opening.result in
    let first = c.first_of-first.result in
    let old = c.loop-place.firsts.entries in
    let at : e ≡ get_or p.elements place e = c.index-elements-place.is ∙ ap (λ (l : List ElementDecl). get_or l place e) c.elements-elements.ensures.elements in
    let many : length c.elements-elements.result.now ≡ length p.elements = ap length c.elements-elements.ensures.elements in
    let less : place < length p.elements = omega (arith, many, c.loop-place-test.true) in
    let is : IsOpening k e = c.opening_of-opening.ensures in
    let first_is : first ≡ or_place place (lookup (same_opening k) old) = c.first_of-first.ensures in record {
      firsts = firsts_more old c.insert.new.self.entries p.elements place first k e e less at is c.loop-place.invariant.firsts first_is (λ q. c.in_ok-insert.ensures.updates.0 q);
      count = ap length c.in_ok-push.ensures.items ∙ length_push c.loop-place.openers.items first ∙ ap (λ n. n + 1) c.loop-place.invariant.count;
      each = openers_next p c.loop-place.openers.items c.push.new.self.items place first c.loop-place.invariant.count c.loop-place.invariant.each
          (opener_is p old place first k e e less at is c.loop-place.invariant.firsts first_is) c.in_ok-push.ensures.items;
    }

pub returns : goal.returns
returns c =
    let p = c.args.parts.now in
    let many : length c.elements-elements.result.now ≡ length p.elements = ap length c.elements-elements.ensures.elements in
    let ended : c.loop-place.place ≡ length p.elements = omega (arith, many, c.loop-place-test.false, c.loop-place.auto.place-end) in record {
      count = c.loop-place.invariant.count ∙ ended;
      each = λ i less. c.loop-place.invariant.each i (omega (arith, less, ended));
    }
