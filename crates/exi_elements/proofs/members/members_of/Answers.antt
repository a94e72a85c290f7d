use Rattle.std.proofs.Common.{◌≡◌, ℕ, ◌<◌, List, [], get_or, length, sym, ap, ◌∙◌, subst, arith}
use Rattle.std.proofs.Math.ListN.{replicate}
use Rattle.std.proofs.lemmas.List.{length-replicate}
use Rattle.xsd_model.specs.declared.parts.ElementDecl.{ElementDecl}
use Rattle.xsd_model.specs.Parts.{IsBelow}
use Rattle.exi_elements.specs.Members.{put_member}
use Rattle.exi_elements.proofs.Joined.{head_is_below, join_begun, join_done, joined_count, joined_more}
use Rattle.exi_elements.proofs.members.members_of.Goals as goal

abbrev none : List ℕ
none = []

pub loop-place-init : goal.loop-place-init
loop-place-init c =
    let p = c.args.parts.now in
    let many : length c.elements-elements.result.now ≡ length p.elements = ap length c.elements-elements.ensures.elements in record {
      count = ap length c.in_ok-lists.ensures ∙ length-replicate (length c.elements-elements.result.now) none ∙ many;
      each = λ h less. join_begun p c.in_ok-lists.lists.items (c.in_ok-lists.ensures ∙ ap (λ n. replicate n none) many) h less;
    }

pub put_member-requires : goal.put_member-requires
put_member-requires c =
    let p = c.args.parts.now in
    let place = c.loop-place.place in
    let e = c.index-elements-place.result in
    let lists = c.loop-place.lists.items in
    let at : e ≡ get_or p.elements place e = c.index-elements-place.is ∙ ap (λ (l : List ElementDecl). get_or l place e) c.elements-elements.ensures.elements in
    let many : length c.elements-elements.result.now ≡ length p.elements = ap length c.elements-elements.ensures.elements in
    let less : place < length p.elements = omega (arith, many, c.loop-place-test.true) in
    record { there = subst (λ (d : ElementDecl). IsBelow (length lists) d.head) c.index-elements-place.is (head_is_below p c.elements-elements.ensures.parts place (length lists) e less at c.loop-place.invariant.count) }

pub loop-place-preserved : goal.loop-place-preserved
loop-place-preserved c =
    let p = c.args.parts.now in
    let place = c.loop-place.place in
    let e = c.index-elements-place.result in
    let lists = c.loop-place.lists.items in
    let new = c.put_member.new.lists.items in
    let at : e ≡ get_or p.elements place e = c.index-elements-place.is ∙ ap (λ (l : List ElementDecl). get_or l place e) c.elements-elements.ensures.elements in
    let many : length c.elements-elements.result.now ≡ length p.elements = ap length c.elements-elements.ensures.elements in
    let less : place < length p.elements = omega (arith, many, c.loop-place-test.true) in
    let new_is : new ≡ put_member e.head place lists = c.in_ok-put_member.ensures ∙ ap (λ (d : ElementDecl). put_member d.head place lists) (sym c.index-elements-place.is) in
    let below : IsBelow (length lists) e.head = head_is_below p c.elements-elements.ensures.parts place (length lists) e less at c.loop-place.invariant.count in record {
      count = ap length new_is ∙ joined_count e.head place lists ∙ c.loop-place.invariant.count;
      each = λ h inside. joined_more p lists new place e less at below new_is h (c.loop-place.invariant.each h inside);
    }

pub returns : goal.returns
returns c =
    let p = c.args.parts.now in
    let many : length c.elements-elements.result.now ≡ length p.elements = ap length c.elements-elements.ensures.elements in
    join_done p c.loop-place.lists.items c.loop-place.place (omega (arith, many, c.loop-place-test.false)) c.loop-place.invariant.count c.loop-place.invariant.each
