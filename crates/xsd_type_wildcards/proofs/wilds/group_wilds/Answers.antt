use Rattle.std.proofs.Common.{◌≡◌, ◌<◌, ◌≤◌, Option, None, cond, List, get_or, length, set, refl, ap, ◌∙◌, arith}
use Rattle.std.proofs.lemmas.List.{length-set}
use Rattle.xsd_tree.specs.declared.node.Node.{Node}
use Rattle.xsd_paths.proofs.Orders.{entries_more}
use Rattle.xsd_wildcards.specs.declared.allowed.Allowed.{Allowed}
use Rattle.xsd_type_wildcards.specs.Told.{is_group}
use Rattle.xsd_type_wildcards.specs.Wilds.{own_wild_by, wild_told}
use Rattle.xsd_type_wildcards.proofs.Allowing.{are_wilds, group_wild, wilds_next}
use Rattle.xsd_type_wildcards.proofs.wilds.group_wilds.Goals as goal

pub loop-place-preserved : goal.loop-place-preserved
loop-place-preserved c =
    let ns = c.args.paths.now in
    let order = c.order-order.result.now in
    let k = c.loop-place.place-index in
    let old = c.loop-place.groups.items in
    let found = c.in_ok-wild.wild in
    let place = get_or order k 0 in
    let before = c.loop-place.invariant in
    let inside : place < length old = omega (arith, before.count, c.order-order.ensures.there k c.loop-place-test.true) in
    let found_is : found ≡ cond (is_group ns place) (own_wild_by ns (wild_told old) place) None =
    c.in_ok-wild.ensures
    ∙ ap (λ (x : List Node). cond (is_group x place) (own_wild_by x (wild_told c.as_slice.result.now) place) None) c.schema-schema.ensures
    ∙ ap (λ (l : List (Option Allowed)). cond (is_group ns place) (own_wild_by ns (wild_told l) place) None) c.as_slice.ensures.value in
    record {
      count = length-set old place found ∙ before.count;
      each = entries_more order old (set old place found) None (group_wild ns) k found c.loop-place-test.true inside refl (found_is ∙ wilds_next ns order k old c.order-order.ensures c.loop-place-test.true before.each) before.each;
    }

pub returns : goal.returns
returns c =
    let ended : length c.order-order.result.now ≤ c.loop-place.place-index = omega (arith, c.loop-place-test.false) in
    are_wilds c.args.paths.now c.loop-place.groups.items c.order-order.result.now c.loop-place.place-index c.order-order.ensures ended c.loop-place.invariant.each
