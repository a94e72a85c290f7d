use Rattle.std.proofs.Common.{◌≡◌, ℕ, suc, ◌+◌, ◌-◌, ◌<◌, ◌≤◌, All, List, [], drop, get_or, length, set, sym, ap, ◌∙◌, subst, arith}
use Rattle.std.specs.List.{sum_by}
use Rattle.std.proofs.lemmas.List.{get_or_default, get_or_read, length-drop, length-set}
use Rattle.std.proofs.lemmas.List.Elements.{All-get_or, All-same}
use Rattle.xsd_model.specs.Parts.{IsSchemaParts, Parts}
use Rattle.exi_elements.specs.Members.{AreMembers, IsWalk, members_in, roots}
use Rattle.exi_elements.proofs.Counting.{IsCounted, all_counted, counted_by, few_led, one_counted}
use Rattle.exi_elements.proofs.Joined.{members_below, roots_below}
use Rattle.exi_elements.proofs.Walking.{led_count}
use Rattle.exi_elements.proofs.counted.counts_of.Goals as goal

-- an index that goes down by one
down : (index : ℕ) → 0 < index → suc (index - 1) ≡ index
down index some = omega (arith, some)

-- a place is counted
counted : (p : Parts) (lists : List (List ℕ)) (counts order : List ℕ) (index place : ℕ) → IsSchemaParts p → AreMembers p lists → IsWalk lists (roots p) order → 0 < index → index ≤ length order → All (IsCounted p counts) (drop index order) → place ≡ get_or order (index - 1) 0 → 1 + sum_by (λ m. get_or counts m 0) (members_in lists place) ≡ led_count p place
counted p lists counts order index place schema are is some within done at =
    counted_by p lists counts order (index - 1) place schema are is (subst (λ n. All (IsCounted p counts) (drop n order)) (sym (down index some)) done) (omega (arith, some, within)) at

next : (p : Parts) (counts order : List ℕ) (index place total : ℕ) → place < length counts → 0 < index → index ≤ length order → place ≡ get_or order (index - 1) 0 → total ≡ led_count p place → All (IsCounted p counts) (drop index order) → All (IsCounted p (set counts place total)) (drop (index - 1) order)
next p counts order index place total less some within at is done =
    subst (λ n. All (IsCounted p (set counts place n)) (drop (index - 1) order)) (sym is)
    (one_counted p counts order (index - 1) place less (omega (arith, some, within)) at (subst (λ n. All (IsCounted p counts) (drop n order)) (sym (down index some)) done))

mine_below : (p : Parts) (lists : List (List ℕ)) (place n : ℕ) → AreMembers p lists → place < length lists → length lists ≡ n → All (λ m. m < n) (members_in lists place)
mine_below p lists place n are less e = subst (λ k. All (λ m. m < k) (members_in lists place)) e (All-get_or (All (λ m. m < length lists)) lists place [] less (members_below p lists are))

pub walked-requires : goal.walked-requires
walked-requires c =
    let lists = c.args.members.now in
    let p = c.args.parts.now in record {
      starts = All-same (λ m. m < length lists) c.in_ok-roots_of.field-0.items (roots p) c.in_ok-roots_of.ensures (roots_below p lists c.requires.members);
      members = members_below p lists c.requires.members;
    }

pub loop-index-init : goal.loop-index-init
loop-index-init c =
    let order = c.in_ok-order.order in
    let counts = c.in_ok-counts.counts in
    let all : c.len-index.result ≡ length order.items = c.len-index.ensures ∙ order.ok.0 in record {
      count = sym counts.ok.0 ∙ c.in_ok-counts.ensures.len ∙ ap length c.elements.ensures.elements;
      within = omega (arith, all);
      counted = λ k d less. absurd (omega (arith, less, all, length-drop c.len-index.result order.items));
    }

pub total-requires : goal.total-requires
total-requires c =
    let p = c.args.parts.now in
    let lists = c.args.members.now in
    let order = c.in_ok-order.order.items in
    let counts = c.loop-index.counts.items in
    let index = c.loop-index.index in
    let place = c.index.result.now in
    let are = c.requires.members in
    let count = are.count in
    let is : IsWalk lists (roots p) order = subst (λ starts. IsWalk lists starts order) c.in_ok-roots_of.ensures c.in_ok-order.ensures in
    let some : 0 < index = c.loop-index-test.true in
    let within : index ≤ length order = c.loop-index.invariant.within in
    let below : index - 1 < length order = omega (arith, some, within) in
    let at : place ≡ get_or order (index - 1) 0 = get_or_read order (index - 1) place below c.index.ensures 0 in
    let here : get_or order (index - 1) 0 < length lists = is.below (index - 1) 0 below in
    let inside : place < length lists = omega (arith, at, here) in
    let mine : c.as_slice-in-loop-index.result.now ≡ members_in lists place = c.as_slice-in-loop-index.ensures ∙ c.index-members-place.is ∙ get_or_default lists place c.index-members-place.result [] inside in
    let all : length counts ≡ length p.elements = c.loop-index.invariant.count in
    let slice : c.as_slice.result.now ≡ counts = c.as_slice.ensures.value in
    let long : length lists ≡ length c.as_slice.result.now = count ∙ sym (ap length slice ∙ all) in
    let sums = counted p lists counts order index place c.elements.ensures.parts are is some within c.loop-index.invariant.counted at in
    let few = c.requires.few in
    let led = few_led p place in
    let small : 1 + sum_by (λ m. get_or counts m 0) (members_in lists place) < 4294967296 = omega (arith, sums, few, led) in record {
      there = All-same (λ m. m < length c.as_slice.result.now) c.as_slice-in-loop-index.result.now (members_in lists place) mine (mine_below p lists place (length c.as_slice.result.now) are inside long);
      few = subst (λ l. 1 + sum_by (λ m. get_or l m 0) c.as_slice-in-loop-index.result.now < 4294967296) (sym slice)
          (subst (λ l. 1 + sum_by (λ m. get_or counts m 0) l < 4294967296) (sym mine) small);
    }

pub loop-index-preserved : goal.loop-index-preserved
loop-index-preserved c =
    let p = c.args.parts.now in
    let lists = c.args.members.now in
    let order = c.in_ok-order.order.items in
    let counts = c.loop-index.counts.items in
    let index = c.loop-index.index in
    let place = c.index.result.now in
    let are = c.requires.members in
    let count = are.count in
    let is : IsWalk lists (roots p) order = subst (λ starts. IsWalk lists starts order) c.in_ok-roots_of.ensures c.in_ok-order.ensures in
    let some : 0 < index = c.loop-index-test.true in
    let within : index ≤ length order = c.loop-index.invariant.within in
    let below : index - 1 < length order = omega (arith, some, within) in
    let at : place ≡ get_or order (index - 1) 0 = get_or_read order (index - 1) place below c.index.ensures 0 in
    let here : get_or order (index - 1) 0 < length lists = is.below (index - 1) 0 below in
    let inside : place < length lists = omega (arith, at, here) in
    let mine : c.as_slice-in-loop-index.result.now ≡ members_in lists place = c.as_slice-in-loop-index.ensures ∙ c.index-members-place.is ∙ get_or_default lists place c.index-members-place.result [] inside in
    let all : length counts ≡ length p.elements = c.loop-index.invariant.count in
    let total_is : c.total.result ≡ led_count p place =
    c.total.ensures
    ∙ ap (λ l. 1 + sum_by (λ m. get_or l m 0) c.as_slice-in-loop-index.result.now) c.as_slice.ensures.value
    ∙ ap (λ l. 1 + sum_by (λ m. get_or counts m 0) l) mine
    ∙ counted p lists counts order index place c.elements.ensures.parts are is some within c.loop-index.invariant.counted at in record {
      count = length-set counts place c.total.result ∙ all;
      within = omega (arith, within);
      counted = next p counts order index place c.total.result (omega (arith, inside, count, all)) some within at total_is c.loop-index.invariant.counted;
    }

pub returns : goal.returns
returns c =
    let p = c.args.parts.now in
    let lists = c.args.members.now in
    let order = c.in_ok-order.order.items in
    let counts = c.loop-index.counts.items in
    let is : IsWalk lists (roots p) order = subst (λ starts. IsWalk lists starts order) c.in_ok-roots_of.ensures c.in_ok-order.ensures in
    let none : c.loop-index.index ≡ 0 = omega (arith, c.loop-index-test.false) in
    all_counted p lists counts order c.elements.ensures.parts c.requires.members is c.loop-index.invariant.count
    (subst (λ n. All (IsCounted p counts) (drop n order)) none c.loop-index.invariant.counted)
