use Rattle.std.proofs.Common.{◌≡◌, ℕ, List, length, ap, ◌∙◌, arith}
use Rattle.xsd_tree.specs.Trees.{IsTree}
use Rattle.xsd_tree.specs.declared.node.Node.{Node}
use Rattle.xsd_nodes.specs.Nodes.{parent_at}
use Rattle.xsd_document.proofs.Below.{parent_is}
use Rattle.xsd_slots.specs.Orders.{before_at, raised, reached_by}
use Rattle.xsd_slots.proofs.Reached.{before_next, count_next, made, own_before, raised_count, raised_in, reached_next}
use Rattle.xsd_slots.proofs.order.Order.of.Goals as goal

pub loop-place-preserved : goal.loop-place-preserved
loop-place-preserved c =
    let nodes = c.nodes-nodes.result.now in
    let tree = c.args.tree.now in
    let same : nodes ≡ tree = c.nodes-nodes.ensures.nodes in
    let is_tree : IsTree tree = c.nodes-nodes.ensures.tree in
    let parent = c.index-nodes-place.result.parent in
    let place = c.loop-place.place in
    let reached = c.loop-place.reached.items in
    let before = c.loop-place.before.items in
    let raised_is : c.raise.new.reached.items ≡ raised tree parent place reached = raised_in nodes tree parent place reached c.raise.new.reached.items same c.raise.ensures in
    let parent_here : parent ≡ parent_at tree place =
    ap (λ (n : Node). n.parent) c.index-nodes-place.is
    ∙ parent_is c.index-nodes-place.result nodes place c.loop-place-test.true
    ∙ ap (λ (ns : List Node). parent_at ns place) same in
    let own : c.reached_by.result ≡ before_at tree place = own_before tree reached place parent c.reached_by.result is_tree parent_here c.loop-place.invariant.reached (c.reached_by.ensures ∙ ap (λ (l : List ℕ). reached_by l parent) c.as_slice.ensures.value) in record {
      reached_count = ap length raised_is ∙ raised_count tree parent place reached ∙ c.loop-place.invariant.reached_count;
      reached = reached_next tree parent place reached c.raise.new.reached.items parent_here c.loop-place.invariant.reached_count c.loop-place.invariant.reached raised_is;
      count = count_next before c.push.new.self.items place c.reached_by.result c.loop-place.invariant.count c.in_ok-push.ensures.items;
      before = before_next tree before c.push.new.self.items place c.reached_by.result c.loop-place.invariant.count c.loop-place.invariant.before own c.in_ok-push.ensures.items;
    }

pub invariant_of-result : goal.invariant_of-result
invariant_of-result c =
    let few : length c.nodes-nodes.result.now ≡ length c.args.tree.now = ap length c.nodes-nodes.ensures.nodes in
    let ended : c.loop-place.place ≡ length c.args.tree.now = omega (arith, few, c.loop-place.auto.place-end) in
    made c.nodes-nodes.result.now c.args.tree.now c.loop-place.before.items c.loop-place.place c.nodes-nodes.ensures.nodes c.loop-place.invariant.count ended c.loop-place.invariant.before
