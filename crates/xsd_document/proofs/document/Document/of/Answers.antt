use Rattle.std.proofs.Common.{◌≡◌, List, length, ap, ◌∙◌, arith}
use Rattle.xsd_tree.specs.declared.node.Node.{Node}
use Rattle.xsd_nodes.specs.Nodes.{parent_at}
use Rattle.xsd_document.proofs.Below.{empty_at, held_none, made, parent_is, put_count, put_next}
use Rattle.xsd_document.proofs.document.Document.of.Goals as goal

pub loop-place-init : goal.loop-place-init
loop-place-init c =
    let count : length c.in_ok-held.held.items ≡ length c.args.tree.now = c.in_ok-held.ensures.count ∙ ap length c.nodes-nodes.ensures.nodes in record {
      count = count;
      each = λ i less. empty_at c.in_ok-held.held.items i c.in_ok-held.ensures.empty (omega (arith, count, less)) ∙ held_none c.args.tree.now i;
    }

pub loop-place-preserved : goal.loop-place-preserved
loop-place-preserved c =
    let parent = c.index-nodes-place.result.parent in
    let lists = c.loop-place.held.items in
    let place = c.loop-place.place in record {
      count = ap length c.in_ok-put.ensures ∙ put_count parent lists place ∙ c.loop-place.invariant.count;
      each =
          put_next c.args.tree.now lists c.put.new.held.items parent place
          (ap (λ (n : Node). n.parent) c.index-nodes-place.is
          ∙ parent_is c.index-nodes-place.result c.nodes-nodes.result.now place c.loop-place-test.true
          ∙ ap (λ (ns : List Node). parent_at ns place) c.nodes-nodes.ensures.nodes)
          c.loop-place.invariant.count c.loop-place.invariant.each c.in_ok-put.ensures;
    }

pub invariant_of-result : goal.invariant_of-result
invariant_of-result c =
    let few : length c.nodes-nodes.result.now ≡ length c.args.tree.now = ap length c.nodes-nodes.ensures.nodes in
    let ended : c.loop-place.place ≡ length c.args.tree.now = omega (arith, few, c.loop-place.auto.place-end) in
    made c.nodes-nodes.result.now c.args.tree.now c.loop-place.held.items c.loop-place.place c.nodes-nodes.ensures.nodes c.nodes-nodes.ensures.tree c.loop-place.invariant.count c.loop-place.invariant.each ended
