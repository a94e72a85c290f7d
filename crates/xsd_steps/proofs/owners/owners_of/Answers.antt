use Rattle.std.proofs.Common.{◌≡◌, ℕ, Option, List, ap, ◌∙◌}
use Rattle.xsd_tree.specs.declared.node.Node.{Node}
use Rattle.xsd_nodes.specs.Nodes.{parent_at}
use Rattle.xsd_document.proofs.Below.{parent_is}
use Rattle.xsd_steps.specs.Table.{owner, owner_by}
use Rattle.xsd_steps.proofs.LiesIn.{next_owner, owners_count, owners_next}
use Rattle.xsd_steps.proofs.owners.owners_of.Goals as goal

pub loop-node-preserved : goal.loop-node-preserved
loop-node-preserved c =
    let nodes = c.args.nodes.now in
    let owners = c.loop-node.owners.items in
    let place = c.loop-node.node-index in
    let parent = c.node-item.result.parent in
    let parent_here : parent ≡ parent_at nodes place = ap (λ (n : Node). n.parent) c.node-item.is ∙ parent_is c.node-item.result nodes place c.loop-node-test.true in
    let found : c.owner_by-owner.result ≡ owner nodes place =
    c.owner_by-owner.ensures
    ∙ ap (λ (l : List (Option ℕ)). owner_by nodes l parent) c.as_slice.ensures.value
    ∙ ap (owner_by nodes owners) parent_here
    ∙ next_owner nodes owners place c.requires.tree c.loop-node-test.true c.loop-node.invariant.each in record {
      count = owners_count owners c.push.new.self.items place c.owner_by-owner.result c.loop-node.invariant.count c.in_ok-push.ensures.items;
      each = owners_next nodes owners c.push.new.self.items place c.owner_by-owner.result c.loop-node.invariant.count c.loop-node.invariant.each found c.in_ok-push.ensures.items;
    }
