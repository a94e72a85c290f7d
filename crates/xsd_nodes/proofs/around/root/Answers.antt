use Rattle.std.proofs.Common.{◌+◌, ◌-◌, length, sym, ap, ◌∙◌}
use Rattle.xsd_nodes.specs.Nodes.{last_of, outwards_from, root}
use Rattle.xsd_nodes.proofs.Upwards.{root_more}
use Rattle.xsd_nodes.proofs.around.root.Goals as goal

pub loop-preserved : goal.loop-preserved
loop-preserved c =
    ap (λ a. last_of c.in-Some.at (outwards_from (length c.args.nodes.now - (c.loop.counter + 1)) c.args.nodes.now a)) c.parent_at-around.ensures
    ∙ root_more c.args.nodes.now (length c.args.nodes.now) c.loop.counter c.in-Some.at c.loop.last (root c.args.nodes.now c.args.place) c.loop-test.true
    (ap (λ a. last_of c.loop.last (outwards_from (length c.args.nodes.now - c.loop.counter) c.args.nodes.now a)) (sym c.in-Some.is) ∙ c.loop.invariant)
