use Rattle.std.proofs.Common.{◌+◌, ◌-◌, length, sym, ap, ◌∙◌}
use Rattle.xsd_nodes.specs.Nodes.{outwards, outwards_from}
use Rattle.xsd_names.specs.Names.{uri_along}
use Rattle.xsd_names.proofs.Upwards.{uri_further}
use Rattle.xsd_names.proofs.namespaces.uri_along.Goals as goal

pub loop-preserved : goal.loop-preserved
loop-preserved c =
    ap (λ a. uri_along c.args.prefix.now c.args.nodes.now (outwards_from (length c.args.nodes.now - (c.loop.counter + 1)) c.args.nodes.now a)) c.parent_at-around.ensures
    ∙ uri_further c.args.prefix.now c.args.nodes.now (length c.args.nodes.now) c.loop.counter c.in-Some.at (uri_along c.args.prefix.now c.args.nodes.now (outwards c.args.nodes.now c.args.place)) c.loop-test.true c.in_default.ensures
    (ap (λ a. uri_along c.args.prefix.now c.args.nodes.now (outwards_from (length c.args.nodes.now - c.loop.counter) c.args.nodes.now a)) (sym c.in-Some.is) ∙ c.loop.invariant)
