use Rattle.std.proofs.Common.{◌+◌, ◌-◌, length, sym, ap, ◌∙◌}
use Rattle.std.specs.List.{list_any}
use Rattle.xsd_nodes.specs.Nodes.{is_at, is_skipped, outwards_from}
use Rattle.xsd_nodes.specs.declared.part.Part.TheVariants as part
use Rattle.xsd_nodes.proofs.Upwards.{up_passed}
use Rattle.xsd_nodes.proofs.around.is_skipped.Goals as goal

pub loop-preserved : goal.loop-preserved
loop-preserved c =
    ap (λ a. list_any (is_at c.args.nodes.now part.Annotation) (outwards_from (length c.args.nodes.now - (c.loop.counter + 1)) c.args.nodes.now a)) c.parent_at-around.ensures
    ∙ up_passed (is_at c.args.nodes.now part.Annotation) c.args.nodes.now (length c.args.nodes.now) c.loop.counter c.in-Some.at c.is_at.result (is_skipped c.args.nodes.now c.args.place) c.loop-test.true c.if-is_at.false c.is_at.ensures
    (ap (λ a. list_any (is_at c.args.nodes.now part.Annotation) (outwards_from (length c.args.nodes.now - c.loop.counter) c.args.nodes.now a)) (sym c.in-Some.is) ∙ c.loop.invariant)
