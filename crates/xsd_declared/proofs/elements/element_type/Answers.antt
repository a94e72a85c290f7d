use Rattle.std.proofs.Common.{◌+◌, ◌<◌, length, sym, ap, ◌∙◌, arith}
use Rattle.xsd_declared.specs.Decls.{element_type}
use Rattle.xsd_declared.proofs.Heads.{ends_here, goes_on}
use Rattle.xsd_declared.proofs.elements.element_type.Goals as goal

pub returns-in-Ends : goal.returns-in-Ends
returns-in-Ends c =
    let less : c.loop.counter < length c.args.schema.now + 1 = omega (arith, ap length (c.nodes.ensures.nodes ∙ c.document.ensures), c.loop-test.true) in
    ends_here c.args.schema.now (length c.args.schema.now + 1) c.loop.counter c.loop.at c.in-Ends.found (element_type c.args.schema.now c.args.place) less (sym c.in-Ends.is ∙ c.in_ok-found.ensures) c.loop.invariant

pub loop-preserved : goal.loop-preserved
loop-preserved c =
    let less : c.loop.counter < length c.args.schema.now + 1 = omega (arith, ap length (c.nodes.ensures.nodes ∙ c.document.ensures), c.loop-test.true) in
    goes_on c.args.schema.now (length c.args.schema.now + 1) c.loop.counter c.loop.at c.in-Goes.head (element_type c.args.schema.now c.args.place) less (sym c.in-Goes.is ∙ c.in_ok-found.ensures) c.loop.invariant
