use Rattle.std.proofs.Common.{arith}
use Rattle.xsd_nodes.specs.PartNames.{is_among, is_part}
use Rattle.xsd_nodes.proofs.Lists.{any_ended, any_found, any_passed}
use Rattle.xsd_nodes.proofs.part.is_among.Goals as goal

pub returns-then-is_part : goal.returns-then-is_part
returns-then-is_part c = any_found _ (is_part c.args.part) c.args.parts.now c.loop-one.one-index c.is_part.result (is_among c.args.parts.now c.args.part) c.loop-one-test.true c.if-is_part.true c.is_part.ensures c.loop-one.invariant

pub loop-one-preserved : goal.loop-one-preserved
loop-one-preserved c = any_passed _ (is_part c.args.part) c.args.parts.now c.loop-one.one-index c.is_part.result (is_among c.args.parts.now c.args.part) c.loop-one-test.true c.if-is_part.false c.is_part.ensures c.loop-one.invariant

pub returns : goal.returns
returns c = any_ended (is_part c.args.part) c.args.parts.now c.loop-one.one-index (is_among c.args.parts.now c.args.part) (omega arith) c.loop-one.invariant
