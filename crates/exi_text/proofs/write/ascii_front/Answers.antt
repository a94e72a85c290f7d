use Rattle.std.proofs.Common.{arith}
use Rattle.exi_text.proofs.Codes.{ascii_more}
use Rattle.exi_text.proofs.write.ascii_front.Goals as goal

pub loop-run-preserved : goal.loop-run-preserved
loop-run-preserved c = record {
  within = omega (arith, c.loop-run.invariant.within, c.loop-run-test.true);
  ascii = ascii_more c.args.octets.now c.loop-run.run c.loop-run.invariant.within c.loop-run.invariant.ascii c.if-is_ascii.ensures.cases;
}
