use Rattle.xsd_components.proofs.Kept.{AreBelow}
use Rattle.xsd_components.proofs.globals.firsts_of.Given as goal

abbrev pub invariant-loop-place : goal.invariant-loop-place
invariant-loop-place l = AreBelow l.fn.nodes l.firsts.entries l.place
