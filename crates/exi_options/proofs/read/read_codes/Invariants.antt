use Rattle.exi_options.proofs.Steps.{Goes, left_to_come}
use Rattle.exi_options.proofs.read.read_codes.Given as goal

abbrev pub invariant-loop-alloc : goal.invariant-loop-alloc
invariant-loop-alloc l = Goes l.fn.input l.state l.told l.input

abbrev pub decreases-loop-alloc : goal.decreases-loop-alloc
decreases-loop-alloc l = left_to_come l.state l.input
