use Rattle.exi_pool.specs.Passes.{IsOf}
use Rattle.exi_page_tests.proofs.rounds.left.Given as goal

abbrev pub invariant-loop-found : goal.invariant-loop-found
invariant-loop-found g l = IsOf l.pool l.pass
