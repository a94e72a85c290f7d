use Rattle.exi_pool.specs.Passes.{IsOf}
use Rattle.exi_tape_bench.proofs.events.push_all.Given as goal

abbrev pub invariant-loop : goal.invariant-loop
invariant-loop g l = IsOf l.pool l.pass
