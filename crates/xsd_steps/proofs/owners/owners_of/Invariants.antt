use Rattle.std.proofs.Common.{◌≡◌, ℕ, ◌<◌, None, get_or, length}
use Rattle.xsd_steps.specs.Table.{owner}
use Rattle.xsd_steps.proofs.owners.owners_of.Given as goal

abbrev pub invariant-loop-node : goal.invariant-loop-node
invariant-loop-node l = record {
  count : length l.owners.items ≡ l.node-index;
  each : (j : ℕ) → j < l.node-index → get_or l.owners.items j None ≡ owner l.fn.nodes j;
}
