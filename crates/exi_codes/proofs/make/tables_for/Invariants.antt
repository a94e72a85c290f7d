use Rattle.std.proofs.Common.{◌≡◌, map, take}
use Rattle.exi_gram.specs.Laws.{codes}
use Rattle.exi_codes.proofs.make.tables_for.Given as goal

abbrev pub invariant-loop-state : goal.invariant-loop-state
invariant-loop-state l = l.tables ≡ map codes (take l.state-index l.states)
