use Rattle.std.proofs.Common.{◌≡◌, ◌++◌, drop, map, take}
use Rattle.exi_gram.specs.Terminals.{rule}
use Rattle.exi_compile.specs.Opening.{opened_rule}
use Rattle.exi_compile.proofs.opened.open_state.Given as goal

abbrev pub invariant-loop-production : goal.invariant-loop-production
invariant-loop-production l = map rule l.state ≡ map (opened_rule l.grammars l.otherwise) (take l.production-index (map rule l.fn.state)) ++ drop l.production-index (map rule l.fn.state)
