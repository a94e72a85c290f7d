use Rattle.std.proofs.Common.{◌≡◌, ◌++◌, drop, map, take}
use Rattle.exi_gram.specs.Terminals.{rule}
use Rattle.exi_compile.specs.Opening.{opened_rule}
use Rattle.exi_compile.proofs.opened.open_all.Given as goal

abbrev pub invariant-loop-state : goal.invariant-loop-state
invariant-loop-state l = map (map rule) l.states ≡ map (map (opened_rule l.grammars l.otherwise)) (take l.state-index (map (map rule) l.fn.grammar.states)) ++ drop l.state-index (map (map rule) l.fn.grammar.states)
