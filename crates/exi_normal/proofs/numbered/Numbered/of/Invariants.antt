use Rattle.std.proofs.Common.{map, take}
use Rattle.exi_gram.specs.Terminals.{step_rule}
use Rattle.exi_normal.specs.Steps.{AreApart, ShowsStates, symbols}
use Rattle.exi_normal.proofs.numbered.Numbered.of.Given as goal

abbrev pub invariant-loop-steps : goal.invariant-loop-steps
invariant-loop-steps l = AreApart (symbols l.terminals) × ShowsStates (symbols l.terminals) l.states.items (map (map step_rule) (take l.steps-index l.proto.states))
