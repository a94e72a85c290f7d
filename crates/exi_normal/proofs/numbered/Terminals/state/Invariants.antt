use Rattle.std.proofs.Common.{map, take}
use Rattle.exi_gram.specs.Terminals.{step_rule}
use Rattle.exi_normal.specs.Steps.{AreApart, KeepsSymbols, ShowsState, symbols}
use Rattle.exi_normal.proofs.numbered.Terminals.state.Given as goal

abbrev pub invariant-loop-step : goal.invariant-loop-step
invariant-loop-step l = AreApart (symbols l.self) × KeepsSymbols (symbols l.fn.self) (symbols l.self) × ShowsState (symbols l.self) l.moves (map step_rule (take l.step-index l.steps))
