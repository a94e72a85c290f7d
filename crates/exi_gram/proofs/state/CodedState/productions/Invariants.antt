use Rattle.std.proofs.Common.{◌≡◌, map, take}
use Rattle.exi_gram.specs.Tables.{items_of}
use Rattle.exi_gram.specs.Terminals.{rule}
use Rattle.exi_gram.proofs.state.CodedState.productions.Given as goal

abbrev pub invariant-loop-coded : goal.invariant-loop-coded
invariant-loop-coded l = map rule l.productions ≡ map (λ e. e.rule) (items_of (take l.coded-index l.coded-items))
