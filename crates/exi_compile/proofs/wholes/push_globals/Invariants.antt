use Rattle.std.proofs.Common.{◌≡◌, ◌++◌, map, take}
use Rattle.exi_gram.specs.Terminals.{rule}
use Rattle.exi_gram.specs.Wholes.{opening}
use Rattle.exi_compile.specs.Entries.{opened_as}
use Rattle.exi_compile.proofs.wholes.push_globals.Given as goal

abbrev pub invariant-loop-element : goal.invariant-loop-element
invariant-loop-element l = map rule l.state ≡ map rule l.fn.state ++ map (λ e. opening l.to (opened_as e)) (take l.element-index l.elements)
