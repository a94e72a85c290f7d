use Rattle.std.proofs.Common.{◌<◌, ◌^◌, All, length, take}
use Rattle.exi_compile.proofs.whole.has_few.Given as goal

abbrev pub invariant-loop-state : goal.invariant-loop-state
invariant-loop-state l = All (λ state. length state < 2 ^ 30) (take l.state-index l.states)
