use Rattle.std.proofs.Common.{◌≡◌, length}
use Rattle.exi_tape_bench.proofs.texts.text.Given as goal

abbrev pub invariant-loop : goal.invariant-loop
invariant-loop l = length l.text ≡ l.counter
