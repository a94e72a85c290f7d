use Rattle.std.proofs.Common.{◌≡◌, length}
use Rattle.exi_page_tests.proofs.tapes.text.Given as goal

abbrev pub invariant-loop : goal.invariant-loop
invariant-loop l = length l.text ≡ l.counter
