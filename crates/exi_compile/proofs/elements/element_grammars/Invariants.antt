use Rattle.std.proofs.Common.{◌≡◌, ℕ, ◌<◌, get_or, length}
use Rattle.exi_compiled.specs.Compiled.{element_grammar}
use Rattle.exi_compile.proofs.elements.element_grammars.Given as goal

abbrev pub invariant-loop-place : goal.invariant-loop-place
invariant-loop-place l = record {
  count : length l.grammars.items ≡ l.place;
  each : (i : ℕ) → i < l.place → get_or l.grammars.items i 0 ≡ element_grammar l.fn.elements i;
}
