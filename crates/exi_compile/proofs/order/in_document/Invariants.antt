use Rattle.std.proofs.Common.{◌≡◌, suc, ◌+◌, ◌-◌, ◌≤◌, length}
use Rattle.exi_compiled.specs.Compiled.{in_document}
use Rattle.exi_compile.proofs.NextItem.{document_on}
use Rattle.exi_compile.proofs.order.in_document.Given as goal

abbrev pub invariant-loop : goal.invariant-loop
invariant-loop l = record {
  so_far : document_on l.items.items (suc (length l.types + length l.elements - l.counter)) l.types l.of l.elements l.element ≡ in_document (suc (length l.types + length l.elements)) 0 l.types 0 l.elements;
  sum : l.of + l.element ≡ l.counter;
  types : l.of ≤ length l.types;
  elements : l.element ≤ length l.elements;
}
