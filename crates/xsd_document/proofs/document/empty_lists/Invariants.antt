use Rattle.std.proofs.Common.{◌≡◌, All, [], length}
use Rattle.xsd_document.proofs.document.empty_lists.Given as goal

abbrev pub invariant-loop : goal.invariant-loop
invariant-loop l = record {
  count : length l.lists.items ≡ l.counter;
  empty : All (λ x. x ≡ []) l.lists.items;
}
