use Rattle.std.proofs.Common.{◌≡◌, ℕ, ◌<◌, [], get_or, length}
use Rattle.xsd_document.proofs.Below.{held_below}
use Rattle.xsd_document.proofs.document.Document.of.Given as goal

abbrev pub invariant-loop-place : goal.invariant-loop-place
invariant-loop-place l = record {
  count : length l.held.items ≡ length l.fn.tree;
  each : (i : ℕ) → i < length l.fn.tree → get_or l.held.items i [] ≡ held_below l.fn.tree l.place i;
}
