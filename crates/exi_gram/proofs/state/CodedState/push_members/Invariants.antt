use Rattle.std.proofs.Common.{◌≡◌}
use Rattle.exi_gram.specs.Books.{is_kept}
use Rattle.exi_gram.specs.Codes.{group_unless_empty}
use Rattle.exi_gram.specs.Tables.{items_of, with_seconds}
use Rattle.exi_gram.proofs.Leaving.{SoFar, is_any}
use Rattle.exi_gram.proofs.state.CodedState.push_members.Given as goal

abbrev pub invariant-loop-coded : goal.invariant-loop-coded
invariant-loop-coded l =
    (l.self ≡ with_seconds l.fn.self (group_unless_empty (SoFar (is_kept l.options) (items_of l.from) l.coded-index)))
    × (l.any ≡ is_any (SoFar (is_kept l.options) (items_of l.from) l.coded-index))
