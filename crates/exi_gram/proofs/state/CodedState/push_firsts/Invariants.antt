use Rattle.std.proofs.Common.{◌≡◌}
use Rattle.exi_gram.specs.Books.{is_kept}
use Rattle.exi_gram.specs.Tables.{items_of, with_firsts}
use Rattle.exi_gram.proofs.Leaving.{SoFar}
use Rattle.exi_gram.proofs.state.CodedState.push_firsts.Given as goal

abbrev pub invariant-loop-coded : goal.invariant-loop-coded
invariant-loop-coded l = l.self ≡ with_firsts l.fn.self (SoFar (is_kept l.options) (items_of l.from) l.coded-index)
