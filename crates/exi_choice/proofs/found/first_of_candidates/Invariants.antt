use Rattle.std.proofs.Common.{◌^◌, ◌-◌, ◌<◌}
use Rattle.std.specs.Prelude.{IfSome}
use Rattle.exi_candidates.specs.Order.{floor_of}
use Rattle.exi_gram.specs.Books.{state_at}
use Rattle.exi_gram.specs.Tables.{size}
use Rattle.exi_choice.specs.Choices.{wanting}
use Rattle.exi_choice.proofs.Searching.{AllBehind, IsKept}
use Rattle.exi_choice.proofs.found.first_of_candidates.Given as goal

abbrev pub invariant-loop-place : goal.invariant-loop-place
invariant-loop-place l = record {
  kept : IsKept l.book l.grammar l.state l.coded;
  there : IfSome l.after (λ place. place < size (state_at l.book l.grammar l.state));
  behind : AllBehind l.book.schema (wanting l.wanted) (state_at l.book l.grammar l.state) l.after;
}

abbrev pub decreases-loop-place : goal.decreases-loop-place
decreases-loop-place l = 2 ^ 34 - floor_of (state_at l.book l.grammar l.state) l.after
