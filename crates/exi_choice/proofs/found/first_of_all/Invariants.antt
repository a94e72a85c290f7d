use Rattle.std.proofs.Common.{map}
use Rattle.exi_gram.specs.Tables.{coded_of}
use Rattle.exi_choice.specs.Choices.{wanting}
use Rattle.exi_choice.proofs.Searching.{SoFar}
use Rattle.exi_choice.proofs.found.first_of_all.Given as goal

abbrev pub invariant-loop-place : goal.invariant-loop-place
invariant-loop-place l = SoFar l.book.schema (wanting l.wanted) (map coded_of l.coded) l.place l.fewest l.first
