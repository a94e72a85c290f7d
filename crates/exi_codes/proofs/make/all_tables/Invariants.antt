use Rattle.std.proofs.Common.{◌≡◌, take}
use Rattle.exi_gram.specs.Books.{tables_of}
use Rattle.exi_codes.proofs.make.all_tables.Given as goal

abbrev pub invariant-loop-grammar : goal.invariant-loop-grammar
invariant-loop-grammar l = l.tables ≡ tables_of (take l.grammar-index l.states)
