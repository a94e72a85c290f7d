use Rattle.std.proofs.Common.{◌≡◌, ◌++◌, length}
use Rattle.std.specs.Vec.Iter.{into_iter_items, into_iter_len}
use Rattle.exi_compile.proofs.whole.all_grammars.Given as goal

abbrev pub invariant-loop-grammar : goal.invariant-loop-grammar
invariant-loop-grammar l = (l.grammars ++ into_iter_items l.grammar-iterator ≡ l.initial.grammars ++ into_iter_items l.initial.grammar-iterator)
    × (into_iter_len l.grammar-iterator ≡ length (into_iter_items l.grammar-iterator))
