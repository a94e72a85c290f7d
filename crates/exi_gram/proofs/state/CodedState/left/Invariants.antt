use Rattle.std.proofs.Common.{◌≡◌}
use Rattle.exi_gram.specs.Books.{is_kept}
use Rattle.exi_gram.proofs.Leaving.{LeftTo}
use Rattle.exi_gram.proofs.state.CodedState.left.Given as goal

abbrev pub invariant-loop-part : goal.invariant-loop-part
invariant-loop-part l = l.left ≡ LeftTo (is_kept l.options) l.self-inside.coded.items l.self-inside.firsts l.self-inside.seconds.items l.part-index
