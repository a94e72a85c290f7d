use Rattle.std.proofs.Common.{None, length}
use denote.Text.{Utf8}
use denote.Shadow.{shadow}
use Rattle.std.specs.Str.{chars}
use Rattle.exi_bits.specs.Written.{IsWholeBytes}
use Rattle.exi_items.proofs.Pieces.{Goes}
use Rattle.exi_text.specs.Literals.{chars_bits}
use Rattle.exi_text.proofs.write.put_mixed.Given as goal

abbrev pub invariant-loop-others : goal.invariant-loop-others
invariant-loop-others l = record {
  utf8 : shadow (Utf8 l.left);
  aligned : IsWholeBytes l.fn.align l.out;
  so_far : Goes l.fn.out (chars_bits None l.fn.align (chars l.fn.text)) (chars_bits None l.fn.align (chars l.left)) l.out;
}

abbrev pub decreases-loop-others : goal.decreases-loop-others
decreases-loop-others l = length l.left
