use Rattle.std.proofs.Common.{IsUtf8, chars, option_copied}
use Rattle.std.specs.Str.Iter.{chars_rest}
use Rattle.exi_bits.specs.Written.{IsWholeBytes}
use Rattle.exi_text.specs.Literals.{chars_bits}
use Rattle.exi_items.proofs.Pieces.{Goes}
use Rattle.exi_text.proofs.write.put_chars.Given as goal

abbrev pub invariant-loop-c : goal.invariant-loop-c
invariant-loop-c l = record {
  utf8 : IsUtf8 (chars_rest l.c-iterator);
  aligned : IsWholeBytes l.align l.out;
  so_far : Goes l.fn.out (chars_bits (option_copied l.set) l.align (chars l.fn.text)) (chars_bits (option_copied l.set) l.align (chars (chars_rest l.c-iterator))) l.out;
}
