use Rattle.std.proofs.Common.{◌≡◌, IsUtf8, chars}
use Rattle.std.specs.Str.Iter.{chars_rest}
use Rattle.exi_text.specs.Literals.{all_xml}
use Rattle.exi_text.proofs.set.is_all_xml.Given as goal

abbrev pub invariant-loop-c : goal.invariant-loop-c
invariant-loop-c l = record {
  utf8 : IsUtf8 (chars_rest l.c-iterator);
  so_far : all_xml (chars (chars_rest l.c-iterator)) ≡ all_xml (chars l.fn.text);
}
