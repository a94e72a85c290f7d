use Rattle.std.proofs.Common.{◌≡◌, IsUtf8, chars}
use Rattle.std.specs.Str.Iter.{chars_rest}
use Rattle.exi_words.specs.Values.{are_few_xml, is_schema_name}
use Rattle.exi_words.proofs.values.is_schema_name.Given as goal

abbrev pub invariant-loop-c : goal.invariant-loop-c
invariant-loop-c l = record {
  utf8 : IsUtf8 (chars_rest l.c-iterator);
  so_far : are_few_xml l.left (chars (chars_rest l.c-iterator)) ≡ is_schema_name l.fn.text;
}
