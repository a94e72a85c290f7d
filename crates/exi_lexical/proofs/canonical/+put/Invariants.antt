use Rattle.std.proofs.Common.{◌≡◌, ◌++◌, true, drop, map}
use Rattle.std.specs.Prelude.{string_bytes, encode_utf8_all}
use Rattle.std.specs.List.{join_with_byte}
use Rattle.exi_names.specs.Seen.{seen, values_of, vals}
use Rattle.exi_names.specs.Texts.{all_have_text}
use Rattle.exi_lexical.specs.Values.{texts}
use Rattle.exi_lexical.proofs.Joined.{left}
use Rattle.exi_lexical.proofs.canonical.+put.Given as goal

abbrev pub invariant-put_list-loop-index : goal.invariant-put_list-loop-index
invariant-put_list-loop-index l = record {
  named : all_have_text (values_of (map seen (drop l.index l.list.items.items))) ≡ true;
  done : string_bytes l.out ++ encode_utf8_all (left l.index (texts (values_of (map seen (drop l.index l.list.items.items))))) ≡ string_bytes l.initial.out ++ encode_utf8_all (join_with_byte 32 (texts (values_of (vals l.list))));
}
