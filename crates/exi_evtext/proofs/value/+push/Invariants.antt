use Rattle.std.proofs.Common.{◌≡◌, ◌++◌, drop, map}
use Rattle.std.specs.Prelude.{string_bytes}
use Rattle.exi_names.specs.Seen.{seen, values_of, vals}
use Rattle.exi_names.specs.Seen as shape
use Rattle.exi_evtext.specs.Lines.{each_value, value_words}
use Rattle.exi_evtext.specs.Kept.{Keeps}
use Rattle.exi_evtext.proofs.value.+push.Given as goal

abbrev pub invariant-push_list-loop-value : goal.invariant-push_list-loop-value
invariant-push_list-loop-value l = record {
  done : string_bytes l.out ++ each_value (values_of (map seen (drop l.value-index l.list.items.items))) ≡ string_bytes l.fn.out ++ value_words (shape.items (values_of (vals l.list)));
  kept : Keeps (string_bytes l.fn.out) (string_bytes l.out);
}
