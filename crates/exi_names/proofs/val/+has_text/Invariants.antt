use Rattle.std.proofs.Common.{◌≡◌, drop, map}
use Rattle.exi_names.specs.Seen.{seen, values_of, vals}
use Rattle.exi_names.specs.Texts.{all_have_text}
use Rattle.exi_names.proofs.val.+has_text.Given as goal

abbrev pub invariant-ValList::have_text-loop-value : goal.invariant-ValList::have_text-loop-value
invariant-ValList::have_text-loop-value l = all_have_text (values_of (map seen (drop l.value-index l.self.items.items))) ≡ all_have_text (values_of (vals l.self))
