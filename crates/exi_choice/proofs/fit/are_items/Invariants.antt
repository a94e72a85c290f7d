use Rattle.std.proofs.Common.{◌≡◌, drop, map}
use Rattle.exi_names.specs.Seen.{seen, values_of}
use Rattle.exi_writing.specs.Contents.{are_items}
use Rattle.exi_choice.proofs.fit.are_items.Given as goal

abbrev pub invariant-loop-value : goal.invariant-loop-value
invariant-loop-value l = are_items (values_of (map seen l.values)) ≡ are_items (values_of (map seen (drop l.value-index l.values)))
