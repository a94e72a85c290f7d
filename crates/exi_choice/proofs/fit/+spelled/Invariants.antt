use Rattle.std.proofs.Common.{◌≡◌, drop, map}
use Rattle.exi_names.specs.Seen.{seen, values_of}
use Rattle.exi_writing.specs.Pieces.{can_all_be_valued}
use Rattle.exi_choice.proofs.fit.+spelled.Given as goal

abbrev pub invariant-can_all_be_valued-loop-value : goal.invariant-can_all_be_valued-loop-value
invariant-can_all_be_valued-loop-value l = can_all_be_valued (values_of (map seen l.values)) ≡ can_all_be_valued (values_of (map seen (drop l.value-index l.values)))
