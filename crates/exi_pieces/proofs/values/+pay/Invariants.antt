use Rattle.exi_names.specs.Datatypes.{represented}
use Rattle.exi_names.specs.Seen.{vals}
use Rattle.exi_pieces.proofs.ValueCharges.{InCharges}
use Rattle.exi_pieces.proofs.values.+pay.Given as goal

abbrev pub invariant-pay_items-loop-value : goal.invariant-pay_items-loop-value
invariant-pay_items-loop-value l = InCharges (represented l.item) (vals l.values) l.fn.toll l.value-index l.toll
