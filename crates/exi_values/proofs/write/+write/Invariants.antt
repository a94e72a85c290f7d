use Rattle.exi_names.specs.Datatypes.{represented}
use Rattle.exi_names.specs.Seen.{vals}
use Rattle.exi_bits.specs.Written.{IsWholeBytes}
use Rattle.exi_values.proofs.WriteRows.{InRow}
use Rattle.exi_values.proofs.write.+write.Given as goal

abbrev pub invariant-write_items-loop-value : goal.invariant-write_items-loop-value
invariant-write_items-loop-value g l = record {
  row : InRow (represented l.item) l.align l.name (vals l.values) (g.T.Tables.held l.fn.tables) l.fn.out l.value-index (g.T.Tables.held l.tables) l.out;
  aligned : IsWholeBytes l.align l.out;
}
