use Rattle.std.proofs.Common.{◌≡◌, ◌^◌}
use Rattle.exi_bits.specs.Bits.{IsAligned}
use Rattle.exi_names.specs.Datatypes.{represented}
use Rattle.exi_names.specs.Seen.{vals}
use Rattle.exi_tables.specs.Growth.{NoneLonger}
use Rattle.exi_tables.specs.Partitions.{IsName}
use Rattle.exi_typed.specs.ReadStates.{read_state}
use Rattle.exi_values.specs.Stops.{HasRoom}
use Rattle.exi_values.proofs.Rows.{InList}
use Rattle.exi_values.proofs.read.+read.Given as goal

abbrev pub invariant-read_list-loop : goal.invariant-read_list-loop
invariant-read_list-loop g l = record {
  row : InList (represented l.item) l.align l.name (read_state l.initial.input l.initial.meter (g.T.Tables.held l.initial.tables)) l.count l.counter (vals l.items) (read_state l.input l.meter (g.T.Tables.held l.tables));
  named : IsName (g.T.Tables.held l.tables) l.name;
  few : NoneLonger (2 ^ 31) (g.T.Tables.held l.tables);
  room : HasRoom (represented l.item) l.meter (g.T.Tables.held l.tables);
  aligned : IsAligned l.align l.input;
  bytes : l.input.bytes ≡ l.fn.input.bytes;
}
