use Rattle.exi_names.specs.Datatypes.{represented}
use Rattle.exi_values.proofs.Rows.{room_for}
use Rattle.exi_processing.proofs.TypeValues.{value_keeps}
use Rattle.exi_reader.proofs.texts.typed_value.Goals as goal

pub read_value-requires-clause-room : goal.read_value-requires-clause-room
read_value-requires-clause-room g c = room_for (represented c.args.datatype.now) c.args.meter.now (g.T.Tables.held c.args.tables.now) c.requires.roomy

pub returns-clause-keeps : goal.returns-clause-keeps
returns-clause-keeps g c = value_keeps _ _ _ _ _ _ c.read_value.result c.read_value.ensures.read
