use Rattle.std.proofs.Common.{sym}
use Rattle.exi_names.specs.Datatypes.{represented}
use Rattle.exi_names.specs.Seen.{seen}
use Rattle.exi_pieces.proofs.ValueCharges.{room_left, spelled_xml}
use Rattle.exi_pieces.proofs.values.put_value.Goals as goal

pub write_value-requires-clause-xml : goal.write_value-requires-clause-xml
write_value-requires-clause-xml g c = spelled_xml (seen c.args.value.now) c.requires.spelled

pub write_value-requires-clause-few : goal.write_value-requires-clause-few
write_value-requires-clause-few g c = room_left (represented c.args.datatype.now) (seen c.args.value.now) (g.T.Tables.held c.args.tables.now) c.args.toll.now c.pay_value.new.toll c.pay_value.ensures (sym c.if-not-is_within.ensures.value) c.if-not-is_within.ensures.kept c.requires.room
