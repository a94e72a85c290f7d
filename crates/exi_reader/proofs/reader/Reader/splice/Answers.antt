use Rattle.exi_reader.proofs.Joining.{reader_can, reader_reached}
use Rattle.exi_reader.proofs.reader.Reader.splice.Goals as goal

pub splice-requires : goal.splice-requires
splice-requires g c = record { can = reader_can c.self.inside.stepper c.self.inside.waits c.args.self.now c.args.end.now c.self.view_is c.requires.at_fragment c.requires.reached c.requires.outcome c.requires.fitting c.stands.ensures.place c.stands.ensures.meter }

pub returns-clause-reached : goal.returns-clause-reached
returns-clause-reached g c = reader_reached c.self.inside.stepper c.self.inside.waits c.args.self.now c.args.end.now c.self.view_is c.requires.at_fragment c.requires.reached c.requires.outcome c.requires.fitting c.splice.result c.splice.new.self c.splice.ensures.joined c.splice.ensures.setting c.splice.ensures.bytes
