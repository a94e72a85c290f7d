use Rattle.exi_processing.proofs.Turning.{reader_name}
use Rattle.exi_reader.proofs.reader.Reader.enter.Goals as goal

pub enter-requires : goal.enter-requires
enter-requires g c = record { name = reader_name c.self.inside.stepper c.self.inside.waits c.args.self.now c.self.view_is c.requires.at_fragment c.requires.reached }
