use Rattle.exi_processing.proofs.Names.{name_value_keeps}
use Rattle.exi_reader.proofs.names.read_type.Goals as goal

pub returns-clause-keeps : goal.returns-clause-keeps
returns-clause-keeps g c = name_value_keeps _ _ _ _ _ c.in_ok-name.ensures.read
