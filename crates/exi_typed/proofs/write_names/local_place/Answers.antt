use Rattle.exi_tables.specs.Partitions.{locals}
use Rattle.exi_typed.proofs.Writes.{least_within}
use Rattle.exi_typed.proofs.write_names.local_place.Goals as goal

pub returns-clause-within : goal.returns-clause-within
returns-clause-within g c = least_within (locals (g.T.Tables.held c.args.tables.now) c.args.uri) c.args.text.now c.local_of.result c.local_of.ensures
