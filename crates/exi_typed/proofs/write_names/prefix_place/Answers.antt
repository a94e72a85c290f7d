use Rattle.exi_tables.specs.Partitions.{prefixes}
use Rattle.exi_typed.proofs.Writes.{least_within}
use Rattle.exi_typed.proofs.write_names.prefix_place.Goals as goal

pub returns-clause-within : goal.returns-clause-within
returns-clause-within g c = least_within (prefixes (g.T.Tables.held c.args.tables.now) c.args.uri) c.args.text.now c.prefix_of.result c.prefix_of.ensures
