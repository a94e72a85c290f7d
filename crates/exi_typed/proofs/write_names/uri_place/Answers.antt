use Rattle.exi_tables.specs.Partitions.{uris}
use Rattle.exi_typed.proofs.Writes.{least_within}
use Rattle.exi_typed.proofs.write_names.uri_place.Goals as goal

pub returns-clause-within : goal.returns-clause-within
returns-clause-within g c = least_within (uris (g.T.Tables.held c.args.tables.now)) c.args.text.now c.uri_of.result c.uri_of.ensures
