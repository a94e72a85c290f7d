use Rattle.std.proofs.Common.{◌≡◌, Some, sym, ap, ◌∙◌}
use Rattle.exi_tables.proofs.Joined.{uri_count}
use Rattle.exi_tables.proofs.partitioned.PartitionedTables.uris.Goals as goal

pub returns : goal.returns
returns g c = rw (← c.self.view_is) (c.count.ensures ∙ uri_count c.self.inside.first c.self.inside.uris c.self.inside.locals c.self.inside.prefixes c.self.invariant)
