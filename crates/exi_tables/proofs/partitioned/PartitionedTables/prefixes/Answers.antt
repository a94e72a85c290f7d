use Rattle.std.proofs.Common.{◌≡◌, Some, sym, ap, ◌∙◌}
use Rattle.exi_tables.proofs.Joined.{prefix_count_none, prefix_count_some}
use Rattle.exi_tables.proofs.partitioned.PartitionedTables.prefixes.Goals as goal

pub returns-in-Some : goal.returns-in-Some
returns-in-Some g c = rw (← c.self.view_is) (prefix_count_some c.self.inside.first c.self.inside.uris c.self.inside.locals c.self.inside.prefixes c.self.invariant c.args.uri c.in-Some.count (rw (← c.self.view_is) at c.requires.uri) (sym c.count.ensures ∙ c.in-Some.is))

pub returns-in-None : goal.returns-in-None
returns-in-None g c = rw (← c.self.view_is) (c.prefixes.ensures ∙ prefix_count_none c.self.inside.first c.self.inside.uris c.self.inside.locals c.self.inside.prefixes c.self.invariant c.args.uri (rw (← c.self.view_is) at c.requires.uri) (sym c.count.ensures ∙ c.in-None.is))
