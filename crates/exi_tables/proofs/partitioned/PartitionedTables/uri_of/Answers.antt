use Rattle.std.proofs.Common.{◌≡◌, Some, sym, ap, ◌∙◌}
use Rattle.exi_tables.proofs.Joined.{uri_of_none, uri_of_some}
use Rattle.exi_tables.proofs.partitioned.PartitionedTables.uri_of.Goals as goal

pub returns-in-Some : goal.returns-in-Some
returns-in-Some g c = rw (← c.self.view_is) (uri_of_some c.self.inside.first c.self.inside.uris c.self.inside.locals c.self.inside.prefixes c.self.invariant c.args.text.now c.in-Some.place (sym c.of.ensures ∙ c.in-Some.is))

pub returns-in-None : goal.returns-in-None
returns-in-None g c = rw (← c.self.view_is) (c.uri_of.ensures ∙ uri_of_none c.self.inside.first c.self.inside.uris c.self.inside.locals c.self.inside.prefixes c.self.invariant c.args.text.now (sym c.of.ensures ∙ c.in-None.is))
