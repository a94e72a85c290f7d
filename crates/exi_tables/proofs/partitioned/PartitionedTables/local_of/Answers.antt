use Rattle.std.proofs.Common.{◌≡◌, Some, sym, ap, ◌∙◌}
use Rattle.exi_tables.proofs.Joined.{local_of_none, local_of_some}
use Rattle.exi_tables.proofs.partitioned.PartitionedTables.local_of.Goals as goal

pub returns-in-Some : goal.returns-in-Some
returns-in-Some g c = rw (← c.self.view_is) (local_of_some c.self.inside.first c.self.inside.uris c.self.inside.locals c.self.inside.prefixes c.self.invariant c.args.uri c.args.text.now c.in-Some.place (rw (← c.self.view_is) at c.requires.uri) (sym c.of.ensures ∙ c.in-Some.is))

pub returns-in-None : goal.returns-in-None
returns-in-None g c = rw (← c.self.view_is) (c.local_of.ensures ∙ local_of_none c.self.inside.first c.self.inside.uris c.self.inside.locals c.self.inside.prefixes c.self.invariant c.args.uri c.args.text.now (rw (← c.self.view_is) at c.requires.uri) (sym c.of.ensures ∙ c.in-None.is))
