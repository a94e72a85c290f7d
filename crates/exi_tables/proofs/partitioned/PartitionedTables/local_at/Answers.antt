use Rattle.std.proofs.Common.{◌≡◌, Some, sym, ap, ◌∙◌}
use Rattle.std.specs.Option.{option_copied}
use Rattle.exi_tables.proofs.Joined.{local_none, local_some}
use Rattle.exi_tables.proofs.partitioned.PartitionedTables.local_at.Goals as goal

pub returns-in-Some : goal.returns-in-Some
returns-in-Some g c = rw (← c.self.view_is) (local_some c.self.inside.first c.self.inside.uris c.self.inside.locals c.self.inside.prefixes c.self.invariant c.args.uri c.args.place c.in-Some.text.now (rw (← c.self.view_is) at c.requires.uri) (sym c.at.ensures ∙ ap option_copied c.in-Some.is))

pub returns-in-None : goal.returns-in-None
returns-in-None g c = rw (← c.self.view_is) (c.local_at.ensures ∙ local_none c.self.inside.first c.self.inside.uris c.self.inside.locals c.self.inside.prefixes c.self.invariant c.args.uri c.args.place (rw (← c.self.view_is) at c.requires.uri) (sym c.at.ensures ∙ ap option_copied c.in-None.is))
