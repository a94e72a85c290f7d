use Rattle.std.proofs.Common.{◌≡◌, Some, sym, ap, ◌∙◌}
use Rattle.std.specs.Option.{option_copied}
use Rattle.exi_tables.proofs.Joined.{prefix_none, prefix_some}
use Rattle.exi_tables.proofs.partitioned.PartitionedTables.prefix_at.Goals as goal

pub returns-in-Some : goal.returns-in-Some
returns-in-Some g c = rw (← c.self.view_is) (prefix_some c.self.inside.first c.self.inside.uris c.self.inside.locals c.self.inside.prefixes c.self.invariant c.args.uri c.args.place c.in-Some.text.now (rw (← c.self.view_is) at c.requires.uri) (sym c.at.ensures ∙ ap option_copied c.in-Some.is))

pub returns-in-None : goal.returns-in-None
returns-in-None g c = rw (← c.self.view_is) (c.prefix_at.ensures ∙ prefix_none c.self.inside.first c.self.inside.uris c.self.inside.locals c.self.inside.prefixes c.self.invariant c.args.uri c.args.place (rw (← c.self.view_is) at c.requires.uri) (sym c.at.ensures ∙ ap option_copied c.in-None.is))
