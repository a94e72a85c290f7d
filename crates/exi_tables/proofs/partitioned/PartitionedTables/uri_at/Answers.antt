use Rattle.std.proofs.Common.{◌≡◌, Some, sym, ap, ◌∙◌}
use Rattle.std.specs.Option.{option_copied}
use Rattle.exi_tables.proofs.Joined.{uri_none, uri_some}
use Rattle.exi_tables.proofs.partitioned.PartitionedTables.uri_at.Goals as goal

pub returns-in-Some : goal.returns-in-Some
returns-in-Some g c = rw (← c.self.view_is) (uri_some c.self.inside.first c.self.inside.uris c.self.inside.locals c.self.inside.prefixes c.self.invariant c.args.place c.in-Some.text.now (sym c.at.ensures ∙ ap option_copied c.in-Some.is))

pub returns-in-None : goal.returns-in-None
returns-in-None g c = rw (← c.self.view_is) (c.uri_at.ensures ∙ uri_none c.self.inside.first c.self.inside.uris c.self.inside.locals c.self.inside.prefixes c.self.invariant c.args.place (sym c.at.ensures ∙ ap option_copied c.in-None.is))
