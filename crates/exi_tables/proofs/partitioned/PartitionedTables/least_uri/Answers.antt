use Rattle.std.proofs.Common.{◌≡◌, Some, sym, ap, ◌∙◌}
use Rattle.std.specs.Prelude.{option_and_then}
use Rattle.exi_tables.specs.Partitions.{least_place, live_at, uris}
use Rattle.exi_tables.proofs.Joined.{least_is_some, least_uri_none, least_uri_some}
use Rattle.exi_tables.proofs.partitioned.PartitionedTables.least_uri.Goals as goal

pub unwrap-requires : goal.unwrap-requires
unwrap-requires g c =
    let all : c.least_uri.result ≡ option_and_then (least_place (uris c.args.self.now)) (live_at (uris c.args.self.now) c.args.place)
    = rw (← c.self.view_is) (c.least_uri.ensures ∙ least_uri_none c.self.inside.first c.self.inside.uris c.self.inside.locals c.self.inside.prefixes c.self.invariant c.args.place (sym c.least.ensures ∙ c.in-None.is)) in
    rw all (least_is_some (uris c.args.self.now) c.args.place c.requires.place)

pub returns-in-Some : goal.returns-in-Some
returns-in-Some g c = rw (← c.self.view_is) (least_uri_some c.self.inside.first c.self.inside.uris c.self.inside.locals c.self.inside.prefixes c.self.invariant c.args.place c.in-Some.least (sym c.least.ensures ∙ c.in-Some.is))

pub returns-in-None : goal.returns-in-None
returns-in-None g c =
    rw (← c.self.view_is) (sym c.unwrap.ensures ∙ c.least_uri.ensures ∙ least_uri_none c.self.inside.first c.self.inside.uris c.self.inside.locals c.self.inside.prefixes c.self.invariant c.args.place (sym c.least.ensures ∙ c.in-None.is))
