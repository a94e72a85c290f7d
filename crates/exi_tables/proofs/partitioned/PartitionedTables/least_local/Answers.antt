use Rattle.std.proofs.Common.{◌≡◌, Some, sym, ap, ◌∙◌}
use Rattle.std.specs.Prelude.{option_and_then}
use Rattle.exi_tables.specs.Partitions.{least_place, live_at, locals}
use Rattle.exi_tables.proofs.Joined.{least_is_some, least_local_none, least_local_some}
use Rattle.exi_tables.proofs.partitioned.PartitionedTables.least_local.Goals as goal

pub unwrap-requires : goal.unwrap-requires
unwrap-requires g c =
    let all : c.least_local.result ≡ option_and_then (least_place (locals c.args.self.now c.args.uri)) (live_at (locals c.args.self.now c.args.uri) c.args.place)
    = rw (← c.self.view_is) (c.least_local.ensures ∙ least_local_none c.self.inside.first c.self.inside.uris c.self.inside.locals c.self.inside.prefixes c.self.invariant c.args.uri c.args.place (rw (← c.self.view_is) at c.requires.uri) (sym c.least.ensures ∙ c.in-None.is)) in
    rw all (least_is_some (locals c.args.self.now c.args.uri) c.args.place c.requires.place)

pub returns-in-Some : goal.returns-in-Some
returns-in-Some g c = rw (← c.self.view_is) (least_local_some c.self.inside.first c.self.inside.uris c.self.inside.locals c.self.inside.prefixes c.self.invariant c.args.uri c.args.place c.in-Some.least (rw (← c.self.view_is) at c.requires.uri) (sym c.least.ensures ∙ c.in-Some.is))

pub returns-in-None : goal.returns-in-None
returns-in-None g c =
    rw (← c.self.view_is) (sym c.unwrap.ensures ∙ c.least_local.ensures ∙ least_local_none c.self.inside.first c.self.inside.uris c.self.inside.locals c.self.inside.prefixes c.self.invariant c.args.uri c.args.place (rw (← c.self.view_is) at c.requires.uri) (sym c.least.ensures ∙ c.in-None.is))
