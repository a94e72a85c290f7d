use Rattle.std.proofs.Common.{◌≡◌, ◌<◌, ◌-◌, ◌^◌, length, map, sym, ap, ◌∙◌, arith}
use Rattle.std.specs.Prelude.{unwrap_or}
use Rattle.exi_tables.specs.Added.{IsPushed, joined}
use Rattle.exi_tables.specs.Partitions.{Namespace, least_place}
use Rattle.exi_tables.proofs.Joined.{uri_count, uri_more, uri_pushed}
use Rattle.exi_tables.proofs.partitioned.PartitionedTables.add_uri.Goals as goal

pub push-requires : goal.push-requires
push-requires g c =
    let room : length (map (λ (n : Namespace). n.uri) (joined c.self.inside.first c.self.inside.uris c.self.inside.locals c.self.inside.prefixes)) < 2 ^ 32 - 1 = rw (← c.self.view_is) at c.requires.room in
    record { room = omega (arith, room, uri_count c.self.inside.first c.self.inside.uris c.self.inside.locals c.self.inside.prefixes c.self.invariant, c.self.invariant.uris_start, c.uris.ensures.uris) }

pub invariant_of-self-2 : goal.invariant_of-self-2
invariant_of-self-2 g c =
    let room : length (map (λ (n : Namespace). n.uri) (joined c.self.inside.first c.self.inside.uris c.self.inside.locals c.self.inside.prefixes)) < 2 ^ 32 - 1 = rw (← c.self.view_is) at c.requires.room in
    let place_is : c.uris-place.result ≡ length (map (λ (n : Namespace). n.uri) (joined c.self.inside.first c.self.inside.uris c.self.inside.locals c.self.inside.prefixes)) = rw (← c.self.view_is) at c.uris-place.ensures in
    let pushed : IsPushed (length c.self.inside.first.uris) c.args.text c.unwrap_or-least.result c.self.inside.uris c.push.new.self = rw c.uris.ensures.uris at c.in_ok-push.ensures.ok in
    uri_pushed c.self.inside.first c.self.inside.uris c.self.inside.locals c.self.inside.prefixes c.self.invariant c.args.text c.unwrap_or-least.result c.push.new.self pushed (rw (c.uri_of.ensures, place_is) at c.unwrap_or-least.ensures) room

pub returns-clause-added : goal.returns-clause-added
returns-clause-added g c =
    let pushed : IsPushed (length c.self.inside.first.uris) c.args.text c.unwrap_or-least.result c.self.inside.uris c.push.new.self = rw c.uris.ensures.uris at c.in_ok-push.ensures.ok in
    rw (← c.self.view_is) (ap (λ ns. record { namespaces = ns; values = g.V.ValueStore.table c.self.inside.values }) (uri_more c.self.inside.first c.self.inside.uris c.self.inside.locals c.self.inside.prefixes c.self.invariant c.args.text c.unwrap_or-least.result c.push.new.self pushed))
