use Rattle.std.proofs.Common.{◌≡◌, ◌<◌, ◌-◌, ◌^◌, length, map, refl, sym, ap, ◌∙◌, arith}
use Rattle.std.specs.Prelude.{slice_get, unwrap_or}
use Rattle.exi_tables.specs.Added.{IsPushedAt, joined}
use Rattle.exi_tables.specs.Partitions.{Namespace, first_prefixes, least_place, prefixes_in}
use Rattle.exi_tables.proofs.Joined.{prefix_long, prefix_more, prefix_pushed, on_err, same_joined, same_seen}
use Rattle.exi_tables.proofs.partitioned.PartitionedTables.add_prefix.Goals as goal

pub push-requires : goal.push-requires
push-requires g c =
    let room : length (prefixes_in (slice_get (joined c.self.inside.first c.self.inside.uris c.self.inside.locals c.self.inside.prefixes) c.args.uri)) < 2 ^ 32 - 1 = rw (← c.self.view_is) at c.requires.room in
    record { room = omega (arith, room, prefix_long c.self.inside.first c.self.inside.uris c.self.inside.locals c.self.inside.prefixes c.self.invariant c.args.uri (rw (← c.self.view_is) at c.requires.uri), c.prefixes-first.ensures) }

pub invariant_of-self-2 : goal.invariant_of-self-2
invariant_of-self-2 g c =
    let room : length (prefixes_in (slice_get (joined c.self.inside.first c.self.inside.uris c.self.inside.locals c.self.inside.prefixes) c.args.uri)) < 2 ^ 32 - 1 = rw (← c.self.view_is) at c.requires.room in
    let place_is : c.prefixes-place.result ≡ length (prefixes_in (slice_get (joined c.self.inside.first c.self.inside.uris c.self.inside.locals c.self.inside.prefixes) c.args.uri)) = rw (← c.self.view_is) at c.prefixes-place.ensures in
    let pushed : IsPushedAt c.args.uri (length (first_prefixes c.args.uri)) c.args.text c.unwrap_or-least.result c.self.inside.prefixes c.push.new.self = rw c.prefixes-first.ensures at c.in_ok-push.ensures.ok in
    prefix_pushed c.self.inside.first c.self.inside.uris c.self.inside.locals c.self.inside.prefixes c.self.invariant c.args.uri c.args.text c.unwrap_or-least.result c.push.new.self (rw (← c.self.view_is) at c.requires.uri) pushed (rw (c.prefix_of.ensures, place_is) at c.unwrap_or-least.ensures) room

pub invariant_of-self : goal.invariant_of-self
invariant_of-self g c = same_joined c.self.inside.first c.self.inside.uris c.self.inside.locals c.self.inside.prefixes c.self.invariant c.self.inside.locals c.push.new.self (λ k. refl) c.in_err-push.ensures.err

pub returns-clause-added : goal.returns-clause-added
returns-clause-added g c =
    let pushed : IsPushedAt c.args.uri (length (first_prefixes c.args.uri)) c.args.text c.unwrap_or-least.result c.self.inside.prefixes c.push.new.self = rw c.prefixes-first.ensures at c.in_ok-push.ensures.ok in
    rw (← c.self.view_is) (ap (λ ns. record { namespaces = ns; values = g.V.ValueStore.table c.self.inside.values }) (prefix_more c.self.inside.first c.self.inside.uris c.self.inside.locals c.self.inside.prefixes c.self.invariant c.args.uri c.args.text c.unwrap_or-least.result c.push.new.self (rw (← c.self.view_is) at c.requires.uri) pushed))

pub returns-in_err-push-clause-err : goal.returns-in_err-push-clause-err
returns-in_err-push-clause-err g c =
    rw (← c.self.view_is) (on_err c.from_residual.result (ap (λ ns. record { namespaces = ns; values = g.V.ValueStore.table c.self.inside.values }) (same_seen c.self.inside.first c.self.inside.uris c.self.inside.locals c.self.inside.prefixes c.self.invariant c.self.inside.locals c.push.new.self (λ k. refl) c.in_err-push.ensures.err)))
