use Rattle.std.proofs.Common.{◌≡◌, ◌<◌, ◌-◌, ◌^◌, length, map, refl, sym, ap, ◌∙◌, arith}
use Rattle.std.specs.Prelude.{slice_get, unwrap_or}
use Rattle.exi_tables.specs.Added.{IsPushedAt, first_locals, joined}
use Rattle.exi_tables.specs.Partitions.{Namespace, least_place, locals_in}
use Rattle.exi_tables.proofs.Joined.{local_long, local_more, local_pushed, on_err, same_joined, same_seen}
use Rattle.exi_tables.proofs.partitioned.PartitionedTables.add_local.Goals as goal

pub push-requires : goal.push-requires
push-requires g c =
    let room : length (locals_in (slice_get (joined c.self.inside.first c.self.inside.uris c.self.inside.locals c.self.inside.prefixes) c.args.uri)) < 2 ^ 32 - 1 = rw (← c.self.view_is) at c.requires.room in
    record { room = omega (arith, room, local_long c.self.inside.first c.self.inside.uris c.self.inside.locals c.self.inside.prefixes c.self.invariant c.args.uri (rw (← c.self.view_is) at c.requires.uri), c.locals-first.ensures) }

pub invariant_of-self-2 : goal.invariant_of-self-2
invariant_of-self-2 g c =
    let room : length (locals_in (slice_get (joined c.self.inside.first c.self.inside.uris c.self.inside.locals c.self.inside.prefixes) c.args.uri)) < 2 ^ 32 - 1 = rw (← c.self.view_is) at c.requires.room in
    let place_is : c.locals-place.result ≡ length (locals_in (slice_get (joined c.self.inside.first c.self.inside.uris c.self.inside.locals c.self.inside.prefixes) c.args.uri)) = rw (← c.self.view_is) at c.locals-place.ensures in
    let pushed : IsPushedAt c.args.uri (length (first_locals c.self.inside.first c.args.uri)) c.args.text c.unwrap_or-least.result c.self.inside.locals c.push.new.self = rw c.locals-first.ensures at c.in_ok-push.ensures.ok in
    local_pushed c.self.inside.first c.self.inside.uris c.self.inside.locals c.self.inside.prefixes c.self.invariant c.args.uri c.args.text c.unwrap_or-least.result c.push.new.self (rw (← c.self.view_is) at c.requires.uri) pushed (rw (c.local_of.ensures, place_is) at c.unwrap_or-least.ensures) room

pub invariant_of-self : goal.invariant_of-self
invariant_of-self g c = same_joined c.self.inside.first c.self.inside.uris c.self.inside.locals c.self.inside.prefixes c.self.invariant c.push.new.self c.self.inside.prefixes c.in_err-push.ensures.err (λ k. refl)

pub returns-clause-added : goal.returns-clause-added
returns-clause-added g c =
    let pushed : IsPushedAt c.args.uri (length (first_locals c.self.inside.first c.args.uri)) c.args.text c.unwrap_or-least.result c.self.inside.locals c.push.new.self = rw c.locals-first.ensures at c.in_ok-push.ensures.ok in
    rw (← c.self.view_is) (ap (λ ns. record { namespaces = ns; values = g.V.ValueStore.table c.self.inside.values }) (local_more c.self.inside.first c.self.inside.uris c.self.inside.locals c.self.inside.prefixes c.self.invariant c.args.uri c.args.text c.unwrap_or-least.result c.push.new.self (rw (← c.self.view_is) at c.requires.uri) pushed))

pub returns-in_err-push-clause-err : goal.returns-in_err-push-clause-err
returns-in_err-push-clause-err g c =
    rw (← c.self.view_is) (on_err c.from_residual.result (ap (λ ns. record { namespaces = ns; values = g.V.ValueStore.table c.self.inside.values }) (same_seen c.self.inside.first c.self.inside.uris c.self.inside.locals c.self.inside.prefixes c.self.invariant c.push.new.self c.self.inside.prefixes c.in_err-push.ensures.err (λ k. refl))))
