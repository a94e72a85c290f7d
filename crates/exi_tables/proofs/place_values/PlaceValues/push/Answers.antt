use Rattle.std.proofs.Common.{◌<◌, ◌-◌, ◌^◌, length}
use Rattle.exi_tables.proofs.Completes.{owned_then}
use Rattle.exi_tables.proofs.Counts.{round_put}
use Rattle.exi_tables.proofs.place_values.PlaceValues.push.Goals as goal

pub invariant_of-self-2 : goal.invariant_of-self-2
invariant_of-self-2 c =
    let live = c.self.inside.live.items in
    let added = rw (← c.self.view_is) at c.requires.added in
    let room : length live < 2 ^ 32 - 1 = rw (← c.self.view_is) at c.requires.room in
    rw (c.put.ensures, c.in_ok-reserve.ensures.items, c.after-self-inside.ensures) (
      round_put c.self.inside.bounds live c.self.inside.next (record { name = c.args.name; local = c.in_ok-local.local; text = c.args.text }) c.args.text added c.self.invariant.0 room,
      owned_then live c.self.inside.own c.push.new.self c.forget_at.new.own c.args.name c.in_ok-local.local c.self.inside.next c.args.text c.self.invariant.1 c.in_ok-local.ensures.local
          c.self.invariant.0.next c.in_ok-local.ensures.given c.in_ok-local.ensures.there c.in_ok-local.ensures.others c.forget_at.ensures.given
          (rw (c.deref.ensures.value, c.in_ok-reserve.ensures.items) at c.forget_at.ensures.others),
    )
