use Rattle.std.proofs.Common.{◌≡◌, Some, None, sym, ◌∙◌}
use Rattle.std.specs.Prelude.{slice_get}
use Rattle.exi_tables.proofs.Looked.{another, not_live, not_owned, owned_text}
use Rattle.exi_tables.proofs.place_values.PlaceValuesValueStore.numbered_at.Goals as goal

pub returns-in_err-global : goal.returns-in_err-global
returns-in_err-global c =
    rw (c.from_residual.ensures, ← c.self.view_is) (not_owned c.self.inside.live.items c.self.inside.own c.self.invariant.1 c.args.name c.args.place c.in_err-global.ensures)

pub returns-in_err-value : goal.returns-in_err-value
returns-in_err-value c =
    let missing : slice_get c.self.inside.live.items c.in_ok-global.global ≡ None = rw c.deref.ensures.value at (sym c.in_err-value.ensures) in
    rw (c.from_residual-in_err-value.ensures, ← c.self.view_is)
    (not_live c.self.inside.live.items c.self.inside.own c.self.invariant.1 c.args.name c.args.place c.in_ok-global.global c.in_ok-global.ensures missing)

pub returns-then-not-stands_under : goal.returns-then-not-stands_under
returns-then-not-stands_under c =
    let there : Some c.in_ok-value.value.now ≡ slice_get c.self.inside.live.items c.in_ok-global.global = rw c.deref.ensures.value at c.in_ok-value.ensures in
    rw (← c.self.view_is)
    (another c.self.inside.live.items c.self.inside.own c.self.invariant.1 c.args.name c.args.place c.in_ok-global.global c.in_ok-global.ensures
    c.in_ok-value.value.now there (sym c.stands_under.ensures ∙ c.if-not-stands_under.true))

pub returns : goal.returns
returns c =
    let there : Some c.in_ok-value.value.now ≡ slice_get c.self.inside.live.items c.in_ok-global.global = rw c.deref.ensures.value at c.in_ok-value.ensures in
    rw (← c.self.view_is)
    (owned_text c.self.inside.live.items c.self.inside.own c.self.invariant.1 c.args.name c.args.place c.in_ok-global.global c.in_ok-global.ensures
    c.in_ok-value.value.now there (sym c.stands_under.ensures ∙ c.if-not-stands_under.false))
