use Rattle.exi_tables.proofs.Looked.{no_number}
use Rattle.exi_tables.proofs.place_values.PlaceValuesValueStore.own_at.Goals as goal

pub returns-in_err-number : goal.returns-in_err-number
returns-in_err-number c =
    rw (c.from_residual.ensures, ← c.self.view_is) (no_number c.self.inside.live.items c.self.inside.own c.self.invariant.1 c.args.name c.args.place c.in_err-number.ensures)
