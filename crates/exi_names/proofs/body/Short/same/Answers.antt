use Rattle.std.proofs.Common.{◌≤◌, length, arith}
use Rattle.exi_names.proofs.Together.{never_same}
use Rattle.exi_names.proofs.body.Short.same.Goals as goal

pub returns-else-self-other : goal.returns-else-self-other
returns-else-self-other c =
    let here : c.self.inside.len ≤ length c.self.inside.bytes = omega (arith, c.self.invariant.0, c.self.told) in
    let there : c.other.inside.len ≤ length c.other.inside.bytes = omega (arith, c.other.invariant.0, c.other.told) in
    rw (← c.self.view_is, ← c.other.view_is) (never_same c.self.inside.bytes c.other.inside.bytes c.self.inside.len c.other.inside.len here there c.if-self-other.false)
