use Rattle.std.proofs.Common.{◌<◌, arith}
use Rattle.exi_tables.proofs.SpotSets.{rises_below, rises_more, spots_below, spots_more}
use Rattle.exi_tables.proofs.spots.Spots.insert.Goals as goal

pub invariant_of-self-then-place-self-2 : goal.invariant_of-self-then-place-self-2
invariant_of-self-then-place-self-2 c =
    rises_below c.self.inside.least c.args.place c.self.inside.more.keys c.insert.new.self.keys c.in_ok-insert.ensures.updates.0 c.if-place-self-2.true c.self.invariant

pub returns-then-place-self-2-clause-ok : goal.returns-then-place-self-2-clause-ok
returns-then-place-self-2-clause-ok c =
    rw (← c.self.view_is) (spots_below c.self.inside.least c.args.place c.self.inside.more.keys c.insert.new.self.keys c.in_ok-insert.ensures.updates.0)

pub invariant_of-self-2 : goal.invariant_of-self-2
invariant_of-self-2 c =
    let above : c.self.inside.least < c.args.place = omega (arith, c.if-place-self.false, c.if-place-self-2.false) in
    rises_more c.self.inside.least c.args.place c.self.inside.more.keys c.insert-2.new.self.keys c.in_ok-insert-2.ensures.updates.0 above c.self.invariant

pub returns-clause-ok : goal.returns-clause-ok
returns-clause-ok c =
    rw (← c.self.view_is) (spots_more c.self.inside.least c.args.place c.self.inside.more.keys c.insert-2.new.self.keys c.in_ok-insert-2.ensures.updates.0)
