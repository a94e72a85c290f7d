use Rattle.exi_tables.proofs.SpotSets.{rises_all, rises_less, spots_less}
use Rattle.exi_tables.proofs.spots.Spots.remove.Goals as goal

pub invariant_of-self : goal.invariant_of-self
invariant_of-self c = rises_less c.self.inside.least c.args.place c.self.inside.more.keys c.remove.new.self.keys c.remove.ensures.updates.0 c.self.invariant

pub returns-then-place-self-clause-kept : goal.returns-then-place-self-clause-kept
returns-then-place-self-clause-kept c left other apart =
    rw (← c.self.view_is) (spots_less c.self.inside.least c.args.place c.self.inside.more.keys c.remove.new.self.keys c.remove.ensures.updates.0 other apart)

pub invariant_of-self-in-Some : goal.invariant_of-self-in-Some
invariant_of-self-in-Some c = rises_all c.in-Some.next c.pop_first.new.self.keys c.in-Some.ensures.all_above
