use Rattle.exi_names.proofs.txt.Txt.reserve.Goals as goal

pub invariant_of-self : goal.invariant_of-self
invariant_of-self c = rw c.reserve.ensures c.self.invariant
