use Rattle.exi_names.proofs.Texts.{cleared}
use Rattle.exi_names.proofs.body.Body.clear.Goals.{in-Short, in-Long}
use Rattle.exi_names.proofs.body.Body.clear.Goals as goal

pub invariant_of-self : goal.invariant_of-self
invariant_of-self c = elim c.match-self.branch [
  | in-Short w ↦ rw w.self-inside-is tt
  | in-Long w ↦ rw w.self-inside-is (cleared _ w.clear.ensures.bytes)
]
