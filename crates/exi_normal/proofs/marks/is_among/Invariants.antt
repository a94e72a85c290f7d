use Rattle.std.proofs.Common.{◌≡◌, drop}
use Rattle.exi_gram.specs.Reaching.{is_among}
use Rattle.exi_normal.proofs.marks.is_among.Given as goal

abbrev pub invariant-loop-other : goal.invariant-loop-other
invariant-loop-other l = is_among l.state (drop l.other-index l.states) ≡ is_among l.state l.states
