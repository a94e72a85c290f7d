use Rattle.std.proofs.Common.{sym, ap, ◌∙◌}
use Rattle.exi_gram.specs.Terminals.{Rule}
use Rattle.exi_gram.proofs.Leaving.{firsts_here, firsts_room, kept_past}
use Rattle.exi_gram.proofs.state.CodedState.push_firsts.Goals as goal
use Rattle.exi_gram.proofs.state.CodedState.push_firsts.Goals.{then-keeps+in_ok-copy+in_ok-push_first, else-keeps}

pub push_first-requires-clause-room : goal.push_first-requires-clause-room
push_first-requires-clause-room c = firsts_room _ _ _ _ _ _ c.loop-coded-test.true c.loop-coded.invariant c.requires.room

pub loop-coded-preserved : goal.loop-coded-preserved
loop-coded-preserved c = elim c.if-keeps.branch [
  | then-keeps+in_ok-copy+in_ok-push_first w ↦ rw w.self-is
      (firsts_here _ _ _ c.coded-item.result _ _ _ _ c.loop-coded-test.true c.coded-item.is (sym c.keeps.ensures ∙ w.if-keeps.true) c.loop-coded.invariant
      (ap (λ (r : Rule). record { rule = r; named = c.coded-item.result.named }) w.in_ok-copy.ensures) w.in_ok-push_first.ensures.ok)
  | else-keeps w ↦ rw (w.self-is, kept_past _ _ _ c.coded-item.result c.loop-coded-test.true c.coded-item.is (sym c.keeps.ensures ∙ w.if-keeps.false)) c.loop-coded.invariant
]
