use Rattle.std.proofs.Common.{refl, sym, ap, ◌∙◌}
use Rattle.exi_gram.specs.Books.{is_kept}
use Rattle.exi_gram.specs.Tables.{most_productions}
use Rattle.exi_gram.specs.Terminals.{Rule}
use Rattle.exi_gram.proofs.Leaving.{group_ends_here, group_goes_on_here, group_room, group_starts_here, group_stays}
use Rattle.exi_gram.proofs.state.CodedState.push_members.Goals as goal
use Rattle.exi_gram.proofs.state.CodedState.push_members.Goals.{then-keeps+in_ok-production+then-any+in_ok-push_member, then-keeps+in_ok-production+else-any+in_ok-push_group, else-keeps}

pub push_member-requires-clause-group : goal.push_member-requires-clause-group
push_member-requires-clause-group c = group_ends_here (is_kept c.args.options.now) c.args.from.now c.loop-coded.coded-index c.args.self.now c.loop-coded.self c.loop-coded.any c.loop-coded.invariant c.if-any.true

pub push_member-requires-clause-room : goal.push_member-requires-clause-room
push_member-requires-clause-room c = group_room (is_kept c.args.options.now) c.args.from.now c.loop-coded.coded-index c.args.self.now c.loop-coded.self c.loop-coded.any most_productions c.loop-coded-test.true c.loop-coded.invariant c.requires.room

pub loop-coded-preserved : goal.loop-coded-preserved
loop-coded-preserved c = elim c.if-keeps.branch [
  | then-keeps+in_ok-production+then-any+in_ok-push_member w ↦ rw (w.self-is, w.any-is)
      (group_goes_on_here (is_kept c.args.options.now) c.args.from.now c.loop-coded.coded-index c.coded-item.result c.args.self.now c.loop-coded.self _ c.loop-coded.any _ _ c.loop-coded-test.true c.coded-item.is (sym c.keeps.ensures ∙ w.if-keeps.true) c.loop-coded.invariant w.if-any.true
      (ap (λ (r : Rule). record { rule = r; named = c.coded-item.result.named }) w.in_ok-production.ensures) w.in_ok-push_member.ensures.ok refl)
  | then-keeps+in_ok-production+else-any+in_ok-push_group w ↦ rw (w.self-is, w.any-is)
      (group_starts_here (is_kept c.args.options.now) c.args.from.now c.loop-coded.coded-index c.coded-item.result c.args.self.now c.loop-coded.self _ c.loop-coded.any _ _ c.loop-coded-test.true c.coded-item.is (sym c.keeps.ensures ∙ w.if-keeps.true) c.loop-coded.invariant w.if-any.false
      (ap (λ (r : Rule). record { rule = r; named = c.coded-item.result.named }) w.in_ok-production.ensures) w.in_ok-push_group.ensures.ok refl)
  | else-keeps w ↦ rw (w.self-is, w.any-is) (group_stays (is_kept c.args.options.now) c.args.from.now c.loop-coded.coded-index c.coded-item.result c.args.self.now c.loop-coded.self c.loop-coded.any c.loop-coded-test.true c.coded-item.is (sym c.keeps.ensures ∙ w.if-keeps.false) c.loop-coded.invariant)
]
