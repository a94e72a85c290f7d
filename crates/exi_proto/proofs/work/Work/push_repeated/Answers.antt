use Rattle.std.proofs.Common.{◌≤◌, Some, length, sym, ap, ◌∙◌, arith}
use Rattle.exi_draft.specs.Drafts.{States}
use Rattle.exi_proto.specs.declared.spot.Spot.{Spot}
use Rattle.exi_proto.specs.Places.{end_step, set}
use Rattle.exi_proto.specs.Tasks.{copy_at, set_at, whole, whole_with}
use Rattle.exi_proto.proofs.Making.{on_ok, whole_end}
use Rattle.exi_proto.proofs.Placing.{length-set, set-repeated}
use Rattle.exi_proto.proofs.Turning.{some_copy}
use Rattle.exi_proto.proofs.work.Work.push_repeated.Goals as goal

pub returns-clause-whole : goal.returns-clause-whole
returns-clause-whole c =
    let p = c.args.counts.now in
    let spot = c.args.spot in
    let a : States = (copy_at p c.args.particle).states in
    let long = length-set spot.first spot.before (Some c.args.spot.first) a in
    let some : 1 ≤ length a = some_copy p c.args.particle in
    on_ok c.push_term.result
    (λ w. whole_end p c.args.self.now c.push_end.new.self (end_step spot.first spot.next) (set spot.first spot.before (Some c.args.spot.first) a) (whole p c.push_term.new.self) (omega (arith, long, some)) c.in_ok-push_end.ensures.made c.in_ok-push_end.ensures.ends c.in_ok-push_end.ensures.tasks (w ∙ ap (λ (s : Spot). whole_with p c.push_end.new.self (set_at s a)) c.returning.ensures)
    ∙ ap (whole_with p c.args.self.now) (sym (set-repeated spot.first spot.before spot.next a)))
    c.push_term.ensures.whole
