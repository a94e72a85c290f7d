use Rattle.std.proofs.Common.{◌≤◌, sym, subst}
use Rattle.exi_board.specs.Seats.{hint_count, view_of}
use Rattle.exi_board.specs.Views.{tried_by}
use Rattle.exi_worker.specs.declared.worked.Worked.{Worked}
use Rattle.exi_worker.specs.Hands.{Works, settled_in}
use Rattle.exi_worker.proofs.Doing.{ends, few_more, goes}
use Rattle.exi_worker.proofs.working.work_through.Goals as goal

pub loop-hint-preserved : goal.loop-hint-preserved
loop-hint-preserved g c =
    let v = view_of c.args.seat.now in let w = view_of c.loop-hint.seat in let m = view_of c.claim.new.seat in let x = view_of c.settle.new.seat in
    let inv = c.loop-hint.invariant in let claim = c.in-Some.ensures in let read = c.decode-read.result in
    record {
      seat = c.settle.ensures.seat;
      pass = c.settle.ensures.pass;
      few = subst (λ (k : Worked). settled_in k ≤ tried_by x) (sym c.count.ensures)
          (few_more v c.args.pass.now w c.loop-hint.pass c.loop-hint.worked read c.settle.result c.in-Some.hint m x inv.few claim.next claim.tried claim.newly c.settle.ensures.fate);
      works = subst (λ (k : Worked). Works v c.args.pass.now x c.settle.new.pass k) (sym c.count.ensures)
          (goes v c.args.pass.now w c.loop-hint.pass c.loop-hint.worked read c.settle.result c.in-Some.hint m x c.decode-read.new.pass c.settle.new.pass inv.works claim.claimed claim.newly c.decode-read.ensures.pages c.decode-read.ensures.dry c.settle.ensures.fate c.settle.ensures.pages c.settle.ensures.dry);
    }

pub returns-clause-works : goal.returns-clause-works
returns-clause-works g c = ends (view_of c.args.seat.now) c.args.pass.now (view_of c.loop-hint.seat) c.loop-hint.pass c.loop-hint.worked (hint_count c.args.board.now) (view_of c.claim.new.seat) c.loop-hint.invariant.works c.in_default.ensures.none
