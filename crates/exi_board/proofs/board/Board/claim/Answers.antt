use Rattle.std.proofs.Common.{◌≡◌, ◌∙◌, ◌-◌, arith, ap, length}
use Rattle.exi_board.specs.Views.{tried_by, passing, with_claimed}
use Rattle.exi_board.proofs.Sums.{below_once}
use Rattle.exi_board.proofs.Works.{unsettled_after_claim, unsettled_after_none}
use Rattle.exi_board.proofs.board.Board.claim.Goals as goal

pub returns-clause-all : goal.returns-clause-all
returns-clause-all g c = λ h lt.
    let board = c.args.self.now in let seat = c.loop-seat.seat in let done = c.loop-seat-test.false in
    omega (arith, seat.spans h, below_once h seat.next (omega (arith, done, lt, ap length board.same)))

pub returns-then-try_next-clause-stays : goal.returns-then-try_next-clause-stays
returns-then-try_next-clause-stays g c = λ h o.
    let was = c.args.seat.now in let mid = c.loop-seat.seat in
    unsettled_after_claim h mid.next (mid.next - was.next) was.seat.me.0 c.try_next.new.seat.seat.me.0 (c.if-try_next.ensures.view ∙ ap (with_claimed mid.next) c.loop-seat.invariant.3) o

pub returns-clause-stays : goal.returns-clause-stays
returns-clause-stays g c = λ h o.
    let was = c.args.seat.now in let mid = c.loop-seat.seat in
    unsettled_after_none h (mid.next - was.next) was.seat.me.0 mid.seat.me.0 c.loop-seat.invariant.3 o

pub returns-clause-none : goal.returns-clause-none
returns-clause-none g c =
    let board = c.args.self.now in let was = c.args.seat.now in let seat = c.loop-seat.seat in let inv = c.loop-seat.invariant in let done = c.loop-seat-test.false in
    let all : seat.next - was.next ≡ length board.table.shared.key.offsets.items - tried_by was.seat.me.0 =
    omega (arith, done, ap length board.same, seat.within, ap (λ a. length a.offsets.items) inv.1, was.passed) in
    inv.3 ∙ ap (λ n. passing n was.seat.me.0) all
