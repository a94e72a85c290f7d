use Rattle.std.proofs.Common.{arith, ap, ◌∙◌, length}
use Rattle.exi_board.proofs.Allowed.{claim_allowed}
use Rattle.exi_board.proofs.Tries.{tried}
use Rattle.exi_board.proofs.Sums.{below_more}
use Rattle.exi_board.specs.Views.{one_if}
use Rattle.exi_board.proofs.board.Board.try_next.Goals as goal

pub compare_exchange-found-requires : goal.compare_exchange-found-requires
compare_exchange-found-requires g c =
    let seat = c.args.seat.now in let board = c.args.self.now in (
      c.requires.of.0,
      omega (arith, c.requires.room, board.words),
      claim_allowed g.N.Note.fits board.table.shared.key board.table.shared.table_id.slots seat.seat.id seat.next seat.number seat.seat.me seat.numbered (omega (arith, c.requires.room, ap length board.same)),
    )

pub invariant_of-seat : goal.invariant_of-seat
invariant_of-seat g c = let seat = c.args.seat.now in let board = c.args.self.now in
    let e = c.compare_exchange-found.ensures in let t = tried seat.next seat.seat.me c.compare_exchange-found.result c.compare_exchange-found.new.seat.me e.2.0 e.2.1 in
    record {
      numbered = t.number ∙ seat.numbered;
      still = t.putting ∙ seat.still;
      passed = omega (arith, t.passed, seat.passed);
      near = omega (arith, c.requires.room, board.few);
      within = omega (arith, c.requires.room, ap length board.same, ap (λ a. length a.offsets.items) (t.hints ∙ c.requires.of.1));
      spans = λ h. omega (arith, t.spans h, seat.spans h, below_more (one_if h) seat.next);
    }
