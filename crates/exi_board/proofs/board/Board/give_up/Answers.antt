use Rattle.std.proofs.Common.{arith, ap, length}
use Rattle.exi_board.proofs.Allowed.{give_allowed}
use Rattle.exi_board.proofs.Tries.{is_hint}
use Rattle.exi_board.proofs.board.Board.give_up.Goals as goal

pub swap-requires : goal.swap-requires
swap-requires g c =
    let seat = c.args.seat.now in let board = c.args.self.now in
    let room = is_hint c.args.hint seat.next seat.seat.me.0 board.table.shared.key (seat.spans c.args.hint) seat.within c.requires.of.1 c.requires.claimed in (
      c.requires.of.0,
      omega (arith, room, ap length board.same, board.words),
      give_allowed g.N.Note.fits board.table.shared.key board.table.shared.table_id.slots seat.seat.id c.args.hint seat.seat.me c.requires.claimed room,
    )
