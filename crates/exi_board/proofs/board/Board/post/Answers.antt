use Rattle.std.proofs.Common.{arith, refl, ap, sym, ◌∙◌, subst, ◌+◌, ◌∷◌, length, Some, eqb}
use mathlib.Core.Option.{none}
use prog.Atomic.{either}
use Rattle.atomic_table.specs.Table.{Allows, rest, step}
use Rattle.exi_board.specs.Views.{with_putting}
use Rattle.exi_board.specs.Rule.{BoardRule}
use Rattle.exi_board.specs.Plays.{Posts}
use Rattle.exi_board.proofs.Allowed.{take_allowed, post_allowed}
use Rattle.exi_board.proofs.Tries.{is_hint}
use Rattle.exi_board.proofs.board.Board.post.Goals as goal

pub load-claim-requires : goal.load-claim-requires
load-claim-requires g c =
    let seat = c.args.seat.now in let board = c.args.self.now in
    let room = is_hint c.args.hint seat.next seat.seat.me.0 board.table.shared.key (seat.spans c.args.hint) seat.within c.requires.of.1 c.requires.claimed in (
      c.requires.of.0,
      omega (arith, room, ap length board.same, board.words),
      take_allowed g.N.Note.fits board.table.shared.key board.table.shared.table_id.slots seat.seat.id c.args.hint seat.seat.me seat.still c.requires.claimed room,
    )

pub compare_exchange-found-requires : goal.compare_exchange-found-requires
compare_exchange-found-requires g c =
    let seat = c.args.seat.now in let board = c.args.self.now in let h = c.args.hint in
    let room = is_hint c.args.hint seat.next seat.seat.me.0 board.table.shared.key (seat.spans c.args.hint) seat.within c.requires.of.1 c.requires.claimed in
    let l = c.load-claim.ensures in let x = c.exchange-empty.ensures in
    let me = x.3 ∙ ap (λ q. (q.0, (h, Some c.args.posting) ∷ rest q.1)) l.2 in (
      x.0 ∙ l.0 ∙ c.requires.of.0,
      omega (arith, room, ap length board.same, board.words),
      subst (λ q. Allows (BoardRule g.N.Note.fits board.table.shared.key) board.table.shared.table_id.slots c.exchange-empty.new.seat.id q h (λ n. either (eqb n (3 + seat.number)) 1 n) (Posts g.N.Note.pages (step board.table.shared.table_id.slots h (3 + seat.number) 1 none) q)) (sym me)
          (post_allowed g.N.Note.fits board.table.shared.key g.N.Note.pages board.table.shared.table_id.slots c.exchange-empty.new.seat.id h seat.number (with_putting h seat.seat.me.0) c.args.posting seat.seat.me.1
          seat.numbered refl c.requires.claimed (omega (arith, room, ap length board.same, board.slots)) room c.requires.fits),
    )

pub exchange-requires : goal.exchange-requires
exchange-requires g c =
    let h = c.args.hint in
    let l = c.load-claim.ensures in let x = c.exchange-empty.ensures in let e = c.compare_exchange-found.ensures in
    let hand = ap (λ q. q.1) ((e.2.1 c.if-found-claim.false).1) ∙ ap (λ q. q.1) x.3 in
    (e.0 ∙ x.0 ∙ l.0 ∙ c.requires.of.0, (Some c.args.posting, hand ∙ ap (λ r. (h, Some c.args.posting) ∷ rest r) (sym hand)))
