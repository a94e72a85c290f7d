use Rattle.std.proofs.Common.{arith, ap, sym, ◌∙◌, subst, ◌+◌, All}
use Rattle.std.proofs.lemmas.List.Elements.{All-push}
use Rattle.exi_board.specs.Seats.{view_of, IsSeatOn}
use Rattle.exi_board.specs.Views.{with_seats}
use Rattle.exi_board.proofs.Starts.{makes, pushed}
use Rattle.exi_board.proofs.making.make_seats.Goals as goal

pub split_seat-seat-requires : goal.split_seat-seat-requires
split_seat-seat-requires g c =
    let inv = c.loop-number.invariant in let count = ap (λ v. v.seats) inv.1 in (
      inv.0,
      c.requires.words,
      makes g.N.Note.fits c.args.table.now.key c.loop-number.first.id c.loop-number.first.me.0 (ap (λ v. v.number) inv.1) (ap (λ v. v.hints) inv.1)
          (let near = c.ranges.seats.fits in let lt = c.loop-number-test.true in omega arith),
    )

pub loop-number-preserved : goal.loop-number-preserved
loop-number-preserved g c =
    let inv = c.loop-number.invariant in let e = c.split_seat-seat.ensures in let fresh = c.fresh.ensures in
    let key = c.args.table.now.key in let on = IsSeatOn c.args.table.now.table_id key in (
      e.0 ∙ inv.0,
      ap (λ q. q.0) e.2 ∙ ap (λ v. with_seats (v.seats + 1) v) inv.1,
      pushed g.N.Note.fits key view_of c.loop-number.all.items c.push.new.self.items c.fresh.result c.loop-number.number c.loop-number.first.me.0 c.in_ok-push.ensures.items inv.2 (fresh.view ∙ ap (λ q. q.0) e.4) inv.1 inv.4,
      subst (All on) (sym c.in_ok-push.ensures.items)
          (All-push on c.loop-number.all.items c.fresh.result inv.3 (fresh.table ∙ e.3 ∙ inv.0, ap (λ v. v.hints) (fresh.view ∙ ap (λ q. q.0) e.4) ∙ ap (λ v. v.hints) inv.1)),
      omega arith,
      (let lt = c.loop-number-test.true in omega arith),
    )
