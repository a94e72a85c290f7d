use Rattle.std.proofs.Common.{Result, sym, subst}
use Rattle.exi_board.specs.Seats.{view_of}
use Rattle.exi_worker.specs.declared.fate.Loss.{Loss}
use Rattle.exi_worker.specs.declared.posting.Posting.{Posting}
use Rattle.exi_worker.specs.Hands.{Settles}
use Rattle.exi_worker.proofs.Pages.{settles_sent}
use Rattle.exi_worker.proofs.settling.settle.Goals as goal

pub returns-in-None-clause-pages : goal.returns-in-None-clause-pages
returns-in-None-clause-pages g c = subst (λ (r : Result Posting Loss). Settles r (view_of c.args.seat.now) c.args.pass.now (view_of c.post.new.seat) c.args.pass.now) (sym c.in-Ok.is) (settles_sent c.args.hint (view_of c.args.seat.now) (view_of c.post.new.seat) c.in-Ok.posting c.args.pass.now c.in-None.ensures.posted)
