use Rattle.exi_board.proofs.Whole.{seats_differ}
use Rattle.exi_board.proofs.laws.seats_differ.Goals as goal

pub returns : goal.returns
returns g c = seats_differ g.N.Note.fits
