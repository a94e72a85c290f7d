use Rattle.exi_board.proofs.Whole.{seats_are_counted}
use Rattle.exi_board.proofs.laws.seats_are_counted.Goals as goal

pub returns : goal.returns
returns g c = seats_are_counted g.N.Note.fits
