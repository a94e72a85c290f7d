use Rattle.exi_board.proofs.Whole.{found_once}
use Rattle.exi_board.proofs.laws.found_once.Goals as goal

pub returns : goal.returns
returns g c = found_once g.N.Note.fits
