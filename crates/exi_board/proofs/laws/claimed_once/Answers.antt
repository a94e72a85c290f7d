use Rattle.exi_board.proofs.Whole.{claimed_once}
use Rattle.exi_board.proofs.laws.claimed_once.Goals as goal

pub returns : goal.returns
returns g c = claimed_once g.N.Note.fits
