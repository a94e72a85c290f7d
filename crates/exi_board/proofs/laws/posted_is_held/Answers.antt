use Rattle.exi_board.proofs.Whole.{posted_is_held}
use Rattle.exi_board.proofs.laws.posted_is_held.Goals as goal

pub returns : goal.returns
returns g c = posted_is_held g.N.Note.fits
