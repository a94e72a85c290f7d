use Rattle.exi_board.proofs.Whole.{spent_is_two}
use Rattle.exi_board.proofs.laws.spent_is_two.Goals as goal

pub returns : goal.returns
returns g c = spent_is_two g.N.Note.fits
