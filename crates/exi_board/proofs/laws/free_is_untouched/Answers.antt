use Rattle.exi_board.proofs.Whole.{free_is_untouched}
use Rattle.exi_board.proofs.laws.free_is_untouched.Goals as goal

pub returns : goal.returns
returns g c = free_is_untouched g.N.Note.fits
