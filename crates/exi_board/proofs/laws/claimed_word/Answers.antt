use Rattle.exi_board.proofs.Whole.{claimed_word}
use Rattle.exi_board.proofs.laws.claimed_word.Goals as goal

pub returns : goal.returns
returns g c = claimed_word g.N.Note.fits
