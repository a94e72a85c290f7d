use Rattle.exi_board.proofs.Whole.{unsettled_word}
use Rattle.exi_board.proofs.laws.unsettled_word.Goals as goal

pub returns : goal.returns
returns g c = unsettled_word g.N.Note.fits
