use Rattle.exi_board.proofs.Whole.{posted_word}
use Rattle.exi_board.proofs.laws.posted_word.Goals as goal

pub returns : goal.returns
returns g c = posted_word g.N.Note.fits
