use Rattle.exi_board.proofs.Whole.{posted_by_claimant}
use Rattle.exi_board.proofs.laws.posted_by_claimant.Goals as goal

pub returns : goal.returns
returns g c = posted_by_claimant g.N.Note.fits
