use Rattle.exi_board.proofs.Whole.{one_claimant}
use Rattle.exi_board.proofs.laws.one_claimant.Goals as goal

pub returns : goal.returns
returns g c = one_claimant g.N.Note.fits
