use Rattle.xsd_schema.proofs.Fits.{fit}
use Rattle.xsd_schema.proofs.laws.fit.Goals as goal

pub returns : goal.returns
returns c = fit
