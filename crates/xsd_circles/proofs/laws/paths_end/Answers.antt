use Rattle.xsd_circles.proofs.Ending.{paths_end}
use Rattle.xsd_circles.proofs.laws.paths_end.Goals as goal

pub returns : goal.returns
returns c = paths_end
