use Rattle.exi_processing.proofs.Passing.{too_much_stops}
use Rattle.exi_processing.proofs.laws.too_much_stops.Goals as goal

pub returns : goal.returns
returns c = record { law = too_much_stops }
