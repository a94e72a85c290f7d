use Rattle.exi_evtext.proofs.Read.{read_says}
use Rattle.exi_evtext.proofs.LineWise.{text_says}
use Rattle.exi_evtext.proofs.laws.read_is_spelled.Goals as goal

pub returns : goal.returns
returns c = record { line = read_says; text = text_says }
