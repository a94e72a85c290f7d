use Rattle.exi_typed.proofs.WrittenSpelled.{written_read}
use Rattle.exi_typed.proofs.laws.written_is_read.Goals as goal

pub returns : goal.returns
returns c = record { law = written_read }
