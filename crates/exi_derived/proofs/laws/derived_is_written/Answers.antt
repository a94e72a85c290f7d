use Rattle.exi_derived.proofs.Bodies.{derived_is_written, written_exactly}
use Rattle.exi_derived.proofs.laws.derived_is_written.Goals as goal

pub returns : goal.returns
returns c = record { law = derived_is_written; exactly = written_exactly }
