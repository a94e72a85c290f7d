use Rattle.exi_derived.proofs.Bodies.{written_derives}
use Rattle.exi_derived.proofs.laws.written_derives.Goals as goal

pub returns : goal.returns
returns c = record { law = written_derives }
