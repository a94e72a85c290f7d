use Rattle.exi_names.proofs.Same.{equal_iff, representations_iff}
use Rattle.exi_names.proofs.laws.equal_is_same.Goals as goal

pub returns : goal.returns
returns c = record { values = equal_iff; datatypes = representations_iff }
