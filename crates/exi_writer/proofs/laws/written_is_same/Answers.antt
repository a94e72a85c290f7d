use Rattle.exi_writer.proofs.SameLists.{list_same}
use Rattle.exi_writer.proofs.SameOne.{one_same}
use Rattle.exi_writer.proofs.laws.written_is_same.Goals as goal

pub returns : goal.returns
returns c = record { one = one_same; list = list_same }
