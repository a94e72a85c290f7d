use Rattle.exi_writer.proofs.TypedValues.{typed_one}
use Rattle.exi_writer.proofs.laws.typed_is_one.Goals as goal

pub returns : goal.returns
returns c = typed_one
