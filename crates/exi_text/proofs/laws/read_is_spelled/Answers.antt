use Rattle.exi_text.proofs.Letters.{chars_spelled}
use Rattle.exi_text.proofs.laws.read_is_spelled.Goals as goal

pub returns : goal.returns
returns c = chars_spelled
