use Rattle.exi_text.proofs.Letters.{chars_written}
use Rattle.exi_text.proofs.laws.written_is_spelled.Goals as goal

pub returns : goal.returns
returns c = chars_written
