use Rattle.exi_text.proofs.Letters.{chars_read}
use Rattle.exi_text.proofs.laws.spelled_is_read.Goals as goal

pub returns : goal.returns
returns c = chars_read
