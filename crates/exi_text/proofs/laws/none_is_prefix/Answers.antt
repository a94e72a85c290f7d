use Rattle.exi_text.proofs.Letters.{chars_no_prefix}
use Rattle.exi_text.proofs.laws.none_is_prefix.Goals as goal

pub returns : goal.returns
returns c = chars_no_prefix
