use Rattle.exi_options.proofs.NoPrefix.{no_prefix}
use Rattle.exi_options.proofs.laws.none_is_prefix.Goals as goal

pub returns : goal.returns
returns c = no_prefix
