use Rattle.exi_header.proofs.Backs.{cookie_asked}
use Rattle.exi_header.proofs.laws.cookie_is_asked.Goals as goal

pub returns : goal.returns
returns c = cookie_asked
