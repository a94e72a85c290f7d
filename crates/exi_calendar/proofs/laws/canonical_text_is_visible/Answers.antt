use Rattle.exi_calendar.proofs.Visible.{text_visible}
use Rattle.exi_calendar.proofs.laws.canonical_text_is_visible.Goals as goal

pub returns : goal.returns
returns c = text_visible
