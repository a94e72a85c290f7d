use Rattle.std.proofs.Common.{sym}
use Rattle.exi_calendar.specs.Forms.{moment_text}
use Rattle.exi_lexical.proofs.Appends.{appended_is}
use Rattle.exi_lexical.proofs.Graphic.{graphic_bytes}
use Rattle.exi_lexical.proofs.Visible.{graphic_moment}
use Rattle.exi_lexical.proofs.canonical.put_moment.Goals as goal

pub returns : goal.returns
returns c = appended_is c.push_moment.result _ _ _ _ c.push_moment.ensures.ok (sym (graphic_bytes (moment_text c.args.moment) (graphic_moment c.args.moment)))
