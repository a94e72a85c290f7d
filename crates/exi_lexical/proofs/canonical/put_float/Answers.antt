use Rattle.std.proofs.Common.{sym}
use Rattle.exi_numerals.specs.Floats.{float_text}
use Rattle.exi_lexical.proofs.Appends.{appended_is}
use Rattle.exi_lexical.proofs.Graphic.{graphic_bytes}
use Rattle.exi_lexical.proofs.Visible.{graphic_float}
use Rattle.exi_lexical.proofs.canonical.put_float.Goals as goal

pub returns : goal.returns
returns c = appended_is c.push_float.result _ _ _ _ c.push_float.ensures.ok (sym (graphic_bytes (float_text c.args.float) (graphic_float c.args.float)))
