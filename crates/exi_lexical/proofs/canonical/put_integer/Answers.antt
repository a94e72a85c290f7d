use Rattle.std.proofs.Common.{sym}
use Rattle.exi_numerals.specs.Integers.{integer_text}
use Rattle.exi_lexical.proofs.Appends.{appended_is}
use Rattle.exi_lexical.proofs.Graphic.{graphic_bytes}
use Rattle.exi_lexical.proofs.Visible.{graphic_integer}
use Rattle.exi_lexical.proofs.canonical.put_integer.Goals as goal

pub returns : goal.returns
returns c = appended_is c.push_integer.result _ _ _ _ c.push_integer.ensures.ok (sym (graphic_bytes (integer_text c.args.whole) (graphic_integer c.args.whole)))
