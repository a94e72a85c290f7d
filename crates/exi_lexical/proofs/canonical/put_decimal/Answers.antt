use Rattle.std.proofs.Common.{sym}
use Rattle.exi_numerals.specs.Decimals.{decimal_text}
use Rattle.exi_lexical.proofs.Appends.{appended_is}
use Rattle.exi_lexical.proofs.Graphic.{graphic_bytes}
use Rattle.exi_lexical.proofs.Visible.{graphic_decimals}
use Rattle.exi_lexical.proofs.canonical.put_decimal.Goals as goal

pub returns : goal.returns
returns c = appended_is c.push_decimal.result _ _ _ _ c.push_decimal.ensures.ok (sym (graphic_bytes (decimal_text c.args.decimal) (graphic_decimals c.args.decimal)))
