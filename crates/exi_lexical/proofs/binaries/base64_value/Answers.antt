use Rattle.std.proofs.Common.{sym, ◌∙◌}
use Rattle.exi_lexical.proofs.Blanks.{squeezed_same}
use Rattle.exi_lexical.proofs.binaries.base64_value.Goals as goal

pub returns-then-is_solid : goal.returns-then-is_solid
returns-then-is_solid c = rw (squeezed_same c.args.text.now (sym c.is_solid.ensures ∙ c.if-is_solid.true)) c.digits_value.ensures
