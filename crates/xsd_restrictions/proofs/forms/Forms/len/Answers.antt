use Rattle.std.proofs.Common.{length, sym, ap, ◌∙◌}
use Rattle.xsd_restrictions.proofs.Places.{length_forms}
use Rattle.xsd_restrictions.proofs.forms.Forms.len.Goals as goal

pub returns : goal.returns
returns c = ap length c.as_slice.ensures ∙ sym (length_forms c.self.inside.forms) ∙ ap length c.self.view_is
