use Rattle.exi_scalar.proofs.Asked.{binary_asked, boolean_asked, decimal_asked, float_asked, integer_asked}
use Rattle.exi_scalar.proofs.laws.form_is_asked.Goals as goal

pub returns : goal.returns
returns c = record { boolean = boolean_asked; integer = integer_asked; decimal = decimal_asked; float = float_asked; binary = binary_asked }
