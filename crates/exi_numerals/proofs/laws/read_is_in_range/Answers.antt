use Rattle.exi_names.specs.Forms.{is_integer, is_unsigned}
use Rattle.exi_numerals.proofs.Kept.{decimal_read, float_read, integer_ranged}
use Rattle.exi_numerals.proofs.laws.read_is_in_range.Goals as goal

pub returns : goal.returns
returns c = record { unsigned = integer_ranged is_unsigned; integer = integer_ranged is_integer; decimal = decimal_read; float = float_read }
