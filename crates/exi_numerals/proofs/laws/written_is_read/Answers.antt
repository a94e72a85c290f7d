use Rattle.exi_names.specs.Forms.{is_integer, is_unsigned}
use Rattle.exi_numerals.proofs.Kept.{decimal_again, float_again, integer_again, integer_near, small_again, unsigned_near}
use Rattle.exi_numerals.proofs.laws.written_is_read.Goals as goal

pub returns : goal.returns
returns c = record { small = small_again; unsigned = integer_again is_unsigned unsigned_near; integer = integer_again is_integer integer_near; decimal = decimal_again; float = float_again }
