use Rattle.exi_names.specs.Forms.{is_integer, is_unsigned}
use Rattle.exi_numerals.proofs.Kept.{decimal_kept, float_kept, integer_kept, integer_near, small_kept, unsigned_near}
use Rattle.exi_numerals.proofs.laws.value_comes_back.Goals as goal

pub returns : goal.returns
returns c = record { small = small_kept; unsigned = integer_kept is_unsigned unsigned_near; integer = integer_kept is_integer integer_near; decimal = decimal_kept; float = float_kept }
