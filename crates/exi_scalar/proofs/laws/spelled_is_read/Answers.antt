use Rattle.exi_items.proofs.NoPrefix.{is_read}
use Rattle.exi_scalar.specs.Scalars.{boolean_at, decimal_at, float_at, integer_at}
use Rattle.exi_scalar.specs.Spelled.{SpellsBoolean, SpellsDecimal, SpellsFloat, SpellsInteger}
use Rattle.exi_scalar.proofs.Binaries.{binary_read}
use Rattle.exi_scalar.proofs.Signs.{item_boolean, item_decimal, item_float, item_integer}
use Rattle.exi_scalar.proofs.laws.spelled_is_read.Goals as goal

pub returns : goal.returns
returns c = record {
  boolean = λ pattern. is_read (boolean_at pattern) (SpellsBoolean pattern) (item_boolean pattern);
  integer = is_read integer_at SpellsInteger item_integer;
  decimal = is_read decimal_at SpellsDecimal item_decimal;
  float = is_read float_at SpellsFloat item_float;
  binary = binary_read;
}
