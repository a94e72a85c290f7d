use Rattle.exi_items.proofs.NoPrefix.{is_spelled}
use Rattle.exi_scalar.specs.Scalars.{boolean_at, decimal_at, float_at, integer_at}
use Rattle.exi_scalar.specs.Spelled.{SpellsBoolean, SpellsDecimal, SpellsFloat, SpellsInteger}
use Rattle.exi_scalar.proofs.Binaries.{binary_spelled}
use Rattle.exi_scalar.proofs.Signs.{item_boolean, item_decimal, item_float, item_integer}
use Rattle.exi_scalar.proofs.laws.read_is_spelled.Goals as goal

pub returns : goal.returns
returns c = record {
  boolean = λ pattern. is_spelled (boolean_at pattern) (SpellsBoolean pattern) (item_boolean pattern);
  integer = is_spelled integer_at SpellsInteger item_integer;
  decimal = is_spelled decimal_at SpellsDecimal item_decimal;
  float = is_spelled float_at SpellsFloat item_float;
  binary = binary_spelled;
}
