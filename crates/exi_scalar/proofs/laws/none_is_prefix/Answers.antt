use Rattle.exi_items.proofs.NoPrefix.{no_prefix}
use Rattle.exi_scalar.specs.Scalars.{boolean_at, decimal_at, float_at, integer_at}
use Rattle.exi_scalar.specs.Spelled.{SpellsBoolean, SpellsDecimal, SpellsFloat, SpellsInteger}
use Rattle.exi_scalar.proofs.Binaries.{binary_no_prefix}
use Rattle.exi_scalar.proofs.Signs.{item_boolean, item_decimal, item_float, item_integer}
use Rattle.exi_scalar.proofs.laws.none_is_prefix.Goals as goal

pub returns : goal.returns
returns c = record {
  boolean = λ pattern. no_prefix (boolean_at pattern) (SpellsBoolean pattern) (item_boolean pattern);
  integer = no_prefix integer_at SpellsInteger item_integer;
  decimal = no_prefix decimal_at SpellsDecimal item_decimal;
  float = no_prefix float_at SpellsFloat item_float;
  binary = binary_no_prefix;
}
