use Rattle.exi_scalar.proofs.Binaries.{binary_written}
use Rattle.exi_scalar.proofs.Signs.{boolean_written, decimal_written, float_written, integer_written}
use Rattle.exi_scalar.proofs.laws.written_is_spelled.Goals as goal

pub returns : goal.returns
returns c = record {
  boolean = boolean_written;
  integer = integer_written;
  decimal = decimal_written;
  float = float_written;
  binary = binary_written;
}
