use Rattle.std.proofs.Common.{arith}
use Rattle.exi_reader.proofs.ends.input_of.Goals as goal

pub returns-clause-octets : goal.returns-clause-octets
returns-clause-octets c = λ i. omega (arith, c.type_inv.bytes i)
