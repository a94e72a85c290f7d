use Rattle.exi_derived.proofs.Bodies.{bits_refuse_the_same, bits_write_again}
use Rattle.exi_derived.proofs.laws.bits_change_nothing.Goals as goal

pub returns : goal.returns
returns c = record { written = bits_write_again; refused = bits_refuse_the_same }
