use Rattle.exi_bits.proofs.UnsignedLaws.{wide_when, wide_too_wide}
use Rattle.exi_bits.proofs.laws.too_wide_is_wide.Goals as goal

pub returns : goal.returns
returns c = λ s. (wide_when s, wide_too_wide s)
