use Rattle.std.proofs.Common.{ℕ, eqb, ap, ◌∙◌}
use Rattle.exi_pattern.proofs.Compared.{zero_only}
use Rattle.exi_pattern.proofs.quantities.is_zero.Goals as goal

pub returns : goal.returns
returns c =
    c.is_empty.ensures
    ∙ zero_only c.without_zeros.result.now c.without_zeros.ensures.digits c.without_zeros.ensures.front
    ∙ ap (λ (n : ℕ). eqb n 0) c.without_zeros.ensures.number
