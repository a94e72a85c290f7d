use Rattle.std.proofs.Common.{ℕ, leb, ap, ◌∙◌}
use Rattle.std.specs.Ordering.{is_le}
use Rattle.exi_digits.specs.Digits.{number_of}
use Rattle.exi_pattern.proofs.Compared.{as_long, by_length}
use Rattle.exi_pattern.proofs.quantities.is_at_most.Goals as goal

pub returns-then-least-most : goal.returns-then-least-most
returns-then-least-most c =
    c.is_le.ensures
    ∙ ap is_le c.cmp.ensures
    ∙ as_long c.without_zeros-least.result.now c.without_zeros-most.result.now c.if-least-most.true c.without_zeros-least.ensures.digits c.without_zeros-most.ensures.digits
    ∙ ap (λ (n : ℕ). leb n (number_of c.without_zeros-most.result.now)) c.without_zeros-least.ensures.number
    ∙ ap (λ (n : ℕ). leb (number_of c.args.least.now) n) c.without_zeros-most.ensures.number

pub returns-else-least-most : goal.returns-else-least-most
returns-else-least-most c =
    by_length c.without_zeros-least.result.now c.without_zeros-most.result.now c.if-least-most.false c.without_zeros-least.ensures.digits c.without_zeros-most.ensures.digits c.without_zeros-least.ensures.front c.without_zeros-most.ensures.front
    ∙ ap (λ (n : ℕ). leb n (number_of c.without_zeros-most.result.now)) c.without_zeros-least.ensures.number
    ∙ ap (λ (n : ℕ). leb (number_of c.args.least.now) n) c.without_zeros-most.ensures.number
