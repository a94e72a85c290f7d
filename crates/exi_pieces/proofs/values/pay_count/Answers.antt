use Rattle.std.proofs.Common.{◌≡◌, ℕ, [], ◌∷◌, subst}
use Rattle.exi_names.specs.Seen.{vals}
use Rattle.exi_toll.specs.Charges.{charge}
use Rattle.exi_values.proofs.WriteRows.{counted}
use Rattle.exi_pieces.proofs.values.pay_count.Goals as goal

pub returns : goal.returns
returns c = subst (λ (n : ℕ). c.text.new.self ≡ charge (n ∷ []) c.args.toll.now) (counted c.as_slice.result.now (vals c.args.values.now) c.as_slice.ensures) c.text.ensures
