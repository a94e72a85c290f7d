use Rattle.std.proofs.Common.{◌≡◌, ◌++◌, ℕ, OnOk, subst}
use Rattle.exi_bits.specs.Bits.{bits}
use Rattle.exi_bits.specs.Unsigned.{shortest}
use Rattle.exi_names.specs.Seen.{vals}
use Rattle.exi_values.proofs.WriteRows.{counted}
use Rattle.exi_values.proofs.write.write_count.Goals as goal

pub returns-clause-ok : goal.returns-clause-ok
returns-clause-ok c = subst (λ (n : ℕ). OnOk c.unsigned.result (c.unsigned.new.self ≡ c.args.out.now ++ bits (shortest n))) (counted c.as_slice.result.now (vals c.args.values.now) c.as_slice.ensures) c.unsigned.ensures.ok
