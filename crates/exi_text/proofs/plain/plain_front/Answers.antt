use Rattle.std.proofs.Common.{◌∙◌, List, ℕ, ap, arith, get_or, sym}
use Rattle.exi_text.specs.Literals.{is_plain}
use Rattle.exi_text.proofs.Runs.{found_plain, none_plain}
use Rattle.exi_text.proofs.plain.plain_front.Goals as goal

pub returns-in-Some-clause-plain : goal.returns-in-Some-clause-plain
returns-in-Some-clause-plain c = λ i lt. ap (λ (os : List ℕ). is_plain (get_or os i 0)) (sym c.to_be_bytes-octets.ensures) ∙ (found_plain c.to_be_bytes-octets.result c.in-Some.place c.in-Some.ensures).1 i (omega (arith, lt))

pub returns-in-None-clause-plain : goal.returns-in-None-clause-plain
returns-in-None-clause-plain c = λ i lt. ap (λ (os : List ℕ). is_plain (get_or os i 0)) (sym c.to_be_bytes-octets.ensures) ∙ none_plain c.to_be_bytes-octets.result c.in-None.ensures i (omega (arith, lt))
