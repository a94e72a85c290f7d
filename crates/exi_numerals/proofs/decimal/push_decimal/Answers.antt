use Rattle.std.proofs.Common.{◌≡◌, ◌++◌, ◌∷◌, [], List, ℕ, ap, ◌∙◌, append_assoc, arith}
use Rattle.std.specs.Prelude.{string_bytes, decimal}
use Rattle.exi_digits.specs.Digits.{fraction_of}
use Rattle.exi_digits.specs.Pushed.{HoldsFront}
use Rattle.exi_numerals.specs.Integers.{sign_text}
use Rattle.exi_numerals.proofs.Fronts.{front_behind, on_err}
use Rattle.exi_numerals.proofs.decimal.push_decimal.Goals as goal

pub returns-clause-err : goal.returns-clause-err
returns-clause-err c =
    let old = string_bytes c.args.out.now in
    let signed = string_bytes c.push_sign.new.out in
    let counted = string_bytes c.push_number.new.out in
    let pointed = string_bytes c.push.new.self in
    let new = string_bytes c.push_fraction.new.out in
    let sign = sign_text c.args.decimal.minus in
    let whole = decimal c.args.decimal.whole in
    let fraction = fraction_of c.args.decimal.back in
    let first : counted ≡ old ++ (sign ++ whole) = c.in_ok-push_number.ensures.ok ∙ ap (λ (t : List ℕ). t ++ whole) c.in_ok-push_sign.ensures.ok ∙ append_assoc old sign whole in
    let point : pointed ≡ counted ++ 46 ∷ [] = c.in_ok-push.ensures.bytes ∙ ap (λ (t : List ℕ). counted ++ t) (c.in_ok-push.ensures.ascii (omega arith)) in
    on_err c.push_fraction.result c.push_fraction.ensures.err (λ (h : HoldsFront pointed fraction new).
    front_behind old (sign ++ whole) (46 ∷ fraction) counted new first (front_behind counted (46 ∷ []) fraction pointed new point h))
