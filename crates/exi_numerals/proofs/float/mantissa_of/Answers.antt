use Rattle.std.proofs.Common.{◌≡◌, ◌++◌, Bool, true, List, ℕ, Some, None, ap, sym, ◌∙◌, length, rules}
use Rattle.std.proofs.lemmas.Int.{to_z-of_z}
use mir.Val.{SFits}
use Rattle.std.specs.Int.{w64}
use Rattle.exi_digits.specs.Digits.{has_any, number_behind}
use Rattle.exi_names.specs.Wholes.{number}
use Rattle.exi_numerals.specs.Decimals.{fraction_digits, whole_digits}
use Rattle.exi_names.specs.Forms.{int_of, is_mantissa}
use Rattle.exi_numerals.specs.Integers.{has_minus}
use Rattle.exi_numerals.specs.Floats.{held}
use Rattle.exi_numerals.proofs.Parts.{fraction_fails, mantissa_some, sign_fails, whole_fails}
use Rattle.exi_numerals.proofs.float.mantissa_of.Goals as goal

pub returns-in_err-whole : goal.returns-in_err-whole
returns-in_err-whole c =
    let text = c.args.text.now in
    let w : number_behind 0 (whole_digits text) ≡ None = (let e = c.split_decimal-minus.ensures.whole in let f = c.in_err-whole.was in cc) in
    c.from_residual.ensures ∙ sym (whole_fails text w)

pub returns-in_err-size : goal.returns-in_err-size
returns-in_err-size c =
    let text = c.args.text.now in
    let w : number_behind 0 (whole_digits text) ≡ Some c.in_ok-whole.whole = (let e = c.split_decimal-minus.ensures.whole in let f = c.in_ok-whole.was in cc) in
    let n : number_behind c.in_ok-whole.whole (fraction_digits text) ≡ None = (let e = c.split_decimal-minus.ensures.fraction in let f = c.in_err-size.was in cc) in
    c.from_residual-in_err-size.ensures ∙ sym (fraction_fails text c.in_ok-whole.whole w n)

pub returns-in_err-mantissa : goal.returns-in_err-mantissa
returns-in_err-mantissa c =
    let text = c.args.text.now in
    let w : number_behind 0 (whole_digits text) ≡ Some c.in_ok-whole.whole = (let e = c.split_decimal-minus.ensures.whole in let f = c.in_ok-whole.was in cc) in
    let n : number_behind c.in_ok-whole.whole (fraction_digits text) ≡ Some c.in_ok-size.size = (let e = c.split_decimal-minus.ensures.fraction in let f = c.in_ok-size.was in cc) in
    let m : held is_mantissa (int_of (number (has_minus text) c.in_ok-size.size)) ≡ None = ap (λ (b : Bool). held is_mantissa (int_of (number b c.in_ok-size.size))) (sym c.split_decimal-minus.ensures.minus) ∙ sym c.signed.ensures ∙ c.in_err-mantissa.was in
    c.from_residual-in_err-mantissa.ensures ∙ sym (sign_fails text c.in_ok-whole.whole c.in_ok-size.size w n m)

pub returns : goal.returns
returns c =
    let text = c.args.text.now in
    let w : number_behind 0 (whole_digits text) ≡ Some c.in_ok-whole.whole = (let e = c.split_decimal-minus.ensures.whole in let f = c.in_ok-whole.was in cc) in
    let n : number_behind c.in_ok-whole.whole (fraction_digits text) ≡ Some c.in_ok-size.size = (let e = c.split_decimal-minus.ensures.fraction in let f = c.in_ok-size.was in cc) in
    let any : has_any (whole_digits text ++ fraction_digits text) ≡ true = (let e = c.split_decimal-minus.ensures.whole in let f = c.split_decimal-minus.ensures.fraction in cc) in
    let m : held is_mantissa (int_of (number (has_minus text) c.in_ok-size.size)) ≡ Some c.in_ok-mantissa.mantissa = ap (λ (b : Bool). held is_mantissa (int_of (number b c.in_ok-size.size))) (sym c.split_decimal-minus.ensures.minus) ∙ sym c.signed.ensures ∙ c.in_ok-mantissa.was in
    let h = mantissa_some text c.in_ok-whole.whole c.in_ok-size.size c.in_ok-mantissa.mantissa any w n m in
    let len : length c.split_decimal-minus.result.2.now ≡ length (fraction_digits text) = ap (λ (t : List ℕ). length t) c.split_decimal-minus.ensures.fraction in
    let fits : SFits w64 c.in_ok-mantissa.mantissa = search rules in
    rw (len, to_z-of_z) (sym h)
