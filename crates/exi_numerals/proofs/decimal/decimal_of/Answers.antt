use Rattle.std.proofs.Common.{◌≡◌, ◌++◌, true, Some}
use Rattle.exi_digits.specs.Digits.{back_in, has_any, number_behind}
use Rattle.exi_numerals.specs.Decimals.{fraction_digits, whole_digits}
use Rattle.exi_numerals.proofs.Parts.{decimal_some}
use Rattle.exi_numerals.proofs.decimal.decimal_of.Goals as goal

pub returns : goal.returns
returns c =
    let text = c.args.text.now in
    let any : has_any (whole_digits text ++ fraction_digits text) ≡ true = (let e = c.split_decimal-minus.ensures.whole in let f = c.split_decimal-minus.ensures.fraction in cc) in
    let w : number_behind 0 (whole_digits text) ≡ Some c.in_ok-whole.whole = (let e = c.split_decimal-minus.ensures.whole in let f = c.in_ok-whole.was in cc) in
    let b : back_in (fraction_digits text) ≡ Some c.in_ok-back.back = (let e = c.split_decimal-minus.ensures.fraction in let f = c.in_ok-back.was in cc) in
    let h = decimal_some text c.in_ok-whole.whole c.in_ok-back.back any w b in
    let m = c.split_decimal-minus.ensures.minus in
    cc
