use Rattle.std.proofs.Common.{◌≡◌, ◌++◌, ◌∷◌, [], List, ℕ, false, ap, sym, ◌∙◌, subst, refl, arith, rules, ℤ}
use mir.Val.{of_z, SFits}
use Rattle.std.proofs.lemmas.Int.{to_z-of_z}
use Rattle.std.specs.Int.{w16, w64}
use Rattle.std.specs.Prelude.{string_bytes}
use Rattle.std.specs.Fmt.{signed_decimal}
use Rattle.exi_digits.specs.Pushed.{HoldsFront}
use Rattle.exi_names.specs.Forms.{is_special}
use Rattle.exi_numerals.specs.Floats.{float_text}
use Rattle.exi_numerals.proofs.Fronts.{none_behind, front_behind, on_err}
use Rattle.exi_numerals.proofs.Parts.{not_special}
use Rattle.exi_numerals.proofs.float.push_float.Goals as goal

pub returns-clause-err : goal.returns-clause-err
returns-clause-err c =
    let old = string_bytes c.args.out.now in
    let numbered = string_bytes c.push_signed.new.out in
    let marked = string_bytes c.push.new.self in
    let new = string_bytes c.push_signed-2.new.out in
    let mantissa = signed_decimal c.args.float.mantissa in
    let exponent = signed_decimal c.args.float.exponent in
    let number : is_special c.args.float.exponent ≡ false = not_special c.args.float.exponent (λ e. c.if-float-eq-NO_NUMBER.false (ap (of_z w16) e)) in
    let text : float_text c.args.float ≡ mantissa ++ 69 ∷ exponent = rw number refl in
    let fits : SFits w64 c.args.float.mantissa = search rules in
    let first : numbered ≡ old ++ mantissa = c.in_ok-push_signed.ensures.ok ∙ ap (λ (z : ℤ). old ++ signed_decimal z) (to_z-of_z w64 c.args.float.mantissa fits) in
    let mark : marked ≡ numbered ++ 69 ∷ [] = c.in_ok-push.ensures.bytes ∙ ap (λ (t : List ℕ). numbered ++ t) (c.in_ok-push.ensures.ascii (omega arith)) in
    on_err c.push_signed-2.result c.push_signed-2.ensures.err (λ (h : new ≡ marked).
    subst (λ (t : List ℕ). HoldsFront old t new) (sym text)
    (front_behind old mantissa (69 ∷ exponent) numbered new first (none_behind numbered (69 ∷ []) exponent new (h ∙ mark))))
