use Rattle.std.proofs.Common.{◌≡◌, List, ℕ, Some, Option, ap, sym, ◌∙◌}
use Rattle.std.specs.Prelude.{option_copied}
use Rattle.exi_numerals.specs.Floats.{exponent_in}
use Rattle.exi_numerals.proofs.Parts.{written_is}
use Rattle.exi_numerals.proofs.float.exponent_of.Goals as goal

pub returns-in_ok-wide_of-in-Some : goal.returns-in_ok-wide_of-in-Some
returns-in_ok-wide_of-in-Some c =
    let h = written_is c.in-Some.text.now c.in_ok-wide_of-in-Some.field-0 c.args.count (sym c.wide_of.ensures ∙ c.in_ok-wide_of-in-Some.was) in
    let t : option_copied c.args.text ≡ Some c.in-Some.text.now = ap option_copied c.in-Some.is in
    c.less.ensures ∙ sym h ∙ ap (λ (o : Option (List ℕ)). exponent_in o c.args.count) (sym t)
