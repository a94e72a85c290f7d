use Rattle.std.proofs.Common.{rules, ◌≡◌, ◌-◌, length, arith, ap, sym, ◌∙◌}
use Rattle.exi_pattern.specs.declared.charset.CharSet.TheVariants as charset
use Rattle.exi_pattern.specs.declared.stop.Stop.TheVariants as stop
use Rattle.exi_pattern.specs.Patterns.{chars_of, kept}
use Rattle.exi_pattern.proofs.Steps.{if_set, letters_set, refused_as, refused_set}
use Rattle.exi_pattern.proofs.pieces.chars_of.Goals as goal

pub returns-in-Ok : goal.returns-in-Ok
returns-in-Ok c =
    let same : c.as_slice.result.now ≡ c.args.pattern.now = c.as_slice.ensures.value ∙ c.in_ok-text.ensures ∙ sym c.as_str.ensures.chars in
    if_set c.into_set.result (kept c.in-Ok.letters) (chars_of c.args.pattern.now) c.into_set.ensures (letters_set c.args.pattern.now c.as_slice.result.now c.in-Ok.letters same c.in-Ok.ensures)

pub returns-in-Err-Refused : goal.returns-in-Err-Refused
returns-in-Err-Refused c =
    let same : c.as_slice.result.now ≡ c.args.pattern.now = c.as_slice.ensures.value ∙ c.in_ok-text.ensures ∙ sym c.as_str.ensures.chars in
    let place : c.saturating_sub.result ≡ length c.as_slice.result.now - c.in-Err-Refused.left = grind (arith, c.saturating_sub.ensures, c.len.ensures, c.as_slice.ensures.len, c.in-Err-Refused.left-is, c.in-Err-Refused.field-0-0-is, c.in-Err-Refused.field-0-is) in
    let stop_is : c.in-Err-Refused.field-0 ≡ stop.Refused c.in-Err-Refused.field-0-0 = search rules in
    let left_is : c.in-Err-Refused.field-0-0.0 ≡ c.in-Err-Refused.left = search rules in
    ap charset.Refused place
    ∙ refused_set c.args.pattern.now c.as_slice.result.now c.in-Err-Refused.left same (refused_as c.in-Err-Refused.field-0 c.in-Err-Refused.field-0-0 c.in-Err-Refused.left _ stop_is left_is c.in-Err-Refused.ensures)
