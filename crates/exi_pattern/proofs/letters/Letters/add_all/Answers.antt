use Rattle.std.proofs.lemmas.Str.{IsUtf8-past_char, chars_past_char}
use Rattle.exi_names.proofs.Texts.{chars_of_empty}
use Rattle.exi_pattern.proofs.letters.Letters.add_all.Goals as goal

pub loop-c-preserved : goal.loop-c-preserved
loop-c-preserved c =
    let held = c.loop-c.invariant in
    let parts = c.in-Some.ensures.steps.0 in
    let left = rw (chars_past_char _ _ c.in-Some.c held.0 parts) at held.1 in
    (IsUtf8-past_char _ _ c.in-Some.c held.0 parts, rw (c.in_ok-add_codes.ensures) left)

pub returns : goal.returns
returns c = rw (chars_of_empty _ c.in-None.ensures.steps.0.0) at c.loop-c.invariant.1
