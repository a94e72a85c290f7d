use Rattle.std.proofs.Common.{sym, ◌∙◌}
use Rattle.std.proofs.lemmas.Str.{IsUtf8-past_char, chars_past_char}
use Rattle.exi_names.proofs.Texts.{chars_of_empty}
use Rattle.exi_names.proofs.alphabet.rises.Goals as goal

pub returns-then-not-may_follow : goal.returns-then-not-may_follow
returns-then-not-may_follow c =
    let held = c.loop-c.invariant in
    let step = chars_past_char _ _ c.in-Some.c held.0 c.in-Some.ensures.steps.0 in
    let no = sym c.may_follow.ensures ∙ c.if-not-may_follow.true in
    rw (step, no) at held.1

pub loop-c-preserved : goal.loop-c-preserved
loop-c-preserved c =
    let held = c.loop-c.invariant in
    let parts = c.in-Some.ensures.steps.0 in
    let yes = sym c.may_follow.ensures ∙ c.if-not-may_follow.false in
    (IsUtf8-past_char _ _ c.in-Some.c held.0 parts, rw (chars_past_char _ _ c.in-Some.c held.0 parts, yes) at held.1)

pub returns : goal.returns
returns c = rw (chars_of_empty _ c.in-None.ensures.steps.0.0) at c.loop-c.invariant.1
