use Rattle.std.proofs.Common.{sym, ◌∙◌}
use Rattle.std.proofs.lemmas.Str.{IsUtf8-past_char, chars_past_char}
use Rattle.exi_names.proofs.Texts.{chars_of_empty}
use Rattle.exi_text.proofs.CommonTexts.{common_xml}
use Rattle.exi_text.proofs.set.is_all_xml.Goals as goal

pub returns-then-are_common : goal.returns-then-are_common
returns-then-are_common c = sym (common_xml c.args.text.now c.utf8.text (rw c.as_bytes.ensures.value at c.are_common.ensures c.if-are_common.true))

pub returns-then-not-is_xml : goal.returns-then-not-is_xml
returns-then-not-is_xml c =
    let held = c.loop-c.invariant in
    let step = chars_past_char _ _ c.in-Some.c held.utf8 c.in-Some.ensures.steps.0 in
    let no = sym c.is_xml.ensures ∙ c.if-not-is_xml.true in
    rw (step, no) at held.so_far

pub loop-c-preserved : goal.loop-c-preserved
loop-c-preserved c =
    let held = c.loop-c.invariant in
    let parts = c.in-Some.ensures.steps.0 in
    let yes = sym c.is_xml.ensures ∙ c.if-not-is_xml.false in
    record {
      utf8 = IsUtf8-past_char _ _ c.in-Some.c held.utf8 parts;
      so_far = rw (chars_past_char _ _ c.in-Some.c held.utf8 parts, yes) at held.so_far;
    }

pub returns : goal.returns
returns c = rw (chars_of_empty _ c.in-None.ensures.steps.0.0) at c.loop-c.invariant.so_far
