use Rattle.std.proofs.Common.{◌≡◌, sym, ◌∙◌, rules, arith}
use Rattle.std.proofs.lemmas.Str.{IsUtf8-past_char, chars_past_char}
use Rattle.exi_names.proofs.Texts.{chars_of_empty}
use Rattle.exi_words.proofs.Few.{few_more}
use Rattle.exi_words.proofs.values.is_schema_name.Goals as goal

pub returns-then-left-eq0 : goal.returns-then-left-eq0
returns-then-left-eq0 c =
    let held = c.loop-c.invariant in
    let none : c.loop-c.left ≡ 0 = search rules in
    rw (chars_past_char _ _ c.in-Some.c held.utf8 c.in-Some.ensures.steps.0, none) at held.so_far

pub returns-then-not-is_xml : goal.returns-then-not-is_xml
returns-then-not-is_xml c =
    let held = c.loop-c.invariant in
    let no = sym c.is_xml.ensures ∙ c.if-not-is_xml.true in
    rw (chars_past_char _ _ c.in-Some.c held.utf8 c.in-Some.ensures.steps.0, few_more c.loop-c.left c.in-Some.c _ (omega arith), no) at held.so_far

pub loop-c-preserved : goal.loop-c-preserved
loop-c-preserved c =
    let held = c.loop-c.invariant in
    let parts = c.in-Some.ensures.steps.0 in
    let yes = sym c.is_xml.ensures ∙ c.if-not-is_xml.false in
    record {
      utf8 = IsUtf8-past_char _ _ c.in-Some.c held.utf8 parts;
      so_far = rw (chars_past_char _ _ c.in-Some.c held.utf8 parts, few_more c.loop-c.left c.in-Some.c _ (omega arith), yes) at held.so_far;
    }

pub returns : goal.returns
returns c = rw (chars_of_empty _ c.in-None.ensures.steps.0.0) at c.loop-c.invariant.so_far
