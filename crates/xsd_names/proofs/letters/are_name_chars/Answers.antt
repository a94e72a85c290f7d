use Rattle.std.proofs.Common.{ap, ◌∙◌, arith}
use Rattle.std.specs.List.{list_all}
use Rattle.xsd_names.specs.Names.{is_name_char}
use Rattle.xsd_names.proofs.Lists.{all_ended, all_failed, all_passed}
use Rattle.xsd_names.proofs.letters.are_name_chars.Goals as goal

pub returns-then-not-is_name_char : goal.returns-then-not-is_name_char
returns-then-not-is_name_char c = all_failed c.c-item.result is_name_char c.args.letters.now c.loop-c.c-index c.is_name_char.result (list_all is_name_char c.args.letters.now) c.loop-c-test.true c.if-not-is_name_char.true (c.is_name_char.ensures ∙ ap is_name_char c.c-item.is) c.loop-c.invariant

pub loop-c-preserved : goal.loop-c-preserved
loop-c-preserved c = all_passed c.c-item.result is_name_char c.args.letters.now c.loop-c.c-index c.is_name_char.result (list_all is_name_char c.args.letters.now) c.loop-c-test.true c.if-not-is_name_char.false (c.is_name_char.ensures ∙ ap is_name_char c.c-item.is) c.loop-c.invariant

pub returns : goal.returns
returns c = all_ended is_name_char c.args.letters.now c.loop-c.c-index (list_all is_name_char c.args.letters.now) (omega arith) c.loop-c.invariant
