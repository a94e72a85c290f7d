use Rattle.std.proofs.Common.{option_copied}
use Rattle.std.proofs.lemmas.Result.{err_from_is_err_and}
use Rattle.std.proofs.lemmas.Str.{IsUtf8-past_char, chars_past_char}
use Rattle.exi_names.proofs.Texts.{chars_of_empty}
use Rattle.exi_items.proofs.Pieces.{goes_ends, goes_on, goes_stops}
use Rattle.exi_text.proofs.Sets.{next_chars, no_chars}
use Rattle.exi_text.proofs.write.put_chars.Goals as goal

pub loop-c-preserved : goal.loop-c-preserved
loop-c-preserved c =
    let parts = c.in-Some.ensures.steps.0 in
    let next = next_chars (option_copied c.args.set) c.args.align _ _ c.in-Some.c (chars_past_char _ _ c.in-Some.c c.loop-c.invariant.utf8 parts) in
    record {
      utf8 = IsUtf8-past_char _ _ c.in-Some.c c.loop-c.invariant.utf8 parts;
      aligned = c.in_ok-put_char.ensures.aligned;
      so_far = goes_on _ _ _ _ _ _ _ c.loop-c.invariant.so_far next c.in_ok-put_char.ensures.ok;
    }

pub returns-in_err-put_char-clause-err : goal.returns-in_err-put_char-clause-err
returns-in_err-put_char-clause-err c =
    let p = err_from_is_err_and c.from_residual.result c.from_residual.ensures.1 in
    let next = next_chars (option_copied c.args.set) c.args.align _ _ c.in-Some.c (chars_past_char _ _ c.in-Some.c c.loop-c.invariant.utf8 c.in-Some.ensures.steps.0) in
    rw p.1 (goes_stops _ _ _ _ _ _ _ c.loop-c.invariant.so_far next c.in_err-put_char.ensures.err)

pub returns-clause-ok : goal.returns-clause-ok
returns-clause-ok c = goes_ends _ _ _ _ c.loop-c.invariant.so_far (no_chars (option_copied c.args.set) c.args.align _ (chars_of_empty _ c.in-None.ensures.steps.0.0))
