use Rattle.std.proofs.Common.{◌∙◌}
use Rattle.std.proofs.lemmas.Result.{err_from_is_err_and}
use Rattle.exi_items.proofs.Pieces.{goes_ends, goes_on}
use Rattle.exi_text.proofs.Codes.{behind_ascii, behind_utf8, goes_no_further, next_code, no_code, run_added, still_whole}
use Rattle.exi_text.proofs.write.put_mixed.Goals as goal

pub split_at-requires : goal.split_at-requires
split_at-requires c = behind_ascii c.loop-others.left.now c.ascii_front.result c.loop-others.invariant.utf8 (rw c.as_bytes.ensures.value at c.ascii_front.ensures.within) (rw c.as_bytes.ensures.value at c.ascii_front.ensures.ascii)

pub returns-in_err-put_code-in-Some-clause-err : goal.returns-in_err-put_code-in-Some-clause-err
returns-in_err-put_code-in-Some-clause-err c =
    let p = err_from_is_err_and c.from_residual-in_err-put_code-in-Some.result c.from_residual-in_err-put_code-in-Some.ensures.1 in
    let whole = rw c.as_bytes.ensures.value at c.ascii_front.ensures.ascii in
    let goes = run_added c.args.align c.ascii_front.result c.loop-others.left.now _ _ _ _ _ _ whole c.as_bytes-in-loop-others.ensures.value c.split_at.ensures.front c.in_ok-octets.ensures.ok c.loop-others.invariant.so_far in
    rw p.1 (goes_no_further _ _ _ _ _ c.in_err-put_code-in-Some.ensures.err goes)

pub returns-in-None-clause-ok : goal.returns-in-None-clause-ok
returns-in-None-clause-ok c =
    let whole = rw c.as_bytes.ensures.value at c.ascii_front.ensures.ascii in
    let goes = run_added c.args.align c.ascii_front.result c.loop-others.left.now _ _ _ _ _ _ whole c.as_bytes-in-loop-others.ensures.value c.split_at.ensures.front c.in_ok-octets.ensures.ok c.loop-others.invariant.so_far in
    goes_ends _ _ _ _ goes (no_code c.args.align c.ascii_front.result c.loop-others.left.now _ (c.chars-others.ensures.rest ∙ c.split_at.ensures.back) c.in-None.ensures.steps.0.0)

pub loop-others-preserved : goal.loop-others-preserved
loop-others-preserved c =
    let whole = rw c.as_bytes.ensures.value at c.ascii_front.ensures.ascii in
    let goes = run_added c.args.align c.ascii_front.result c.loop-others.left.now _ _ _ _ _ _ whole c.as_bytes-in-loop-others.ensures.value c.split_at.ensures.front c.in_ok-octets.ensures.ok c.loop-others.invariant.so_far in
    let utf8 = behind_utf8 c.loop-others.left.now c.ascii_front.result c.loop-others.invariant.utf8 (rw c.as_bytes.ensures.value at c.ascii_front.ensures.within) whole in
    let next = next_code c.args.align c.ascii_front.result c.loop-others.left.now _ _ c.in-Some.c utf8 (c.chars-others.ensures.rest ∙ c.split_at.ensures.back) c.in-Some.ensures.steps.0 in
    record {
      utf8 = c.as_str-left.utf8;
      aligned = still_whole c.args.align _ _ _ (still_whole c.args.align _ _ _ c.loop-others.invariant.aligned c.in_ok-octets.ensures.ok) c.in_ok-put_code-in-Some.ensures.ok;
      so_far = rw c.as_str-left.ensures (goes_on _ _ _ _ _ _ _ goes next c.in_ok-put_code-in-Some.ensures.ok);
    }
