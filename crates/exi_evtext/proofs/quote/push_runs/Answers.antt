use Rattle.std.proofs.Common.{◌≡◌, ◌<◌, ◌+◌, ◌++◌, ℕ, List, length, sym, ap, ◌∙◌, arith}
use Rattle.std.specs.Prelude.{slice_range, slice_index, string_bytes}
use Rattle.std.proofs.lemmas.Str.{IsCharBoundary-after_ascii}
use Rattle.exi_evtext.proofs.Holds.{kept_both, kept_by}
use Rattle.exi_evtext.proofs.Escapes.{escape_step, plain_join, plain_more}
use Rattle.exi_evtext.proofs.quote.push_runs.Goals.{in-Some+in_ok-push_str+in_ok-push_str-2, in_default}
use Rattle.exi_evtext.proofs.quote.push_runs.Goals as goal

pub loop-place-preserved : goal.loop-place-preserved
loop-place-preserved c =
    let s = c.as_bytes-bytes.result.now in
    let same = c.as_bytes-bytes.ensures.value in
    let start = c.loop-place.start in
    let place = c.loop-place.place in
    let out = string_bytes c.loop-place.out in
    let inv = c.loop-place.invariant in
    let lt : place < length s = c.loop-place-test.true in
    let end = c.run_end-place-in-loop-place.result in
    let run = c.run_end-place-in-loop-place.ensures in
    elim c.match-escape.branch [
      | in-Some+in_ok-push_str+in_ok-push_str-2 w ↦
          let range = slice_range s start place in
          let mark = w.in-Some.escape.now in
          let mid = string_bytes w.push_str.new.self in
          let new = string_bytes w.push_str-in-Some.new.self in
          let one : mid ≡ out ++ range = w.in_ok-push_str.ensures.bytes ∙ ap (λ (x : List ℕ). out ++ x) (w.range.ensures.value ∙ ap (λ (x : List ℕ). slice_range x start place) (sym same)) in
          let two : new ≡ mid ++ mark = w.in_ok-push_str-2.ensures.bytes in
          let inside : place < length c.args.text.now = rw (← same) lt in
          let low : slice_index c.args.text.now place < 128 = rw (← same) w.in-Some.ensures.ascii in
          rw (w.start-is, w.out-is) (record {
            behind = run.behind;
            within = run.within;
            boundary = λ pos. IsCharBoundary-after_ascii c.args.text.now place c.utf8.text inside low;
            plain = run.plain;
            done = escape_step s out mid new _ mark start place inv.behind lt inv.plain inv.done one two w.in-Some.ensures.text;
            kept = kept_both _ mid new (kept_both _ out mid inv.kept (kept_by out range mid one)) (kept_by mid mark new two);
          })
      | in_default w ↦
          rw (w.start-is, w.out-is) (record {
            behind = omega (arith, inv.behind, run.behind);
            within = run.within;
            boundary = inv.boundary;
            plain = plain_join s start (place + 1) end (omega (arith, inv.behind)) run.behind (plain_more s start place inv.behind lt inv.plain w.in_default.ensures.text) run.plain;
            done = inv.done;
            kept = inv.kept;
          })
    ]
