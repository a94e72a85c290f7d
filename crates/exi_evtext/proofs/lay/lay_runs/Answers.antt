use Rattle.std.proofs.Common.{◌-◌, length, take, drop, get_or, refl, inl, inr, ◌∙◌, arith}
use Rattle.std.proofs.lemmas.Bool.{cases_lt}
use Rattle.std.proofs.lemmas.List.{length-drop, length-take-le}
use Rattle.exi_evtext.specs.Lines.{escaped}
use Rattle.exi_evtext.proofs.Escapes.{escape_step}
use Rattle.exi_evtext.proofs.lay.lay_runs.Goals as goal

pub loop-done-preserved : goal.loop-done-preserved
loop-done-preserved c =
    let s = c.args.bytes.now in
    let start = c.loop-done.done in
    let stop = c.run_end-stop.result in
    let run = c.run_end-stop.ensures in
    let inv = c.loop-done.invariant in
    let one = c.lay_bytes-end.ensures in
    let two = c.lay_escaped-end.ensures in
    let width = length-take-le (stop - start) (drop start s) (omega (arith, length-drop start s, run.within)) in
    elim (cases_lt stop (length s)) [
      | inl lt ↦ record {
        within = omega (arith, lt);
        room = omega (arith, lt, width, one.behind, two.within.1, inv.room, run.behind);
        len = two.len ∙ one.len ∙ inv.len;
        done = escape_step s (take c.loop-done.end c.loop-done.room) (take c.lay_bytes-end.result c.lay_bytes-end.new.room) (take c.lay_escaped-end.result c.lay_escaped-end.new.room) _ (escaped (get_or s stop 0)) start stop run.behind lt run.plain inv.done one.laid two.laid refl;
      }
      | inr late ↦ absurd (c.if-stop-bytes.false (omega (arith, late, run.within)))
    ]
