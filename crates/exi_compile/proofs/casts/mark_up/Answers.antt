use Rattle.std.proofs.Common.{◌≡◌, ◌+◌, ◌-◌, suc, length, arith}
use Rattle.exi_compile.proofs.Marks.{met_mark, no_mark, past_mark, seen_mark, went_up}
use Rattle.exi_compile.proofs.casts.mark_up.Goals as goal
use Rattle.exi_compile.proofs.casts.mark_up.Goals.{then-index-marks-via-then-index-marks, then-index-marks-via-else-index-marks+then-marks-index}

pub returns-then-index-marks : goal.returns-then-index-marks
returns-then-index-marks c = elim c.then-index-marks.branch [
  | then-index-marks-via-then-index-marks w ↦
      met_mark (length c.args.types.now - c.loop.counter) c.args.types.now c.loop.up c.in-Some.place c.loop.marks _ c.in-Some.is (past_mark c.loop.marks c.in-Some.place w.if-index-marks.true) c.loop.invariant
  | then-index-marks-via-else-index-marks+then-marks-index w ↦
      met_mark (length c.args.types.now - c.loop.counter) c.args.types.now c.loop.up c.in-Some.place c.loop.marks _ c.in-Some.is (seen_mark c.loop.marks c.in-Some.place w.if-marks-index.true) c.loop.invariant
]

pub loop-preserved : goal.loop-preserved
loop-preserved c =
    let one_less : length c.args.types.now - c.loop.counter ≡ suc (length c.args.types.now - (c.loop.counter + 1)) = omega (arith, c.loop-test.true) in
    went_up (length c.args.types.now - c.loop.counter) (length c.args.types.now - (c.loop.counter + 1)) c.args.types.now c.loop.up c.base_of-up.result c.in-Some.place c.loop.marks _ one_less c.in-Some.is c.base_of-up.ensures
    (no_mark c.loop.marks c.in-Some.place c.if-index-marks.false c.if-marks-index.false) c.loop.invariant
