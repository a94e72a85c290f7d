use Rattle.std.proofs.Common.{◌+◌, arith}
use Rattle.exi_evtext.specs.Plain.{is_inside_run}
use Rattle.exi_evtext.proofs.Lanes.{pass_on, run_is_width}
use Rattle.exi_evtext.proofs.run.run_width.Goals as goal

pub returns-then-run-lt-WIDE-clause-width : goal.returns-then-run-lt-WIDE-clause-width
returns-then-run-lt-WIDE-clause-width c =
    let bytes = c.args.bytes.now in
    let done = c.loop-done.done in
    let end = done + c.run_lanes-run.result in
    let short = c.if-run-lt-WIDE.true in
    let room = c.loop-done-test.true in
    run_is_width bytes end (record {
      within = omega arith;
      pass = pass_on is_inside_run bytes done end c.loop-done.invariant.1 c.run_lanes-run.ensures.0.1;
      stops = λ _. c.run_lanes-run.ensures.1 short;
    })

pub returns-clause-width : goal.returns-clause-width
returns-clause-width c = run_is_width c.args.bytes.now c.run_end.result c.run_end.ensures
