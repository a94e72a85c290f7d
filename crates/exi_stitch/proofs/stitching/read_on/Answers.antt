use Rattle.std.proofs.Common.{[], refl, ap, arith, ◌∙◌}
use Rattle.std.proofs.lemmas.Result.{err_from_is_err_and}
use Rattle.exi_processing.specs.Reading.{Reading, job_of}
use Rattle.exi_stitch.proofs.Beside.{front_none, stitched_end, stitched_few, stitched_first, stitched_met, stitched_over, stitched_went, stopped_there, stopped_turn}
use Rattle.exi_stitch.proofs.stitching.read_on.Goals as goal

pub returns-in_default-clause-read : goal.returns-in_default-clause-read
returns-in_default-clause-read g c = ([], front_none (job_of c.args.job.now) c.args.job.now.limits, g.met.E.EventOut.none c.args.out.now)

pub returns-in_default-clause-asked : goal.returns-in_default-clause-asked
returns-in_default-clause-asked g c = record {
  stages = [];
  reached = _;
  stitches = refl;
  last = [];
  one_more = tt;
  asked = refl;
  steps = omega arith;
}

pub loop-reader-init : goal.loop-reader-init
loop-reader-init g c = record {
  to = stitched_first g.E.EventOut.took g.E.EventOut.broke g.met.E.EventOut.none g.met.E.EventOut.more g.D.Desk.arrives g.D.Desk.returns (job_of c.args.job.now) c.args.job.now.limits c.args.out.now c.args.desk.now c.args.steps.now c.in-Ok.reader c.in-Ok.ensures.first c.args.used.now.items c.requires.none;
  going = ap (λ (z : Reading). z.waits) c.in-Ok.ensures.first;
  reached = c.in-Ok.ensures.reached;
  within = c.in-Ok.ensures.within;
  job = c.requires.desk;
  sound = c.requires.sound;
  desk = g.met.D.Desk.same_now c.args.desk.now;
  same = g.met.E.EventOut.same_now c.args.out.now;
  later = omega arith;
}

pub returns-in_err-turn-clause-read : goal.returns-in_err-turn-clause-read
returns-in_err-turn-clause-read g c =
    let p = err_from_is_err_and c.from_residual.result c.from_residual.ensures.1 in
    rw (p.1, p.2) (stopped_turn g.E.EventOut.took g.E.EventOut.broke g.met.E.EventOut.none g.met.E.EventOut.more g.D.Desk.arrives g.D.Desk.returns (job_of c.args.job.now) c.args.job.now.limits c.args.out.now c.args.desk.now c.args.steps.now c.in_err-turn.field-0.0 c.loop-reader.out c.turn.new.out c.loop-reader.desk c.loop-reader.steps c.turn.new.steps c.loop-reader.used.items c.loop-reader.reader c.turn.new.self c.loop-reader.invariant.to c.loop-reader.invariant.reached c.in_err-turn.ensures.turned c.turn.ensures.steps).taken

pub returns-in_err-turn-clause-asked : goal.returns-in_err-turn-clause-asked
returns-in_err-turn-clause-asked g c =
    rw (err_from_is_err_and c.from_residual.result c.from_residual.ensures.1).1 (stopped_turn g.E.EventOut.took g.E.EventOut.broke g.met.E.EventOut.none g.met.E.EventOut.more g.D.Desk.arrives g.D.Desk.returns (job_of c.args.job.now) c.args.job.now.limits c.args.out.now c.args.desk.now c.args.steps.now c.in_err-turn.field-0.0 c.loop-reader.out c.turn.new.out c.loop-reader.desk c.loop-reader.steps c.turn.new.steps c.loop-reader.used.items c.loop-reader.reader c.turn.new.self c.loop-reader.invariant.to c.loop-reader.invariant.reached c.in_err-turn.ensures.turned c.turn.ensures.steps).asks

pub returns-in_err-turn-clause-same : goal.returns-in_err-turn-clause-same
returns-in_err-turn-clause-same g c = g.met.E.EventOut.same_then c.args.out.now c.loop-reader.out c.turn.new.out c.loop-reader.invariant.same c.turn.ensures.same

pub loop-reader-smaller-in-Went : goal.loop-reader-smaller-in-Went
loop-reader-smaller-in-Went g c = omega (arith, c.turn.ensures.steps, stitched_few g.E.EventOut.took g.E.EventOut.broke g.met.E.EventOut.none g.met.E.EventOut.more g.D.Desk.arrives g.D.Desk.returns (job_of c.args.job.now) c.args.job.now.limits c.args.out.now c.args.desk.now c.args.steps.now c.loop-reader.out c.loop-reader.desk c.loop-reader.steps c.loop-reader.used.items c.loop-reader.reader c.loop-reader.invariant.to c.loop-reader.invariant.reached c.loop-reader.invariant.within)

pub loop-reader-preserved-in-Went : goal.loop-reader-preserved-in-Went
loop-reader-preserved-in-Went g c =
    let t = rw c.in-Went.is at c.in_ok-turn.ensures.turned in
    record {
      to = stitched_went g.E.EventOut.took g.E.EventOut.broke g.met.E.EventOut.none g.met.E.EventOut.more g.D.Desk.arrives g.D.Desk.returns (job_of c.args.job.now) c.args.job.now.limits c.args.out.now c.args.desk.now c.args.steps.now c.loop-reader.out c.turn.new.out c.loop-reader.desk c.loop-reader.steps c.turn.new.steps c.loop-reader.used.items c.loop-reader.reader c.turn.new.self c.loop-reader.invariant.to t c.turn.ensures.steps c.turn.ensures.setting c.turn.ensures.bytes;
      going = t.2;
      reached = rw c.in-Went.is at c.in_ok-turn.ensures.reached;
      within = c.loop-reader.invariant.within;
      job = c.loop-reader.invariant.job;
      sound = c.loop-reader.invariant.sound;
      desk = c.loop-reader.invariant.desk;
      same = g.met.E.EventOut.same_then c.args.out.now c.loop-reader.out c.turn.new.out c.loop-reader.invariant.same c.turn.ensures.same;
      later = omega (arith, c.loop-reader.invariant.later, c.turn.ensures.later);
    }

pub returns-in_err-end-in-AtFragment-clause-read : goal.returns-in_err-end-in-AtFragment-clause-read
returns-in_err-end-in-AtFragment-clause-read g c =
    let t = rw c.in-AtFragment.is at c.in_ok-turn.ensures.turned in
    let p = err_from_is_err_and c.from_residual-in_err-end-in-AtFragment.result c.from_residual-in_err-end-in-AtFragment.ensures.1 in
    rw (p.1, p.2) (stopped_there g.E.EventOut.took g.E.EventOut.broke g.met.E.EventOut.none g.met.E.EventOut.more g.D.Desk.arrives g.D.Desk.returns (job_of c.args.job.now) c.args.job.now.limits c.args.out.now c.args.desk.now c.args.steps.now c.in-AtFragment.byte c.loop-reader.out c.turn.new.out c.meet.new.out c.loop-reader.desk c.meet.new.desk c.loop-reader.steps c.turn.new.steps c.loop-reader.used.items c.meet.new.used.items c.loop-reader.reader c.turn.new.self c.meet.new.reader c.loop-reader.invariant.to t c.turn.ensures.steps c.turn.ensures.setting c.turn.ensures.bytes c.in_err-end-in-AtFragment.field-0.0 c.loop-reader.invariant.reached c.in_err-end-in-AtFragment.ensures.meets).taken

pub returns-in_err-end-in-AtFragment-clause-asked : goal.returns-in_err-end-in-AtFragment-clause-asked
returns-in_err-end-in-AtFragment-clause-asked g c =
    let t = rw c.in-AtFragment.is at c.in_ok-turn.ensures.turned in
    rw (err_from_is_err_and c.from_residual-in_err-end-in-AtFragment.result c.from_residual-in_err-end-in-AtFragment.ensures.1).1 (stopped_there g.E.EventOut.took g.E.EventOut.broke g.met.E.EventOut.none g.met.E.EventOut.more g.D.Desk.arrives g.D.Desk.returns (job_of c.args.job.now) c.args.job.now.limits c.args.out.now c.args.desk.now c.args.steps.now c.in-AtFragment.byte c.loop-reader.out c.turn.new.out c.meet.new.out c.loop-reader.desk c.meet.new.desk c.loop-reader.steps c.turn.new.steps c.loop-reader.used.items c.meet.new.used.items c.loop-reader.reader c.turn.new.self c.meet.new.reader c.loop-reader.invariant.to t c.turn.ensures.steps c.turn.ensures.setting c.turn.ensures.bytes c.in_err-end-in-AtFragment.field-0.0 c.loop-reader.invariant.reached c.in_err-end-in-AtFragment.ensures.meets).asks

pub returns-in_err-end-in-AtFragment-clause-desk : goal.returns-in_err-end-in-AtFragment-clause-desk
returns-in_err-end-in-AtFragment-clause-desk g c = g.met.D.Desk.same_then c.args.desk.now c.loop-reader.desk c.meet.new.desk c.loop-reader.invariant.desk c.meet.ensures.desk

pub returns-in_err-end-in-AtFragment-clause-same : goal.returns-in_err-end-in-AtFragment-clause-same
returns-in_err-end-in-AtFragment-clause-same g c = g.met.E.EventOut.same_then c.args.out.now c.turn.new.out c.meet.new.out (g.met.E.EventOut.same_then c.args.out.now c.loop-reader.out c.turn.new.out c.loop-reader.invariant.same c.turn.ensures.same) c.meet.ensures.same

pub returns-in-Some-clause-read : goal.returns-in-Some-clause-read
returns-in-Some-clause-read g c =
    let t = rw c.in-AtFragment.is at c.in_ok-turn.ensures.turned in
    let m = rw c.in-Some.is at c.in_ok-end-in-AtFragment.ensures.meets in
    (stitched_end g.E.EventOut.took g.E.EventOut.broke g.met.E.EventOut.none g.met.E.EventOut.more g.D.Desk.arrives g.D.Desk.returns (job_of c.args.job.now) c.args.job.now.limits c.args.out.now c.args.desk.now c.args.steps.now c.in-AtFragment.byte c.loop-reader.out c.turn.new.out c.meet.new.out c.loop-reader.desk c.meet.new.desk c.loop-reader.steps c.turn.new.steps c.loop-reader.used.items c.meet.new.used.items c.loop-reader.reader c.turn.new.self c.meet.new.reader c.loop-reader.invariant.to t c.turn.ensures.steps c.turn.ensures.setting c.turn.ensures.bytes c.in-Some.end c.loop-reader.invariant.reached m).sequence

pub returns-in-Some-clause-asked : goal.returns-in-Some-clause-asked
returns-in-Some-clause-asked g c =
    let t = rw c.in-AtFragment.is at c.in_ok-turn.ensures.turned in
    let m = rw c.in-Some.is at c.in_ok-end-in-AtFragment.ensures.meets in
    (stitched_end g.E.EventOut.took g.E.EventOut.broke g.met.E.EventOut.none g.met.E.EventOut.more g.D.Desk.arrives g.D.Desk.returns (job_of c.args.job.now) c.args.job.now.limits c.args.out.now c.args.desk.now c.args.steps.now c.in-AtFragment.byte c.loop-reader.out c.turn.new.out c.meet.new.out c.loop-reader.desk c.meet.new.desk c.loop-reader.steps c.turn.new.steps c.loop-reader.used.items c.meet.new.used.items c.loop-reader.reader c.turn.new.self c.meet.new.reader c.loop-reader.invariant.to t c.turn.ensures.steps c.turn.ensures.setting c.turn.ensures.bytes c.in-Some.end c.loop-reader.invariant.reached m).asks

pub returns-in-Some-clause-desk : goal.returns-in-Some-clause-desk
returns-in-Some-clause-desk g c = g.met.D.Desk.same_then c.args.desk.now c.loop-reader.desk c.meet.new.desk c.loop-reader.invariant.desk c.meet.ensures.desk

pub returns-in-Some-clause-same : goal.returns-in-Some-clause-same
returns-in-Some-clause-same g c = g.met.E.EventOut.same_then c.args.out.now c.turn.new.out c.meet.new.out (g.met.E.EventOut.same_then c.args.out.now c.loop-reader.out c.turn.new.out c.loop-reader.invariant.same c.turn.ensures.same) c.meet.ensures.same

pub loop-reader-smaller : goal.loop-reader-smaller
loop-reader-smaller g c = omega (arith, c.turn.ensures.steps, stitched_few g.E.EventOut.took g.E.EventOut.broke g.met.E.EventOut.none g.met.E.EventOut.more g.D.Desk.arrives g.D.Desk.returns (job_of c.args.job.now) c.args.job.now.limits c.args.out.now c.args.desk.now c.args.steps.now c.loop-reader.out c.loop-reader.desk c.loop-reader.steps c.loop-reader.used.items c.loop-reader.reader c.loop-reader.invariant.to c.loop-reader.invariant.reached c.loop-reader.invariant.within)

pub loop-reader-preserved : goal.loop-reader-preserved
loop-reader-preserved g c =
    let t = rw c.in-AtFragment.is at c.in_ok-turn.ensures.turned in
    let m = rw c.in_default-2.is at c.in_ok-end-in-AtFragment.ensures.meets in
    let r = rw c.in_default-2.is at c.in_ok-end-in-AtFragment.ensures.reached in
    record {
      to = stitched_met g.E.EventOut.took g.E.EventOut.broke g.met.E.EventOut.none g.met.E.EventOut.more g.D.Desk.arrives g.D.Desk.returns (job_of c.args.job.now) c.args.job.now.limits c.args.out.now c.args.desk.now c.args.steps.now c.in-AtFragment.byte c.loop-reader.out c.turn.new.out c.meet.new.out c.loop-reader.desk c.meet.new.desk c.loop-reader.steps c.turn.new.steps c.loop-reader.used.items c.meet.new.used.items c.loop-reader.reader c.turn.new.self c.meet.new.reader c.loop-reader.invariant.to t c.turn.ensures.steps c.turn.ensures.setting c.turn.ensures.bytes m c.meet.ensures.setting c.meet.ensures.bytes;
      going = r.1;
      reached = r.0;
      within = c.loop-reader.invariant.within;
      job = c.meet.ensures.job ∙ c.loop-reader.invariant.job;
      sound = c.meet.ensures.sound;
      desk = g.met.D.Desk.same_then c.args.desk.now c.loop-reader.desk c.meet.new.desk c.loop-reader.invariant.desk c.meet.ensures.desk;
      same = g.met.E.EventOut.same_then c.args.out.now c.turn.new.out c.meet.new.out (g.met.E.EventOut.same_then c.args.out.now c.loop-reader.out c.turn.new.out c.loop-reader.invariant.same c.turn.ensures.same) c.meet.ensures.same;
      later = omega (arith, c.loop-reader.invariant.later, c.turn.ensures.later, c.meet.ensures.later);
    }

pub returns-in-Ended-clause-read : goal.returns-in-Ended-clause-read
returns-in-Ended-clause-read g c = (stitched_over g.E.EventOut.took g.E.EventOut.broke g.met.E.EventOut.none g.met.E.EventOut.more g.D.Desk.arrives g.D.Desk.returns (job_of c.args.job.now) c.args.job.now.limits c.args.out.now c.args.desk.now c.args.steps.now c.in-Ended.end c.loop-reader.out c.turn.new.out c.loop-reader.desk c.loop-reader.steps c.turn.new.steps c.loop-reader.used.items c.loop-reader.reader c.turn.new.self c.loop-reader.invariant.to c.loop-reader.invariant.reached (rw c.in-Ended.is at c.in_ok-turn.ensures.turned) c.turn.ensures.steps).sequence

pub returns-in-Ended-clause-asked : goal.returns-in-Ended-clause-asked
returns-in-Ended-clause-asked g c = (stitched_over g.E.EventOut.took g.E.EventOut.broke g.met.E.EventOut.none g.met.E.EventOut.more g.D.Desk.arrives g.D.Desk.returns (job_of c.args.job.now) c.args.job.now.limits c.args.out.now c.args.desk.now c.args.steps.now c.in-Ended.end c.loop-reader.out c.turn.new.out c.loop-reader.desk c.loop-reader.steps c.turn.new.steps c.loop-reader.used.items c.loop-reader.reader c.turn.new.self c.loop-reader.invariant.to c.loop-reader.invariant.reached (rw c.in-Ended.is at c.in_ok-turn.ensures.turned) c.turn.ensures.steps).asks

pub returns-in-Ended-clause-same : goal.returns-in-Ended-clause-same
returns-in-Ended-clause-same g c = g.met.E.EventOut.same_then c.args.out.now c.loop-reader.out c.turn.new.out c.loop-reader.invariant.same c.turn.ensures.same
