use Rattle.std.proofs.Common.{[], refl, ap, arith}
use Rattle.std.proofs.lemmas.Result.{err_from_is_err_and}
use Rattle.exi_processing.specs.Reading.{Reading, job_of}
use Rattle.exi_processing.proofs.Turning.{came_end, came_entered, came_few, came_first, came_fragment, came_none, came_stop, came_went, front_by, turns_closed, turns_faulted}
use Rattle.exi_reader.proofs.read.read_from.Goals as goal

pub returns-in_default-clause-read : goal.returns-in_default-clause-read
returns-in_default-clause-read g c = ([], front_by (job_of c.args.job.now) c.args.start c.args.limits [] _ refl, g.met.E.EventOut.none c.args.out.now)

pub loop-reader-init : goal.loop-reader-init
loop-reader-init g c = record {
  came = came_first g.E.EventOut.took g.E.EventOut.broke g.met.E.EventOut.none g.met.E.EventOut.more (job_of c.args.job.now) c.args.start c.args.limits c.args.out.now c.args.steps.now c.in-Ok.reader c.in-Ok.ensures.first;
  going = ap (λ (z : Reading). z.waits) c.in-Ok.ensures.first;
  reached = c.in-Ok.ensures.reached;
  within = c.in-Ok.ensures.within;
  same = g.met.E.EventOut.same_now c.args.out.now;
  later = omega arith;
}

pub returns-in_err-come-clause-read : goal.returns-in_err-come-clause-read
returns-in_err-come-clause-read g c =
    let p = err_from_is_err_and c.from_residual.result c.from_residual.ensures.1 in
    rw (p.1, p.2) (came_stop g.E.EventOut.took g.E.EventOut.broke g.met.E.EventOut.none g.met.E.EventOut.more (job_of c.args.job.now) c.args.start c.args.limits c.args.out.now c.args.steps.now c.in_err-come.field-0.0 c.loop-reader.out c.come.new.out c.loop-reader.steps c.come.new.steps c.loop-reader.reader c.come.new.self c.loop-reader.invariant.came c.in_err-come.ensures.turned)

pub returns-in_err-come-clause-same : goal.returns-in_err-come-clause-same
returns-in_err-come-clause-same g c = g.met.E.EventOut.same_then c.args.out.now c.loop-reader.out c.come.new.out c.loop-reader.invariant.same c.come.ensures.same

pub loop-reader-smaller-in-On : goal.loop-reader-smaller-in-On
loop-reader-smaller-in-On g c = omega (arith, c.come.ensures.steps, came_few g.E.EventOut.took g.E.EventOut.broke g.met.E.EventOut.none g.met.E.EventOut.more (job_of c.args.job.now) c.args.start c.args.limits c.args.out.now c.args.steps.now c.loop-reader.out c.loop-reader.steps c.loop-reader.reader c.loop-reader.invariant.came c.loop-reader.invariant.within)

pub loop-reader-preserved-in-On : goal.loop-reader-preserved-in-On
loop-reader-preserved-in-On g c =
    let t = rw c.in-On.is at c.in_ok-come.ensures.turned in
    record {
      came = came_went g.E.EventOut.took g.E.EventOut.broke g.met.E.EventOut.none g.met.E.EventOut.more (job_of c.args.job.now) c.args.start c.args.limits c.args.out.now c.args.steps.now c.loop-reader.out c.come.new.out c.loop-reader.steps c.come.new.steps c.loop-reader.reader c.come.new.self c.loop-reader.invariant.came t c.come.ensures.steps c.come.ensures.setting c.come.ensures.bytes;
      going = t.2;
      reached = rw c.in-On.is at c.in_ok-come.ensures.reached;
      within = c.loop-reader.invariant.within;
      same = g.met.E.EventOut.same_then c.args.out.now c.loop-reader.out c.come.new.out c.loop-reader.invariant.same c.come.ensures.same;
      later = omega (arith, c.loop-reader.invariant.later, c.come.ensures.later);
    }

pub returns-in-Over-clause-read : goal.returns-in-Over-clause-read
returns-in-Over-clause-read g c = came_end g.E.EventOut.took g.E.EventOut.broke g.met.E.EventOut.none g.met.E.EventOut.more (job_of c.args.job.now) c.args.start c.args.limits c.args.out.now c.args.steps.now c.closing.result c.loop-reader.out c.come.new.out c.loop-reader.steps c.come.new.steps c.loop-reader.reader c.closing.new.self c.loop-reader.invariant.came
    (turns_closed g.E.EventOut.took g.E.EventOut.broke c.loop-reader.out c.come.new.out c.closing.result c.loop-reader.reader c.come.new.self c.closing.new.self c.closing.ensures.end (rw c.in-Over.is at c.in_ok-come.ensures.turned)) c.come.ensures.steps

pub returns-in-Over-clause-same : goal.returns-in-Over-clause-same
returns-in-Over-clause-same g c = g.met.E.EventOut.same_then c.args.out.now c.loop-reader.out c.come.new.out c.loop-reader.invariant.same c.come.ensures.same

pub returns-in-Failed-clause-read : goal.returns-in-Failed-clause-read
returns-in-Failed-clause-read g c = came_end g.E.EventOut.took g.E.EventOut.broke g.met.E.EventOut.none g.met.E.EventOut.more (job_of c.args.job.now) c.args.start c.args.limits c.args.out.now c.args.steps.now c.failed.result c.loop-reader.out c.come.new.out c.loop-reader.steps c.come.new.steps c.loop-reader.reader c.failed.new.self c.loop-reader.invariant.came
    (turns_faulted g.E.EventOut.took g.E.EventOut.broke c.loop-reader.out c.come.new.out c.in-Failed.fault c.failed.result c.loop-reader.reader c.come.new.self c.failed.new.self c.failed.ensures.end (rw c.in-Failed.is at c.in_ok-come.ensures.turned)) c.come.ensures.steps

pub returns-in-Failed-clause-same : goal.returns-in-Failed-clause-same
returns-in-Failed-clause-same g c = g.met.E.EventOut.same_then c.args.out.now c.loop-reader.out c.come.new.out c.loop-reader.invariant.same c.come.ensures.same

pub loop-reader-smaller : goal.loop-reader-smaller
loop-reader-smaller g c = omega (arith, c.come.ensures.steps, came_few g.E.EventOut.took g.E.EventOut.broke g.met.E.EventOut.none g.met.E.EventOut.more (job_of c.args.job.now) c.args.start c.args.limits c.args.out.now c.args.steps.now c.loop-reader.out c.loop-reader.steps c.loop-reader.reader c.loop-reader.invariant.came c.loop-reader.invariant.within)

pub loop-reader-preserved : goal.loop-reader-preserved
loop-reader-preserved g c =
    let t = rw c.in-AtFragment.is at c.in_ok-come.ensures.turned in
    record {
      came = came_entered g.E.EventOut.took g.E.EventOut.broke g.met.E.EventOut.none g.met.E.EventOut.more (job_of c.args.job.now) c.args.start c.args.limits c.args.out.now c.args.steps.now c.come.new.out c.come.new.steps c.come.new.self c.enter.new.self (came_fragment g.E.EventOut.took g.E.EventOut.broke g.met.E.EventOut.none g.met.E.EventOut.more (job_of c.args.job.now) c.args.start c.args.limits c.args.out.now c.args.steps.now c.in-AtFragment.field-0 c.loop-reader.out c.come.new.out c.loop-reader.steps c.come.new.steps c.loop-reader.reader c.come.new.self c.loop-reader.invariant.came t c.come.ensures.steps c.come.ensures.setting c.come.ensures.bytes) c.in_ok-enter-in-AtFragment.ensures.same;
      going = ap (λ (z : Reading). z.waits) c.in_ok-enter-in-AtFragment.ensures.same;
      reached = c.in_ok-enter-in-AtFragment.ensures.reached;
      within = c.loop-reader.invariant.within;
      same = g.met.E.EventOut.same_then c.args.out.now c.loop-reader.out c.come.new.out c.loop-reader.invariant.same c.come.ensures.same;
      later = omega (arith, c.loop-reader.invariant.later, c.come.ensures.later);
    }

pub returns-in_err-enter-in-AtFragment-clause-read : goal.returns-in_err-enter-in-AtFragment-clause-read
returns-in_err-enter-in-AtFragment-clause-read g c =
    let t = rw c.in-AtFragment.is at c.in_ok-come.ensures.turned in
    let p = err_from_is_err_and c.from_residual-in_err-enter-in-AtFragment.result c.from_residual-in_err-enter-in-AtFragment.ensures.1 in
    rw (p.1, p.2) (came_none g.E.EventOut.took g.E.EventOut.broke g.met.E.EventOut.none g.met.E.EventOut.more (job_of c.args.job.now) c.args.start c.args.limits c.args.out.now c.args.steps.now c.come.new.out c.come.new.steps c.come.new.steps c.come.new.self (came_fragment g.E.EventOut.took g.E.EventOut.broke g.met.E.EventOut.none g.met.E.EventOut.more (job_of c.args.job.now) c.args.start c.args.limits c.args.out.now c.args.steps.now c.in-AtFragment.field-0 c.loop-reader.out c.come.new.out c.loop-reader.steps c.come.new.steps c.loop-reader.reader c.come.new.self c.loop-reader.invariant.came t c.come.ensures.steps c.come.ensures.setting c.come.ensures.bytes))

pub returns-in_err-enter-in-AtFragment-clause-same : goal.returns-in_err-enter-in-AtFragment-clause-same
returns-in_err-enter-in-AtFragment-clause-same g c = g.met.E.EventOut.same_then c.args.out.now c.loop-reader.out c.come.new.out c.loop-reader.invariant.same c.come.ensures.same
