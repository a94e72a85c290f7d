use Rattle.std.proofs.Common.{◌≡◌, ◌+◌, ◌<◌, ◌≤◌, ◌∙◌, ap, arith, length, suc}
use Rattle.std.proofs.lemmas.Result.{err_from_is_err_and}
use Rattle.exi_normal.specs.Normals.{worked}
use Rattle.exi_normal.specs.Steps.{states_of}
use Rattle.exi_normal.specs.Working.{work_of}
use Rattle.exi_normal.proofs.Topmost.{behind_next, run_end, run_many, run_next, run_same, run_start, run_stops}
use Rattle.exi_normal.proofs.work.Found.run.Goals as goal
use Rattle.exi_normal.proofs.work.Found.run.Goals.{then-count-most-via-then-count-most, then-count-most-via-else-count-most+then-as_slice-count}

pub overflow_add-turn-end : goal.overflow_add-turn-end
overflow_add-turn-end c = let f = c.ranges.most.fits in let e = c.from-turn-end.ensures in omega (arith, f, e)

pub loop-turn-init : goal.loop-turn-init
loop-turn-init c = (c.requires.behind, run_start (states_of c.args.numbered.now) c.args.most (work_of c.args.self.now))

pub returns-then-count-most-clause-behind : goal.returns-then-count-most-clause-behind
returns-then-count-most-clause-behind c = c.loop-turn.invariant.0

pub returns-then-count-most-clause-work : goal.returns-then-count-most-clause-work
returns-then-count-most-clause-work c =
    let states = states_of c.args.numbered.now in
    let all = worked states c.args.most (suc c.args.most) (work_of c.args.self.now) in
    elim c.then-count-most.branch [
      | then-count-most-via-then-count-most w ↦
          let many : c.args.most < length c.loop-turn.self.lists = omega (arith, w.if-count-most.true, c.count-count.ensures) in
          run_many states c.args.most _ c.loop-turn.self all many c.loop-turn.invariant.1
      | then-count-most-via-else-count-most+then-as_slice-count w ↦
          let same : length c.loop-turn.self.states ≡ length c.loop-turn.self.lists = let n = ap length w.as_slice.ensures in omega (arith, w.if-as_slice-count.true, n, c.count-count.ensures) in
          run_same states c.args.most _ c.loop-turn.self all same c.loop-turn.invariant.1
    ]

pub next-requires-clause-numbered : goal.next-requires-clause-numbered
next-requires-clause-numbered c = c.requires.numbered

pub next-requires-clause-behind : goal.next-requires-clause-behind
next-requires-clause-behind c = let n = ap length c.as_slice.ensures in omega (arith, c.loop-turn.invariant.0, c.if-as_slice-count.false, n, c.count-count.ensures)

pub next-requires-clause-few : goal.next-requires-clause-few
next-requires-clause-few c = omega (arith, c.if-count-most.false, c.count-count.ensures)

pub returns-in_err-next-clause-behind : goal.returns-in_err-next-clause-behind
returns-in_err-next-clause-behind c =
    let p = err_from_is_err_and c.from_residual.result c.from_residual.ensures.1 in rw p.1 tt

pub returns-in_err-next-clause-work : goal.returns-in_err-next-clause-work
returns-in_err-next-clause-work c =
    let p = err_from_is_err_and c.from_residual.result c.from_residual.ensures.1 in rw p.1 tt

pub returns-in_err-next-clause-stop : goal.returns-in_err-next-clause-stop
returns-in_err-next-clause-stop c =
    let p = err_from_is_err_and c.from_residual.result c.from_residual.ensures.1 in
    let states = states_of c.args.numbered.now in
    let all = worked states c.args.most (suc c.args.most) (work_of c.args.self.now) in
    let n = ap length c.as_slice.ensures in
    let less : c.loop-turn._turn < c.args.most + 1 = omega (arith, c.loop-turn-test.true, c.from-turn-end.ensures) in
    let few : length c.loop-turn.self.lists ≤ c.args.most = omega (arith, c.if-count-most.false, c.count-count.ensures) in
    let behind : length c.loop-turn.self.states < length c.loop-turn.self.lists = omega (arith, c.loop-turn.invariant.0, c.if-as_slice-count.false, n, c.count-count.ensures) in
    rw (p.1, p.2) (run_stops states c.args.most c.loop-turn._turn c.loop-turn.self all c.in_err-next.field-0.0 less few behind c.loop-turn.invariant.1 c.in_err-next.ensures.stop)

pub loop-turn-preserved : goal.loop-turn-preserved
loop-turn-preserved c =
    let states = states_of c.args.numbered.now in
    let all = worked states c.args.most (suc c.args.most) (work_of c.args.self.now) in
    let n = ap length c.as_slice.ensures in
    let less : c.loop-turn._turn < c.args.most + 1 = omega (arith, c.loop-turn-test.true, c.from-turn-end.ensures) in
    let few : length c.loop-turn.self.lists ≤ c.args.most = omega (arith, c.if-count-most.false, c.count-count.ensures) in
    let behind : length c.loop-turn.self.states < length c.loop-turn.self.lists = omega (arith, c.loop-turn.invariant.0, c.if-as_slice-count.false, n, c.count-count.ensures) in (
      behind_next states c.loop-turn.self c.next.new.self behind c.in_ok-next.ensures.work,
      run_next states c.args.most c.loop-turn._turn c.loop-turn.self c.next.new.self all less few behind c.in_ok-next.ensures.work c.loop-turn.invariant.1,
    )

pub returns-clause-behind : goal.returns-clause-behind
returns-clause-behind c = c.loop-turn.invariant.0

pub returns-clause-work : goal.returns-clause-work
returns-clause-work c =
    let states = states_of c.args.numbered.now in
    let le : c.args.most + 1 ≤ c.loop-turn._turn = omega (arith, c.loop-turn-test.false, c.from-turn-end.ensures) in
    run_end states c.args.most c.loop-turn._turn c.loop-turn.self (worked states c.args.most (suc c.args.most) (work_of c.args.self.now)) le c.loop-turn.invariant.1
