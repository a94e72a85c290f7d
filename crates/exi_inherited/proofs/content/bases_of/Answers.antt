use Rattle.std.proofs.Common.{◌<◌, ◌≤◌, suc, length, ap, arith}
use Rattle.exi_inherited.proofs.Builds.{bases_end, bases_first, bases_next, bases_over}
use Rattle.exi_inherited.proofs.content.bases_of.Goals as goal

pub loop-step-init : goal.loop-step-init
loop-step-init c = bases_first c.args.parts.now c.args.of c.new-bases.result.items c.new-bases.ensures.items

pub loop-step-preserved : goal.loop-step-preserved
loop-step-preserved c =
    let p = c.args.parts.now in
    let same = ap length c.types.ensures.types in
    let less : c.loop-step._step < suc (length p.types) = (let t = c.loop-step-test.true in omega (arith, same, t)) in
    bases_next p c.args.of c.loop-step._step c.loop-step.bases.items c.push.new.self.items c.loop-step.next c.complex_base-next.result c.in-Some.place less c.in-Some.is c.in_ok-push-in-Some.ensures.items c.complex_base-next.ensures c.loop-step.invariant

pub returns-in-None : goal.returns-in-None
returns-in-None c = bases_over c.args.parts.now c.args.of c.loop-step._step c.loop-step.bases.items c.loop-step.next c.in-None.is c.loop-step.invariant

pub returns : goal.returns
returns c =
    let p = c.args.parts.now in
    let same = ap length c.types.ensures.types in
    let le : suc (length p.types) ≤ c.loop-step._step = (let t = c.loop-step-test.false in omega (arith, same, t)) in
    bases_end p c.args.of c.loop-step._step c.loop-step.bases.items c.loop-step.next le c.loop-step.invariant
