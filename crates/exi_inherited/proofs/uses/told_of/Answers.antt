use Rattle.std.proofs.Common.{ℕ, ◌<◌, ◌≤◌, suc, List, [], length, sym, subst, ap, ◌∙◌, arith}
use Rattle.std.specs.List.{flat_map}
use Rattle.exi_inherited.specs.Told.{told_with_all}
use Rattle.exi_inherited.specs.Uses.{said_in, said_of}
use Rattle.exi_inherited.specs.Walks.{AreWalked}
use Rattle.exi_inherited.proofs.Builds.{told_end, told_first, told_next, told_over}
use Rattle.exi_inherited.proofs.Walking.{walked_none}
use Rattle.exi_inherited.proofs.uses.told_of.Goals as goal

pub loop-step-init : goal.loop-step-init
loop-step-init c =
    let w = c.new-walk.result in
    record {
      walked = subst (λ (ks : List ℕ). AreWalked c.args.parts.now ks w.told) (sym c.new-walk.ensures.walked) (walked_none c.args.parts.now w.told);
      frames = c.new-walk.ensures.frames;
      told = told_first c.args.parts.now c.args.of w.told c.new-walk.ensures.told;
    }

pub walk_all-requires : goal.walk_all-requires
walk_all-requires c = record { walked = c.loop-step.invariant.walked; frames = c.loop-step.invariant.frames }

pub loop-step-preserved : goal.loop-step-preserved
loop-step-preserved c =
    let p = c.args.parts.now in
    let same = ap length c.types.ensures.types in
    let less : c.loop-step._step < suc (length p.types) = (let t = c.loop-step-test.true in omega (arith, same, t)) in
    record {
      walked = c.in_ok-walk_all-in-Some.ensures.walked;
      frames = c.in_ok-walk_all-in-Some.ensures.frames;
      told = told_next p c.loop-step._step c.loop-step.next c.complex_base-next.result c.in-Some.place c.loop-step.walk.told c.walk_all.new.self.told (told_with_all (said_in p c.args.of) []) less c.in-Some.is (c.in_ok-walk_all-in-Some.ensures.told ∙ ap (λ us. told_with_all (flat_map (said_of p) us) c.loop-step.walk.told) c.own_uses.ensures) c.complex_base-next.ensures c.loop-step.invariant.told;
    }

pub returns-in-None : goal.returns-in-None
returns-in-None c = told_over c.args.parts.now c.loop-step._step c.loop-step.next c.loop-step.walk.told (told_with_all (said_in c.args.parts.now c.args.of) []) c.in-None.is c.loop-step.invariant.told

pub returns : goal.returns
returns c =
    let p = c.args.parts.now in
    let same = ap length c.types.ensures.types in
    let le : suc (length p.types) ≤ c.loop-step._step = (let t = c.loop-step-test.false in omega (arith, same, t)) in
    told_end p c.loop-step._step c.loop-step.next c.loop-step.walk.told (told_with_all (said_in p c.args.of) []) le c.loop-step.invariant.told
