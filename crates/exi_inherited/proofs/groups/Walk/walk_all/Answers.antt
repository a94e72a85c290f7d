use Rattle.std.proofs.Common.{◌≡◌, [], length, sym, ap, ◌∙◌, arith}
use Rattle.std.specs.List.{flat_map}
use Rattle.std.proofs.lemmas.List.{nil_from_length}
use Rattle.exi_inherited.specs.Told.{told_with_all}
use Rattle.exi_inherited.specs.Uses.{said_of}
use Rattle.exi_inherited.proofs.Walking.{walk_next}
use Rattle.exi_inherited.proofs.groups.Walk.walk_all.Goals as goal

pub loop-used-preserved : goal.loop-used-preserved
loop-used-preserved c = record {
  walked = c.in_ok-walk.ensures.walked;
  frames = c.in_ok-walk.ensures.frames;
  told = walk_next c.args.parts.now c.loop-used.rest.now c.in-Some.front.now c.in-Some.used.now c.loop-used.self.told c.walk.new.self.told (told_with_all (flat_map (said_of c.args.parts.now) c.args.uses.now) c.args.self.now.told) c.in-Some.ensures.cases.0 c.in_ok-walk.ensures.told c.loop-used.invariant.told;
}

pub loop-used-smaller : goal.loop-used-smaller
loop-used-smaller c = let shorter = c.in-Some.ensures.cases.1 in omega (arith, shorter)

pub returns : goal.returns
returns c =
    let none : length c.loop-used.rest.now ≡ 0 = c.in_default.ensures.cases in
    let gone : c.loop-used.rest.now ≡ [] = nil_from_length c.loop-used.rest.now none in
    record {
      walked = c.loop-used.invariant.walked;
      frames = c.loop-used.invariant.frames;
      told = ap (λ us. told_with_all (flat_map (said_of c.args.parts.now) us) c.loop-used.self.told) (sym gone) ∙ c.loop-used.invariant.told;
    }
