use Rattle.std.proofs.Common.{◌≡◌, ◌<◌, arith, length, List, ◌++◌, [], sym, subst, ap, ◌∙◌}
use Rattle.std.proofs.lemmas.List.{nil_from_length}
use Rattle.exi_inherited.specs.Told.{told_with_all}
use Rattle.exi_inherited.specs.Uses.{said_of}
use Rattle.exi_inherited.specs.Walks.{AreOpen, ending, turns}
use Rattle.exi_inherited.specs.declared.groups.Frame.{Frame}
use Rattle.exi_inherited.proofs.groups.Walk.walk.Goals as goal

pub look_at-requires : goal.look_at-requires
look_at-requires c = record { walked = c.requires.walked; frames = subst (λ (fs : List Frame). AreOpen c.args.parts.now fs (told_with_all (said_of c.args.parts.now c.args.used.now) c.args.self.now.told)) (sym c.requires.frames) tt }

pub loop-frame-init : goal.loop-frame-init
loop-frame-init c = record {
  walked = c.in_ok-look_at.ensures.walked;
  frames = c.in_ok-look_at.ensures.frames;
  end = c.in_ok-look_at.ensures.end ∙ ap (λ (fs : List Frame). ending c.args.parts.now fs (told_with_all (said_of c.args.parts.now c.args.used.now) c.args.self.now.told)) c.requires.frames;
}

pub turn-requires : goal.turn-requires
turn-requires c = record { walked = c.loop-frame.invariant.walked; frames = subst (λ (fs : List Frame). AreOpen c.args.parts.now fs c.loop-frame.self.told) c.in-Some.ensures.items c.loop-frame.invariant.frames }

pub loop-frame-preserved : goal.loop-frame-preserved
loop-frame-preserved c = record {
  walked = c.in_ok-turn.ensures.walked;
  frames = c.in_ok-turn.ensures.frames;
  end = c.in_ok-turn.ensures.end ∙ ap (λ (fs : List Frame). ending c.args.parts.now fs c.loop-frame.self.told) (sym c.in-Some.ensures.items) ∙ c.loop-frame.invariant.end;
}

pub loop-frame-smaller : goal.loop-frame-smaller
loop-frame-smaller c = subst (λ (fs : List Frame). turns c.args.parts.now c.turn.new.self.frames.items < turns c.args.parts.now fs) (sym c.in-Some.ensures.items) c.in_ok-turn.ensures.turns

pub returns : goal.returns
returns c =
    let none : length c.pop.new.self.items ≡ 0 = (let cases = c.in_default.ensures.cases in let ok = c.pop.new.self.ok in omega (arith, cases, ok)) in
    let gone : c.pop.new.self.items ≡ [] = nil_from_length c.pop.new.self.items none in
    let before : c.loop-frame.self.frames.items ≡ [] = c.in_default.ensures.items ∙ ap (λ (fs : List Frame). fs ++ []) gone in
    record { walked = c.loop-frame.invariant.walked; frames = gone; told = ap (λ (fs : List Frame). ending c.args.parts.now fs c.loop-frame.self.told) (sym before) ∙ c.loop-frame.invariant.end }
