use Rattle.std.proofs.Common.{◌≡◌, ℕ, ◌-◌, suc, None, Some, List, option_copied, slice_get, sym, subst, ap, ◌∙◌, arith}
use Rattle.exi_inherited.specs.Told.{told_with_all}
use Rattle.exi_inherited.specs.Uses.{group_uses, said_of}
use Rattle.exi_inherited.specs.Walks.{AreOpen, AreWalked, ending, turns}
use Rattle.exi_inherited.specs.declared.groups.Frame.{Frame}
use Rattle.exi_inherited.proofs.Walking.{moved_end, moved_open, moved_turns, out, past_end, past_open, past_turns}
use Rattle.exi_inherited.proofs.groups.Walk.turn.Goals as goal

pub returns-then-frame-eq0 : goal.returns-then-frame-eq0
returns-then-frame-eq0 c =
    let old = c.args.self.now in
    let o = out c.args.parts.now old.walked.keys old.frames.items c.args.frame old.told c.uses_in-uses.ensures.ends c.if-frame-eq0.true c.requires.walked c.requires.frames in
    record { walked = subst (λ (ks : List ℕ). AreWalked c.args.parts.now ks old.told) (sym c.in_ok-insert.ensures.keys) o.walked; frames = o.frames; end = o.end; turns = o.fewer }

pub look_at-requires : goal.look_at-requires
look_at-requires c =
    let old = c.args.self.now in
    let p = c.args.parts.now in
    let f = c.args.frame in
    let k = f.left - 1 in
    let u = c.in-Some.used.now in
    let n : f.left ≡ suc k = omega (arith, c.if-frame-eq0.false) in
    let there : slice_get (group_uses p f.group) k ≡ Some u = ap (λ us. slice_get us k) (sym c.uses_in-uses.ensures.uses) ∙ sym c.use_at.ensures ∙ ap option_copied c.in-Some.is in
    record { walked = c.requires.walked; frames = subst (λ (fs : List Frame). AreOpen p fs (told_with_all (said_of p u) old.told)) (sym c.in_ok-push.ensures.items) (moved_open p old.frames.items f k u old.told n there c.requires.frames) }

pub returns-in_ok-look_at-in-Some : goal.returns-in_ok-look_at-in-Some
returns-in_ok-look_at-in-Some c =
    let old = c.args.self.now in
    let p = c.args.parts.now in
    let f = c.args.frame in
    let k = f.left - 1 in
    let u = c.in-Some.used.now in
    let n : f.left ≡ suc k = omega (arith, c.if-frame-eq0.false) in
    let there : slice_get (group_uses p f.group) k ≡ Some u = ap (λ us. slice_get us k) (sym c.uses_in-uses.ensures.uses) ∙ sym c.use_at.ensures ∙ ap option_copied c.in-Some.is in
    let pushed = c.in_ok-push.ensures.items in
    record {
      walked = c.in_ok-look_at-in-Some.ensures.walked;
      frames = c.in_ok-look_at-in-Some.ensures.frames;
      end = c.in_ok-look_at-in-Some.ensures.end ∙ ap (λ (fs : List Frame). ending p fs (told_with_all (said_of p u) old.told)) pushed ∙ moved_end p old.frames.items f k u old.told n there;
      turns = moved_turns p old.frames.items f k u (turns p c.look_at.new.self.frames.items) n there (let le = c.in_ok-look_at-in-Some.ensures.turns in let same = ap (turns p) pushed in omega (arith, le, same));
    }

pub returns-in-None : goal.returns-in-None
returns-in-None c =
    let old = c.args.self.now in
    let p = c.args.parts.now in
    let f = c.args.frame in
    let k = f.left - 1 in
    let n : f.left ≡ suc k = omega (arith, c.if-frame-eq0.false) in
    let there : slice_get (group_uses p f.group) k ≡ None = ap (λ us. slice_get us k) (sym c.uses_in-uses.ensures.uses) ∙ sym c.use_at.ensures ∙ ap option_copied c.in-None.is in
    let pushed = c.in_ok-push.ensures.items in
    let less = past_turns p old.frames.items f k n there in
    record {
      walked = c.requires.walked;
      frames = subst (λ (fs : List Frame). AreOpen p fs old.told) (sym pushed) (past_open p old.frames.items f k old.told n there c.requires.frames);
      end = ap (λ (fs : List Frame). ending p fs old.told) pushed ∙ past_end p old.frames.items f k old.told n there;
      turns = let same = ap (turns p) pushed in omega (arith, less, same);
    }
