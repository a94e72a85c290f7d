use Rattle.std.proofs.Common.{sym, ◌∙◌}
use Rattle.exi_inherited.proofs.Walking.{look_group, looked_at_leaf}
use Rattle.exi_inherited.proofs.groups.Walk.look_at.Goals as goal

pub returns-in_ok-enter-in-Some : goal.returns-in_ok-enter-in-Some
returns-in_ok-enter-in-Some c =
    let old = c.args.self.now in
    let l = look_group c.args.parts.now c.args.used.now c.in-Some.group old.walked.keys c.enter.new.self.walked.keys old.told old.frames.items c.enter.new.self.frames.items c.enter.new.self.told c.in_ok-enter-in-Some.ensures.ends (sym c.in_ok-group.ensures.group ∙ c.in-Some.is) (c.in_ok-enter-in-Some.ensures.told ∙ c.in_ok-group.ensures.told) c.in_ok-enter-in-Some.ensures.walked c.in_ok-enter-in-Some.ensures.frames c.requires.walked c.requires.frames in
    record { walked = l.walked; frames = l.frames; end = l.end; turns = l.fewer }

pub returns-in-None : goal.returns-in-None
returns-in-None c =
    let old = c.args.self.now in
    let l = looked_at_leaf c.args.parts.now c.args.used.now old.walked.keys old.told old.frames.items c.tell.new.self (sym c.in_ok-group.ensures.group ∙ c.in-None.is) c.in_ok-group.ensures.told c.requires.walked c.requires.frames in
    record { walked = l.walked; frames = l.frames; end = l.end; turns = l.fewer }
