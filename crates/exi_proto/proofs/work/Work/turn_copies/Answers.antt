use Rattle.std.proofs.Common.{[], ◌∷◌, ◌++◌, sym, ap, subst, ◌∙◌, arith}
use Rattle.exi_proto.specs.declared.spot.Spot.{Spot}
use Rattle.exi_proto.specs.declared.work.Task.TheVariants as task
use Rattle.exi_proto.specs.Places.{end_step}
use Rattle.exi_proto.specs.Tasks.{IsTask, copy_at, copy_states, set_at, tasks_left, whole, whole_with}
use Rattle.exi_proto.proofs.Choosing.{copies_front}
use Rattle.exi_proto.proofs.Making.{on_ok, tasks_one, whole_made}
use Rattle.exi_proto.proofs.Parted.{more_task, none_left}
use Rattle.exi_proto.proofs.Turned.{on_ok3}
use Rattle.exi_proto.proofs.work.Work.turn_copies.Goals as goal

pub returns-in_default-clause-whole : goal.returns-in_default-clause-whole
returns-in_default-clause-whole c =
    let p = c.args.counts.now in
    let spot = c.args.spot in
    on_ok3 c.push_ending.result
    (λ a b t. whole_made p c.args.self.now c.push_ending.new.self ((end_step spot.first spot.next ∷ []) ∷ []) (omega arith) a b t
    ∙ ap (whole_with p c.args.self.now) (sym (none_left p c.args.particle c.args.one c.args.copies spot c.in_default.ensures)))
    c.push_ending.ensures.made c.push_ending.ensures.ends c.push_ending.ensures.tasks

pub push_copy-requires-2-clause-tasks : goal.push_copy-requires-2-clause-tasks
push_copy-requires-2-clause-tasks c =
    let p = c.args.counts.now in
    let place = c.args.particle in
    let how = c.in-Some.split.0 in
    let others = c.in-Some.split.1 in
    let more = more_task p place c.args.one c.args.copies others how c.args.spot c.in-Some.ensures (sym c.is_none-last.ensures ∙ c.if-last.false) c.requires.task in
    tasks_one p c.args.self.now c.push_task.new.self (task.Copies place others c.args.one c.behind.result) c.in_ok-push_task.ensures.tasks c.requires.tasks
    (subst (λ (s : Spot). IsTask p (task.Copies place others c.args.one s)) (sym c.behind.ensures) more)

pub returns-clause-whole : goal.returns-clause-whole
returns-clause-whole c =
    let p = c.args.counts.now in
    let o = c.args.self.now in
    let place = c.args.particle in
    let how = c.in-Some.split.0 in
    let others = c.in-Some.split.1 in
    on_ok c.push_copy-2.result
    (λ w. copies_front p o c.push_task.new.self place c.args.one c.args.copies others how c.args.spot (whole p c.push_copy-2.new.self) c.in-Some.ensures (sym c.is_none-last.ensures ∙ c.if-last.false) c.requires.task.counted
    c.in_ok-push_task.ensures.made c.in_ok-push_task.ensures.ends
    (c.in_ok-push_task.ensures.tasks ∙ ap (λ (s : Spot). tasks_left o ++ task.Copies place others c.args.one s ∷ []) c.behind.ensures)
    (w ∙ ap (λ (s : Spot). whole_with p c.push_task.new.self (set_at s (copy_states (copy_at p place).states how))) c.front.ensures))
    c.push_copy-2.ensures.whole
