use Rattle.std.proofs.Common.{◌≤◌, ◌+◌, List, ◌∷◌, map, sym, ap, subst, ◌∙◌}
use Rattle.exi_gram.specs.Terminals.{StepRule, step_rule}
use Rattle.exi_counts.specs.Counts.{most_states, sum_of}
use Rattle.exi_proto.specs.declared.spot.Spot.{Spot}
use Rattle.exi_proto.specs.declared.work.Task.TheVariants as task
use Rattle.exi_proto.specs.Pieces.{counts_of, Piece}
use Rattle.exi_proto.specs.Places.{starts_by}
use Rattle.exi_proto.specs.Tasks.{IsTask, pieces_from, task_states, whole_with}
use Rattle.exi_proto.proofs.Making.{on_ok, tasks_one, tasks_same, whole_state}
use Rattle.exi_proto.proofs.Parted.{choice_room, choice_states_are, choice_task, from_start}
use Rattle.exi_proto.proofs.Turned.{on_ok3}
use Rattle.exi_proto.proofs.work.Work.push_choice.Goals as goal

pub starts_of-requires-clause-room : goal.starts_of-requires-clause-room
starts_of-requires-clause-room c =
    subst (λ (xs : List Piece). c.args.spot.first + 1 + sum_of (counts_of xs) ≤ most_states)
    (sym (from_start c.args.counts.now c.args.particle c.inner_of-places.result.now (sym c.inner_of-places.ensures.places)))
    (choice_room c.args.counts.now c.args.particle c.args.spot c.requires.fits)

pub returns-clause-whole : goal.returns-clause-whole
returns-clause-whole c =
    let p = c.args.counts.now in
    let o = c.args.self.now in
    let place = c.args.particle in
    let spot = c.args.spot in
    let same = from_start p place c.inner_of-places.result.now (sym c.inner_of-places.ensures.places) in
    let starts = c.in_ok-starts.ensures ∙ ap (λ (xs : List Piece). starts_by (spot.first + 1) (counts_of xs)) same in
    let is = ap (λ (x : List StepRule). x ∷ task_states p (task.Choice place 0 c.behind.result)) starts
    ∙ ap (λ (s : Spot). starts_by (spot.first + 1) (counts_of (pieces_from p place 0)) ∷ task_states p (task.Choice place 0 s)) c.behind.ensures
    ∙ sym (choice_states_are p place spot) in
    on_ok3 c.push_task.result
    (λ a b t. whole_state p o c.push_state.new.self c.push_task.new.self (map step_rule c.in_ok-starts.starts) (task.Choice place 0 c.behind.result) c.in_ok-push_state.ensures.made c.in_ok-push_state.ensures.ends c.in_ok-push_state.ensures.tasks a b t
    ∙ ap (whole_with p o) is)
    c.push_task.ensures.made c.push_task.ensures.ends c.push_task.ensures.tasks

pub returns-clause-tasks : goal.returns-clause-tasks
returns-clause-tasks c =
    let p = c.args.counts.now in
    let place = c.args.particle in
    on_ok c.push_task.result
    (λ t. tasks_one p c.push_state.new.self c.push_task.new.self (task.Choice place 0 c.behind.result) t
    (tasks_same p c.args.self.now c.push_state.new.self c.in_ok-push_state.ensures.tasks c.requires.tasks)
    (subst (λ (s : Spot). IsTask p (task.Choice place 0 s)) (sym c.behind.ensures) (choice_task p place c.args.spot c.requires.inside c.requires.fits)))
    c.push_task.ensures.tasks
