use Rattle.std.proofs.Common.{[], ◌∷◌, sym, ap, ◌∙◌, arith}
use Rattle.exi_proto.specs.declared.work.Task.TheVariants as task
use Rattle.exi_proto.specs.Pieces.{Piece}
use Rattle.exi_proto.specs.Places.{end_step}
use Rattle.exi_proto.specs.Tasks.{set_at, whole_with}
use Rattle.exi_proto.proofs.Making.{on_ok, tasks_one, whole_made, whole_task}
use Rattle.exi_proto.proofs.Parted.{group_inside, group_none, group_some, particle_task}
use Rattle.exi_proto.proofs.Turned.{on_ok3}
use Rattle.exi_proto.proofs.work.Work.push_group.Goals as goal

pub returns-in-None-clause-whole : goal.returns-in-None-clause-whole
returns-in-None-clause-whole c =
    let p = c.args.counts.now in
    let spot = c.args.spot in
    on_ok3 c.push_ending.result
    (λ a b t. whole_made p c.args.self.now c.push_ending.new.self ((end_step spot.first spot.next ∷ []) ∷ []) (omega arith) a b t
    ∙ ap (whole_with p c.args.self.now) (sym (group_none p c.args.group c.group_of.result.now spot c.group_of.ensures.is c.in-None.is)))
    c.push_ending.ensures.made c.push_ending.ensures.ends c.push_ending.ensures.tasks

pub returns-in-Some-clause-whole : goal.returns-in-Some-clause-whole
returns-in-Some-clause-whole c =
    let p = c.args.counts.now in
    let spot = c.args.spot in
    on_ok3 c.push_task.result
    (λ a b t. whole_task p c.args.self.now c.push_task.new.self (task.Particle c.in-Some.particle spot) a b t
    ∙ ap (λ (x : Piece). whole_with p c.args.self.now (set_at spot x.states)) (sym (group_some p c.args.group c.in-Some.particle c.group_of.result.now c.group_of.ensures.is c.in-Some.is)))
    c.push_task.ensures.made c.push_task.ensures.ends c.push_task.ensures.tasks

pub returns-in-Some-clause-tasks : goal.returns-in-Some-clause-tasks
returns-in-Some-clause-tasks c =
    let p = c.args.counts.now in
    let q = c.in-Some.particle in
    let x = c.group_of.result.now in
    on_ok c.push_task.result
    (λ t. tasks_one p c.args.self.now c.push_task.new.self (task.Particle q c.args.spot) t c.requires.tasks
    (particle_task p q c.args.spot _ (group_some p c.args.group q x c.group_of.ensures.is c.in-Some.is) (group_inside p c.args.group q x c.group_of.ensures.parts c.group_of.ensures.is c.in-Some.is) c.requires.fits))
    c.push_task.ensures.tasks
