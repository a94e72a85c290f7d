use Rattle.std.proofs.Common.{[], ◌∷◌, sym, ap, ◌∙◌, ◌/◌, arith}
use Rattle.exi_proto.specs.declared.work.Task.TheVariants as task
use Rattle.exi_proto.specs.Places.{end_step}
use Rattle.exi_proto.specs.Tasks.{whole_with}
use Rattle.exi_proto.proofs.Making.{on_ok, tasks_one, whole_made, whole_task}
use Rattle.exi_proto.proofs.Parted.{bounds_are, copies_states, no_copies, turned_task}
use Rattle.exi_proto.proofs.Turned.{on_ok3}
use Rattle.exi_proto.proofs.work.Work.turn_particle.Goals as goal

pub returns-then-count-eq0-clause-whole : goal.returns-then-count-eq0-clause-whole
returns-then-count-eq0-clause-whole c =
    let p = c.args.counts.now in
    let spot = c.args.spot in
    let none = sym c.copy_count-count.ensures ∙ c.if-count-eq0.true in
    on_ok3 c.push_ending.result
    (λ a b t. whole_made p c.args.self.now c.push_ending.new.self ((end_step spot.first spot.next ∷ []) ∷ []) (omega arith) a b t
    ∙ ap (whole_with p c.args.self.now) (sym (no_copies p c.args.particle c.particle_at-here.result.now spot c.particle_at-here.ensures.parts c.requires.task.inside c.particle_at-here.ensures.is none)))
    c.push_ending.ensures.made c.push_ending.ensures.ends c.push_ending.ensures.tasks

pub copies_of-requires : goal.copies_of-requires
copies_of-requires c = record { bounds = bounds_are c.args.counts.now c.args.particle c.particle_at-here.result.now c.particle_at-here.ensures.parts c.particle_at-here.ensures.is }

pub returns-clause-whole : goal.returns-clause-whole
returns-clause-whole c =
    let p = c.args.counts.now in
    let here = c.particle_at-here.ensures in
    let one = c.from.result / c.copy_count-count.result in
    on_ok3 c.push_task.result
    (λ a b t. whole_task p c.args.self.now c.push_task.new.self (task.Copies c.args.particle c.copies_of.result one c.args.spot) a b t
    ∙ ap (whole_with p c.args.self.now) (sym (copies_states p c.args.particle one c.particle_at-here.result.now c.copies_of.result c.args.spot here.parts c.requires.task.inside here.is c.copies_of.ensures)))
    c.push_task.ensures.made c.push_task.ensures.ends c.push_task.ensures.tasks

pub returns-clause-tasks : goal.returns-clause-tasks
returns-clause-tasks c =
    let p = c.args.counts.now in
    let here = c.particle_at-here.ensures in
    let one = c.from.result / c.copy_count-count.result in
    let whole = turned_task p c.args.particle c.copy_count-count.result c.from.result c.particle_at-here.result.now c.copies_of.result c.args.spot c.requires.task here.parts here.is c.copy_count-count.ensures c.if-count-eq0.false (c.from.ensures ∙ c.states.ensures) c.copies_of.ensures in
    on_ok c.push_task.result
    (λ t. tasks_one p c.args.self.now c.push_task.new.self (task.Copies c.args.particle c.copies_of.result one c.args.spot) t c.requires.tasks whole)
    c.push_task.ensures.tasks
