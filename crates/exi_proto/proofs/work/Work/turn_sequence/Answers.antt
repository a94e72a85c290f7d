use Rattle.std.proofs.Common.{◌+◌, ◌++◌, [], ◌∷◌, length, refl, sym, ap, subst, ◌∙◌, arith}
use Rattle.exi_proto.specs.declared.spot.Spot.{Spot}
use Rattle.exi_proto.specs.declared.work.Task.TheVariants as task
use Rattle.exi_proto.specs.Places.{end_step}
use Rattle.exi_proto.specs.Protos.{piece_of}
use Rattle.exi_proto.specs.Tasks.{IsTask, task_states, whole_with}
use Rattle.exi_proto.proofs.Making.{on_ok, tasks_one, tasks_two, whole_made, whole_task, whole_two}
use Rattle.exi_proto.proofs.Turned.{last_next, last_particle, moved_spot, on_ok3, sequence_few, sequence_next, sequence_others, sequence_particle, sequence_states}
use Rattle.exi_proto.proofs.Turning.{lined_none, particles_told, states_told}
use Rattle.exi_proto.proofs.work.Work.turn_sequence.Goals as goal

pub returns-in_default-clause-whole : goal.returns-in_default-clause-whole
returns-in_default-clause-whole c =
    let spot = c.args.spot in
    let p = c.args.counts.now in
    on_ok3 c.push_ending.result
    (λ a b t. whole_made p c.args.self.now c.push_ending.new.self ((end_step spot.first spot.next ∷ []) ∷ []) (omega arith) a b t
    ∙ ap (whole_with p c.args.self.now) (sym (lined_none p c.args.particle c.args.from spot.first spot.before spot.next (sym c.in_default.ensures.here))))
    c.push_ending.ensures.made c.push_ending.ensures.ends c.push_ending.ensures.tasks

pub returns-in_default-inner_at-clause-whole : goal.returns-in_default-inner_at-clause-whole
returns-in_default-inner_at-clause-whole c =
    let p = c.args.counts.now in
    let spot = c.args.spot in
    let q = c.in-Some.first in
    let here = sym c.in-Some.ensures.here in
    on_ok3 c.push_task.result
    (λ a b t. whole_task p c.args.self.now c.push_task.new.self (task.Particle q spot) a b t
    ∙ ap (whole_with p c.args.self.now) (sym (last_next p c.args.particle c.args.from q (length (piece_of p q).states) (piece_of p q).particles spot here refl refl (sym c.in_default-inner_at.ensures.here))))
    c.push_task.ensures.made c.push_task.ensures.ends c.push_task.ensures.tasks

pub returns-in_default-inner_at-clause-tasks : goal.returns-in_default-inner_at-clause-tasks
returns-in_default-inner_at-clause-tasks c =
    let p = c.args.counts.now in
    let q = c.in-Some.first in
    let here = sym c.in-Some.ensures.here in
    on_ok c.push_task.result
    (λ t. tasks_one p c.args.self.now c.push_task.new.self (task.Particle q c.args.spot) t c.requires.tasks
    (last_particle p c.args.particle c.args.from q (length (piece_of p q).states) (piece_of p q).particles c.args.spot here refl refl (sym c.in_default-inner_at.ensures.here) c.requires.task c.in-Some.ensures.inside))
    c.push_task.ensures.tasks

pub behind-others-requires-clause-particles : goal.behind-others-requires-clause-particles
behind-others-requires-clause-particles c =
    let p = c.args.counts.now in
    let spot = c.args.spot in
    let here = sym c.in-Some.ensures.here in
    let q = c.in-Some.first in
    let few = sequence_few p c.args.particle c.args.from q (length (piece_of p q).states) (piece_of p q).particles spot here refl refl c.requires.task in
    let particles = particles_told p q c.particles.result spot.before c.particles.ensures few in
    omega (arith, particles, few)

pub returns-clause-whole : goal.returns-clause-whole
returns-clause-whole c =
    let p = c.args.counts.now in
    let spot = c.args.spot in
    let here = sym c.in-Some.ensures.here in
    let q = c.in-Some.first in
    let r = c.in-Some-inner_at._next in
    let there = sym c.in-Some-inner_at.ensures.here in
    let states = states_told p q c.states-states.result spot.first c.states-states.ensures (sequence_states p c.args.particle c.args.from q (length (piece_of p q).states) (piece_of p q).particles spot here refl refl r there c.requires.task) in
    let particles = particles_told p q c.particles.result spot.before c.particles.ensures (sequence_few p c.args.particle c.args.from q (length (piece_of p q).states) (piece_of p q).particles spot here refl refl c.requires.task) in
    let next = sequence_next p c.args.particle c.args.from q c.states-states.result c.particles.result spot here states particles r there in
    on_ok3 c.push_two.result
    (λ a b t. whole_two p c.args.self.now c.push_two.new.self (task.Particle q c.front.result) (task.Sequence c.args.particle (c.args.from + 1) c.behind-others.result) a b t
    ∙ ap (whole_with p c.args.self.now) (sym (next
    ∙ ap (λ (f : Spot). task_states p (task.Particle q f) ++ task_states p (task.Sequence c.args.particle (c.args.from + 1) (moved_spot spot c.states-states.result c.particles.result))) (sym c.front.ensures)
    ∙ ap (λ (o : Spot). task_states p (task.Particle q c.front.result) ++ task_states p (task.Sequence c.args.particle (c.args.from + 1) o)) (sym c.behind-others.ensures))))
    c.push_two.ensures.made c.push_two.ensures.ends c.push_two.ensures.tasks

pub returns-clause-tasks : goal.returns-clause-tasks
returns-clause-tasks c =
    let p = c.args.counts.now in
    let spot = c.args.spot in
    let here = sym c.in-Some.ensures.here in
    let q = c.in-Some.first in
    let r = c.in-Some-inner_at._next in
    let there = sym c.in-Some-inner_at.ensures.here in
    let states = states_told p q c.states-states.result spot.first c.states-states.ensures (sequence_states p c.args.particle c.args.from q (length (piece_of p q).states) (piece_of p q).particles spot here refl refl r there c.requires.task) in
    let particles = particles_told p q c.particles.result spot.before c.particles.ensures (sequence_few p c.args.particle c.args.from q (length (piece_of p q).states) (piece_of p q).particles spot here refl refl c.requires.task) in
    let first = sequence_particle p c.args.particle c.args.from q c.states-states.result c.particles.result spot here states particles r there c.requires.task c.in-Some.ensures.inside in
    let others = sequence_others p c.args.particle c.args.from q c.states-states.result c.particles.result spot here states particles r there c.requires.task in
    on_ok c.push_two.result
    (λ t. tasks_two p c.args.self.now c.push_two.new.self (task.Particle q c.front.result) (task.Sequence c.args.particle (c.args.from + 1) c.behind-others.result) t c.requires.tasks
    (subst (λ (f : Spot). IsTask p (task.Particle q f)) (sym c.front.ensures) first)
    (subst (λ (o : Spot). IsTask p (task.Sequence c.args.particle (c.args.from + 1) o)) (sym c.behind-others.ensures) others))
    c.push_two.ensures.tasks
