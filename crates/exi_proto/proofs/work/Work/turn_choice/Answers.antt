use Rattle.std.proofs.Common.{◌+◌, ◌++◌, length, refl, sym, ap, subst, ◌∙◌, arith}
use Rattle.exi_proto.specs.declared.spot.Spot.{Spot}
use Rattle.exi_proto.specs.declared.work.Task.TheVariants as task
use Rattle.exi_proto.specs.Protos.{piece_of}
use Rattle.exi_proto.specs.Tasks.{IsTask, task_states, whole_with}
use Rattle.exi_proto.proofs.Making.{on_ok, tasks_two, whole_two}
use Rattle.exi_proto.proofs.Turned.{choice_few, choice_next, choice_others, choice_particle, choice_states, on_ok3}
use Rattle.exi_proto.proofs.Turning.{laid_none, particles_told, states_told}
use Rattle.exi_proto.proofs.work.Work.turn_choice.Goals as goal

pub returns-in_default-clause-whole : goal.returns-in_default-clause-whole
returns-in_default-clause-whole c =
    let spot = c.args.spot in
    let p = c.args.counts.now in
    ap (whole_with p c.args.self.now) (sym (laid_none p c.args.particle c.args.from spot.first spot.before spot.next (sym c.in_default.ensures.here)))

pub returns-clause-whole : goal.returns-clause-whole
returns-clause-whole c =
    let p = c.args.counts.now in
    let spot = c.args.spot in
    let here = sym c.in-Some.ensures.here in
    let q = c.in-Some.first in
    let states = states_told p q c.states.result spot.first c.states.ensures (choice_states p c.args.particle c.args.from q (length (piece_of p q).states) (piece_of p q).particles spot here refl refl c.requires.task) in
    let particles = particles_told p q c.particles.result spot.before c.particles.ensures (choice_few p c.args.particle c.args.from q (length (piece_of p q).states) (piece_of p q).particles spot here refl refl c.requires.task) in
    let next = choice_next p c.args.particle c.args.from q c.states.result c.particles.result spot here states particles in
    on_ok3 c.push_two.result
    (λ a b t. whole_two p c.args.self.now c.push_two.new.self (task.Particle q spot) (task.Choice c.args.particle (c.args.from + 1) c.behind-others.result) a b t
    ∙ ap (whole_with p c.args.self.now) (sym (next ∙ ap (λ (o : Spot). task_states p (task.Particle q spot) ++ task_states p (task.Choice c.args.particle (c.args.from + 1) o)) (sym c.behind-others.ensures))))
    c.push_two.ensures.made c.push_two.ensures.ends c.push_two.ensures.tasks

pub returns-clause-tasks : goal.returns-clause-tasks
returns-clause-tasks c =
    let p = c.args.counts.now in
    let spot = c.args.spot in
    let here = sym c.in-Some.ensures.here in
    let q = c.in-Some.first in
    let states = states_told p q c.states.result spot.first c.states.ensures (choice_states p c.args.particle c.args.from q (length (piece_of p q).states) (piece_of p q).particles spot here refl refl c.requires.task) in
    let particles = particles_told p q c.particles.result spot.before c.particles.ensures (choice_few p c.args.particle c.args.from q (length (piece_of p q).states) (piece_of p q).particles spot here refl refl c.requires.task) in
    let first = choice_particle p c.args.particle c.args.from q c.states.result c.particles.result spot here states particles c.requires.task c.in-Some.ensures.inside in
    let others = choice_others p c.args.particle c.args.from q c.states.result c.particles.result spot here states particles c.requires.task in
    on_ok c.push_two.result
    (λ t. tasks_two p c.args.self.now c.push_two.new.self (task.Particle q spot) (task.Choice c.args.particle (c.args.from + 1) c.behind-others.result) t c.requires.tasks first
    (subst (λ (o : Spot). IsTask p (task.Choice c.args.particle (c.args.from + 1) o)) (sym c.behind-others.ensures) others))
    c.push_two.ensures.tasks

pub behind-others-requires-clause-particles : goal.behind-others-requires-clause-particles
behind-others-requires-clause-particles c =
    let p = c.args.counts.now in
    let spot = c.args.spot in
    let here = sym c.in-Some.ensures.here in
    let q = c.in-Some.first in
    let few = choice_few p c.args.particle c.args.from q (length (piece_of p q).states) (piece_of p q).particles spot here refl refl c.requires.task in
    let particles = particles_told p q c.particles.result spot.before c.particles.ensures few in
    omega (arith, particles, few)

pub behind-others-requires-clause-states : goal.behind-others-requires-clause-states
behind-others-requires-clause-states c =
    let p = c.args.counts.now in
    let spot = c.args.spot in
    let here = sym c.in-Some.ensures.here in
    let q = c.in-Some.first in
    let room = choice_states p c.args.particle c.args.from q (length (piece_of p q).states) (piece_of p q).particles spot here refl refl c.requires.task in
    let states = states_told p q c.states.result spot.first c.states.ensures room in
    omega (arith, states, room)
