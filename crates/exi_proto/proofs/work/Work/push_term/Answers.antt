use Rattle.std.proofs.Common.{sym, ap, ◌∙◌}
use Rattle.xsd_model.specs.declared.parts.Term.TheVariants as term
use Rattle.exi_proto.specs.declared.work.Task.TheVariants as task
use Rattle.exi_proto.specs.Tasks.{whole_with}
use Rattle.exi_proto.proofs.Choosing.{choice_left, element_fits, element_made, element_there, term_fits, term_left, term_made}
use Rattle.exi_proto.proofs.Making.{on_ok, tasks_one, tasks_same, whole_task}
use Rattle.exi_proto.proofs.Parted.{choice_is, copy_is, fits_by, sequence_is, sequence_states_are, sequence_task, term_is, wild_fits}
use Rattle.exi_proto.proofs.Turned.{on_ok3}
use Rattle.exi_proto.proofs.work.Work.push_term.Goals as goal

-- ---- an element
pub push_element-requires-clause-exists : goal.push_element-requires-clause-exists
push_element-requires-clause-exists c =
    element_there c.args.counts.now c.elements.result.now c.args.particle c.in-Element.element c.particle_at.result.now c.elements.ensures c.particle_at.ensures.parts c.particle_at.ensures.is c.in-Element.is

pub push_element-requires-clause-fits : goal.push_element-requires-clause-fits
push_element-requires-clause-fits c =
    element_fits c.args.counts.now c.elements.result.now c.args.particle c.in-Element.element c.particle_at.result.now c.args.spot c.elements.ensures c.particle_at.ensures.is c.in-Element.is c.requires.fits

pub returns-in-Element-clause-whole : goal.returns-in-Element-clause-whole
returns-in-Element-clause-whole c =
    on_ok3 c.push_element.result
    (λ a b t. element_made c.args.counts.now c.elements.result.now c.args.self.now c.push_element.new.self c.args.particle c.in-Element.element c.particle_at.result.now c.args.spot c.elements.ensures c.particle_at.ensures.is c.in-Element.is a b t)
    c.push_element.ensures.made c.push_element.ensures.ends c.push_element.ensures.tasks

pub returns-in-Element-clause-tasks : goal.returns-in-Element-clause-tasks
returns-in-Element-clause-tasks c =
    on_ok c.push_element.result (λ t. tasks_same c.args.counts.now c.args.self.now c.push_element.new.self t c.requires.tasks) c.push_element.ensures.tasks

-- ---- a group
pub push_group-requires-clause-exists : goal.push_group-requires-clause-exists
push_group-requires-clause-exists c =
    term_is c.args.counts.now c.args.particle c.particle_at.result.now (term.Group c.in-Group.group) c.particle_at.ensures.parts c.particle_at.ensures.is c.in-Group.is

pub push_group-requires-clause-fits : goal.push_group-requires-clause-fits
push_group-requires-clause-fits c =
    term_fits c.args.counts.now c.args.particle c.particle_at.result.now (term.Group c.in-Group.group) c.args.spot c.particle_at.ensures.is c.in-Group.is c.requires.fits

pub returns-in-Group-clause-whole : goal.returns-in-Group-clause-whole
returns-in-Group-clause-whole c =
    on_ok c.push_group.result
    (λ w. term_left c.args.counts.now c.args.self.now c.push_group.new.self c.args.particle c.particle_at.result.now (term.Group c.in-Group.group) c.args.spot c.particle_at.ensures.is c.in-Group.is w)
    c.push_group.ensures.whole

-- ---- a sequence
pub returns-in-Sequence-clause-whole : goal.returns-in-Sequence-clause-whole
returns-in-Sequence-clause-whole c =
    let p = c.args.counts.now in
    let place = c.args.particle in
    let is = sequence_is p place c.particle_at.result.now c.in-Sequence.field-0 c.particle_at.ensures.is c.in-Sequence.is in
    on_ok3 c.push_task.result
    (λ a b t. whole_task p c.args.self.now c.push_task.new.self (task.Sequence place 0 c.args.spot) a b t
    ∙ ap (whole_with p c.args.self.now) (sym (sequence_states_are p place c.args.spot is)))
    c.push_task.ensures.made c.push_task.ensures.ends c.push_task.ensures.tasks

pub returns-in-Sequence-clause-tasks : goal.returns-in-Sequence-clause-tasks
returns-in-Sequence-clause-tasks c =
    let p = c.args.counts.now in
    let place = c.args.particle in
    let is = sequence_is p place c.particle_at.result.now c.in-Sequence.field-0 c.particle_at.ensures.is c.in-Sequence.is in
    on_ok c.push_task.result
    (λ t. tasks_one p c.args.self.now c.push_task.new.self (task.Sequence place 0 c.args.spot) t c.requires.tasks
    (sequence_task p place c.args.spot is c.requires.inside c.requires.fits))
    c.push_task.ensures.tasks

-- ---- a choice
pub push_choice-requires-clause-fits : goal.push_choice-requires-clause-fits
push_choice-requires-clause-fits c =
    let p = c.args.counts.now in
    let place = c.args.particle in
    fits_by c.args.spot _ _ (choice_is p place c.particle_at.result.now c.in-Choice.field-0 c.particle_at.ensures.is c.in-Choice.is) c.requires.fits

pub returns-in-Choice-clause-whole : goal.returns-in-Choice-clause-whole
returns-in-Choice-clause-whole c =
    let p = c.args.counts.now in
    let place = c.args.particle in
    on_ok c.push_choice.result
    (λ w. choice_left p c.args.self.now c.push_choice.new.self place c.particle_at.result.now c.in-Choice.field-0 c.args.spot c.particle_at.ensures.is c.in-Choice.is w)
    c.push_choice.ensures.whole

-- ---- a wildcard
pub push_wild-requires : goal.push_wild-requires
push_wild-requires c =
    record { fits = wild_fits c.in-Wild.wild c.args.spot _ (copy_is c.args.counts.now c.args.particle c.particle_at.result.now (term.Wild c.in-Wild.wild) c.particle_at.ensures.is c.in-Wild.is) c.requires.fits }

pub returns-in-Wild-clause-whole : goal.returns-in-Wild-clause-whole
returns-in-Wild-clause-whole c =
    on_ok3 c.push_wild.result
    (λ a b t. term_made c.args.counts.now c.args.self.now c.push_wild.new.self c.args.particle c.particle_at.result.now (term.Wild c.in-Wild.wild) c.args.spot c.particle_at.ensures.is c.in-Wild.is a b t)
    c.push_wild.ensures.made c.push_wild.ensures.ends c.push_wild.ensures.tasks

pub returns-in-Wild-clause-tasks : goal.returns-in-Wild-clause-tasks
returns-in-Wild-clause-tasks c =
    on_ok c.push_wild.result (λ t. tasks_same c.args.counts.now c.args.self.now c.push_wild.new.self t c.requires.tasks) c.push_wild.ensures.tasks
