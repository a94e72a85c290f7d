use Rattle.std.proofs.Common.{sym, subst, Result}
use Rattle.exi_typed.specs.ReadStates.{Failure}
use Rattle.exi_processing.specs.Handing.{HandsAny}
use Rattle.exi_processing.specs.Plans.{Given, nowhere}
use Rattle.exi_reader.proofs.StepParts.{one_without}
use Rattle.exi_reader.proofs.Stepping.{step_followed, step_forms, step_levels, step_names, step_room, told_so}
use Rattle.exi_reader.proofs.stepper.Stepper.built_in_step.Goals as goal

pub returns-in-Err-clause-hands : goal.returns-in-Err-clause-hands
returns-in-Err-clause-hands g c = (
  rw (c.in-Err.ensures.picks.1) (one_without _ _ _ _ (told_so c.args.self.now.setting c.args.self.now.bytes c.args.self.now.config c.args.room _ c.requires.rules c.in-Err.ensures.picks.0)),
  g.met.E.EventOut.none c.args.out.now,
)

pub follow_built_in-requires-clause-levels : goal.follow_built_in-requires-clause-levels
follow_built_in-requires-clause-levels g c = step_levels c.args.self.now _ c.built_in_production.new.self.config (told_so c.args.self.now.setting c.args.self.now.bytes c.args.self.now.config c.args.room _ c.requires.rules c.in-Ok.ensures.picks.0) c.built_in_production.new.self c.in-Ok.ensures.picks.1 c.requires.steady.levels

pub follow_built_in-requires-clause-room : goal.follow_built_in-requires-clause-room
follow_built_in-requires-clause-room g c = step_room c.args.self.now _ c.built_in_production.new.self.config (told_so c.args.self.now.setting c.args.self.now.bytes c.args.self.now.config c.args.room _ c.requires.rules c.in-Ok.ensures.picks.0) c.built_in_production.new.self c.in-Ok.ensures.picks.1 c.requires.steady.room

pub follow_built_in-requires-clause-forms : goal.follow_built_in-requires-clause-forms
follow_built_in-requires-clause-forms g c = step_forms c.args.self.now _ c.built_in_production.new.self.config (told_so c.args.self.now.setting c.args.self.now.bytes c.args.self.now.config c.args.room _ c.requires.rules c.in-Ok.ensures.picks.0) c.built_in_production.new.self c.in-Ok.ensures.picks.1 c.requires.steady.elements

pub follow_built_in-requires-clause-names : goal.follow_built_in-requires-clause-names
follow_built_in-requires-clause-names g c = step_names c.args.self.now _ c.built_in_production.new.self.config (told_so c.args.self.now.setting c.args.self.now.bytes c.args.self.now.config c.args.room _ c.requires.rules c.in-Ok.ensures.picks.0) c.built_in_production.new.self c.in-Ok.ensures.picks.1 (c.requires.steady.names _ _ (told_so c.args.self.now.setting c.args.self.now.bytes c.args.self.now.config c.args.room _ c.requires.rules c.in-Ok.ensures.picks.0))

pub returns-in-Ok-clause-hands : goal.returns-in-Ok-clause-hands
returns-in-Ok-clause-hands g c =
    subst (λ (r : Result Given Failure). HandsAny g.E.EventOut.took g.E.EventOut.broke c.follow_built_in.result c.follow_built_in.new.self r c.args.out.now c.follow_built_in.new.out)
    (sym (step_followed c.args.self.now _ c.built_in_production.new.self.config (told_so c.args.self.now.setting c.args.self.now.bytes c.args.self.now.config c.args.room _ c.requires.rules c.in-Ok.ensures.picks.0) c.built_in_production.new.self c.in-Ok.ensures.picks.1 c.args.bit nowhere c.requires.bit (sym c.requires.inside)))
    c.follow_built_in.ensures.hands
