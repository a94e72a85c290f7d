use Rattle.std.proofs.Common.{ap, sym, subst, ◌∙◌, Result}
use Rattle.exi_typed.specs.ReadStates.{Failure}
use Rattle.exi_processing.specs.Handing.{HandsAny, Standing, alone_of}
use Rattle.exi_processing.specs.Plans.{Given, alone_in}
use Rattle.exi_reader.proofs.StepParts.{one_without}
use Rattle.exi_reader.proofs.Stepping.{step_followed, step_forms, step_levels, step_names, step_room}
use Rattle.exi_reader.proofs.stepper.Stepper.any_event.Goals as goal

pub returns-in-Err-clause-hands : goal.returns-in-Err-clause-hands
returns-in-Err-clause-hands g c = (
  rw (c.in-Err.ensures.picks.1) (one_without _ _ _ _ c.in-Err.ensures.picks.0),
  g.met.E.EventOut.none c.args.out.now,
)

pub follow_seldom-requires-clause-levels : goal.follow_seldom-requires-clause-levels
follow_seldom-requires-clause-levels g c = step_levels c.args.self.now _ c.rule.new.self.config c.in-Ok.ensures.picks.0 c.rule.new.self c.in-Ok.ensures.picks.1 c.requires.steady.levels

pub follow_seldom-requires-clause-room : goal.follow_seldom-requires-clause-room
follow_seldom-requires-clause-room g c = step_room c.args.self.now _ c.rule.new.self.config c.in-Ok.ensures.picks.0 c.rule.new.self c.in-Ok.ensures.picks.1 c.requires.steady.room

pub follow_seldom-requires-clause-forms : goal.follow_seldom-requires-clause-forms
follow_seldom-requires-clause-forms g c = step_forms c.args.self.now _ c.rule.new.self.config c.in-Ok.ensures.picks.0 c.rule.new.self c.in-Ok.ensures.picks.1 c.requires.steady.elements

pub follow_seldom-requires-clause-names : goal.follow_seldom-requires-clause-names
follow_seldom-requires-clause-names g c = step_names c.args.self.now _ c.rule.new.self.config c.in-Ok.ensures.picks.0 c.rule.new.self c.in-Ok.ensures.picks.1 (c.requires.steady.names _ _ c.in-Ok.ensures.picks.0)

pub returns-clause-hands : goal.returns-clause-hands
returns-clause-hands g c =
    subst (λ (r : Result Given Failure). HandsAny g.E.EventOut.took g.E.EventOut.broke c.follow_seldom.result c.follow_seldom.new.self r c.args.out.now c.follow_seldom.new.out)
    (sym (step_followed c.args.self.now _ c.rule.new.self.config c.in-Ok.ensures.picks.0 c.rule.new.self c.in-Ok.ensures.picks.1 _ (alone_of c.alone_in-alone.result) c.requires.bit (c.alone_in-alone.ensures ∙ ap (λ (s : Standing). alone_in s.config.elements s.config.outer) c.self.view_is)))
    c.follow_seldom.ensures.hands
