use Rattle.std.proofs.Common.{sym, subst, Result}
use Rattle.exi_typed.specs.ReadStates.{Failure}
use Rattle.exi_processing.specs.Handing.{HandsAny}
use Rattle.exi_processing.specs.Plans.{Given, nowhere}
use Rattle.exi_reader.proofs.StepParts.{one_without}
use Rattle.exi_reader.proofs.Stepping.{step_followed, step_forms, step_levels, step_names, step_room, told_in_book}
use Rattle.exi_reader.proofs.stepper.Stepper.book_step.Goals as goal

pub returns-in-Err-clause-hands : goal.returns-in-Err-clause-hands
returns-in-Err-clause-hands g c = (
  rw (c.in-Err.ensures.picks.1) (one_without _ _ _ _ (told_in_book c.args.self.now.setting c.args.self.now.bytes c.args.self.now.config c.args.grammar c.args.state _ c.requires.rules c.in-Err.ensures.picks.0)),
  g.met.E.EventOut.none c.args.out.now,
)

pub follow_by_kind-requires-clause-levels : goal.follow_by_kind-requires-clause-levels
follow_by_kind-requires-clause-levels g c = step_levels c.args.self.now _ c.book_rule.new.self.config (told_in_book c.args.self.now.setting c.args.self.now.bytes c.args.self.now.config c.args.grammar c.args.state _ c.requires.rules c.in-Ok.ensures.picks.0) c.book_rule.new.self c.in-Ok.ensures.picks.1 c.requires.steady.levels

pub follow_by_kind-requires-clause-room : goal.follow_by_kind-requires-clause-room
follow_by_kind-requires-clause-room g c = step_room c.args.self.now _ c.book_rule.new.self.config (told_in_book c.args.self.now.setting c.args.self.now.bytes c.args.self.now.config c.args.grammar c.args.state _ c.requires.rules c.in-Ok.ensures.picks.0) c.book_rule.new.self c.in-Ok.ensures.picks.1 c.requires.steady.room

pub follow_by_kind-requires-clause-forms : goal.follow_by_kind-requires-clause-forms
follow_by_kind-requires-clause-forms g c = step_forms c.args.self.now _ c.book_rule.new.self.config (told_in_book c.args.self.now.setting c.args.self.now.bytes c.args.self.now.config c.args.grammar c.args.state _ c.requires.rules c.in-Ok.ensures.picks.0) c.book_rule.new.self c.in-Ok.ensures.picks.1 c.requires.steady.elements

pub follow_by_kind-requires-clause-names : goal.follow_by_kind-requires-clause-names
follow_by_kind-requires-clause-names g c = step_names c.args.self.now _ c.book_rule.new.self.config (told_in_book c.args.self.now.setting c.args.self.now.bytes c.args.self.now.config c.args.grammar c.args.state _ c.requires.rules c.in-Ok.ensures.picks.0) c.book_rule.new.self c.in-Ok.ensures.picks.1 (c.requires.steady.names _ _ (told_in_book c.args.self.now.setting c.args.self.now.bytes c.args.self.now.config c.args.grammar c.args.state _ c.requires.rules c.in-Ok.ensures.picks.0))

pub returns-in-Ok-clause-hands : goal.returns-in-Ok-clause-hands
returns-in-Ok-clause-hands g c =
    subst (λ (r : Result Given Failure). HandsAny g.E.EventOut.took g.E.EventOut.broke c.follow_by_kind.result c.follow_by_kind.new.self r c.args.out.now c.follow_by_kind.new.out)
    (sym (step_followed c.args.self.now _ c.book_rule.new.self.config (told_in_book c.args.self.now.setting c.args.self.now.bytes c.args.self.now.config c.args.grammar c.args.state _ c.requires.rules c.in-Ok.ensures.picks.0) c.book_rule.new.self c.in-Ok.ensures.picks.1 c.args.bit nowhere c.requires.bit (sym c.requires.inside)))
    c.follow_by_kind.ensures.hands
