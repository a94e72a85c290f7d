use Rattle.std.proofs.Common.{Some, None, true, false, sym, ◌∙◌, refl}
use Rattle.exi_names.specs.Events as event
use Rattle.exi_reader.proofs.StepParts.{end_event, end_within}
use Rattle.exi_reader.proofs.stepper.Stepper.end_document.Goals as goal

pub returns-then-is_event-clause-hands : goal.returns-then-is_event-clause-hands
returns-then-is_event-clause-hands g c = (
  Some event.ed,
  rw (← c.self.view_is) (end_event _ _ _ _ (sym c.is_event.ensures ∙ c.if-is_event.true)),
  c.in_ok-see.ensures.ok,
  refl,
)

pub returns-in-Some-clause-hands : goal.returns-in-Some-clause-hands
returns-in-Some-clause-hands g c = (
  None,
  rw (← c.self.view_is, c.resume.ensures.resumed, c.skip_to_byte.ensures.place)
      (end_within _ _ _ _ _ _ (sym c.is_event.ensures ∙ c.if-is_event.false) c.in_ok-refuse.ensures c.in-Some.ensures),
  g.met.E.EventOut.none c.args.out.now,
  refl,
)
