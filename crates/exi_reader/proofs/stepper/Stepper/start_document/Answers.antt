use Rattle.std.proofs.Common.{Some, true, sym, ◌∙◌, refl}
use Rattle.exi_names.specs.Events as event
use Rattle.exi_reader.proofs.StepParts.{start_made}
use Rattle.exi_reader.proofs.stepper.Stepper.start_document.Goals as goal

pub returns-then-is_event-clause-hands : goal.returns-then-is_event-clause-hands
returns-then-is_event-clause-hands g c = (
  Some event.sd,
  rw (← c.self.view_is, c.go_to.ensures.elements, c.go_to.ensures.outer)
      (start_made _ _ _ _ _ c.in_ok-refuse.ensures true (sym c.is_event.ensures ∙ c.if-is_event.true)),
  c.in_ok-see.ensures.ok,
  refl,
)
