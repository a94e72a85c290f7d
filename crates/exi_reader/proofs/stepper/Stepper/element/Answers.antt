use Rattle.std.proofs.Common.{Some, None, true, false, sym, ◌∙◌, refl}
use Rattle.exi_names.specs.Events as event
use Rattle.exi_typed.specs.Places.{name_in}
use Rattle.exi_reader.proofs.StepParts.{element_told}
use Rattle.exi_reader.proofs.stepper.Stepper.element.Goals as goal

pub returns-then-is_event-clause-hands : goal.returns-then-is_event-clause-hands
returns-then-is_event-clause-hands g c = (
  Some (event.se (name_in (g.T.Tables.held c.told_name.new.tables) c.in_ok-name.name).name),
  rw (← c.self.view_is, c.in_ok-open.ensures.elements, c.in_ok-open.ensures.learned, c.opener-inner.ensures, c.go_to.ensures.elements, c.go_to.ensures.outer, c.in_ok-learn_name.ensures.ok, c.in_ok-meet_root.ensures.1, c.name_ref-told.ensures)
      (element_told c.self.inside.book.now _ _ _ _ _ _ _ _ _ c.in_ok-name.ensures.read (rw (c.name_ref-told.ensures) at c.in_ok-meet_root.ensures.0) true (sym c.is_event.ensures ∙ c.if-is_event.true)),
  rw (c.name_ref-told.ensures) at c.in_ok-see_start.ensures.ok,
  refl,
)

pub returns-clause-hands : goal.returns-clause-hands
returns-clause-hands g c = (
  None,
  rw (← c.self.view_is, c.in_ok-open.ensures.elements, c.in_ok-open.ensures.learned, c.opener-inner.ensures, c.go_to.ensures.elements, c.go_to.ensures.outer, c.in_ok-learn_name.ensures.ok, c.in_ok-meet_root.ensures.1, c.name_ref-told.ensures)
      (element_told c.self.inside.book.now _ _ _ _ _ _ _ _ _ c.in_ok-name.ensures.read (rw (c.name_ref-told.ensures) at c.in_ok-meet_root.ensures.0) false (sym c.is_event.ensures ∙ c.if-is_event.false)),
  g.met.E.EventOut.none c.args.out.now,
  refl,
)
