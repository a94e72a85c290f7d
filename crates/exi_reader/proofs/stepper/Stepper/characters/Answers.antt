use Rattle.std.proofs.Common.{Some, refl}
use Rattle.exi_names.specs.Datatypes as datatype
use Rattle.exi_names.specs.Events as event
use Rattle.exi_names.specs.Seen as value
use Rattle.exi_processing.specs.Handing.{alone_of, leading_to}
use Rattle.exi_processing.specs.Plans.{characters_plan}
use Rattle.exi_reader.proofs.StepParts.{made_by, string_item}
use Rattle.exi_reader.proofs.stepper.Stepper.characters.Goals as goal

pub returns-in_ok-see_text-in-Stands-clause-hands : goal.returns-in_ok-see_text-in-Stands-clause-hands
returns-in_ok-see_text-in-Stands-clause-hands g c = (
  Some (event.ch (value.text c.in-Stands.text.now)),
  rw (← c.self.view_is, c.go_to.ensures.elements, c.go_to.ensures.outer, c.in_ok-learn.ensures.ok)
      (made_by _ _ (characters_plan c.self.inside.book.now (alone_of c.args.alone) c.self.inside.elements datatype.text (leading_to c.args.to)) _ (value.text c.in-Stands.text.now) _
      (string_item _ _ _ _ _ (rw (c.in-Stands.is, c.innermost-name.ensures, c.align-align.ensures, c.options.ensures.options) at c.in_ok-text.ensures.read))
      c.in_ok-refuse.ensures),
  c.in_ok-see_text-in-Stands.ensures.ok,
  refl,
)

pub returns-in_ok-add_value-in-Missed-clause-hands : goal.returns-in_ok-add_value-in-Missed-clause-hands
returns-in_ok-add_value-in-Missed-clause-hands g c = (
  Some (event.ch (value.text c.in-Missed.text)),
  rw (← c.self.view_is, c.go_to.ensures.elements, c.go_to.ensures.outer, c.in_ok-learn.ensures.ok, c.in_ok-add_value-in-Missed.ensures.added, c.innermost-name.ensures)
      (made_by _ _ (characters_plan c.self.inside.book.now (alone_of c.args.alone) c.self.inside.elements datatype.text (leading_to c.args.to)) _ (value.text c.in-Missed.text) _
      (string_item _ _ _ _ _ (rw (c.in-Missed.is, c.innermost-name.ensures, c.align-align.ensures, c.options.ensures.options) at c.in_ok-text.ensures.read))
      c.in_ok-refuse.ensures),
  c.in_ok-see_text-in-Missed.ensures.ok,
  refl,
)
