use Rattle.std.proofs.Common.{Some, refl}
use Rattle.exi_names.specs.Datatypes as datatype
use Rattle.exi_names.specs.Events as event
use Rattle.exi_names.specs.Seen as value
use Rattle.exi_typed.specs.Places.{name_in}
use Rattle.exi_processing.specs.Handing.{alone_of}
use Rattle.exi_reader.proofs.StepParts.{made_valued, string_item}
use Rattle.exi_reader.proofs.stepper.Stepper.string_value.Goals as goal

pub returns-in_ok-see_string-in-Stands-clause-hands : goal.returns-in_ok-see_string-in-Stands-clause-hands
returns-in_ok-see_string-in-Stands-clause-hands g c = (
  Some (event.at (name_in (g.T.Tables.held c.self.inside.tables) c.args.name).name (value.text c.in-Stands.text.now)),
  rw (← c.self.view_is, c.go_to.ensures.elements, c.go_to.ensures.outer)
      (made_valued c.self.inside.book.now _ c.args.bit (alone_of c.args.alone) datatype.text (name_in (g.T.Tables.held c.self.inside.tables) c.args.name) c.args.to _ (value.text c.in-Stands.text.now) _
      (string_item _ _ _ _ _ (rw (c.in-Stands.is, c.align-align.ensures, c.options.ensures.options) at c.in_ok-text.ensures.read)) c.in_ok-refuse.ensures),
  rw (c.name_ref-told.ensures) at c.in_ok-see_string-in-Stands.ensures.ok,
  refl,
)

pub returns-in_ok-add_value-in-Missed-clause-hands : goal.returns-in_ok-add_value-in-Missed-clause-hands
returns-in_ok-add_value-in-Missed-clause-hands g c = (
  Some (event.at (name_in (g.T.Tables.held c.self.inside.tables) c.args.name).name (value.text c.in-Missed.text)),
  rw (← c.self.view_is, c.go_to.ensures.elements, c.go_to.ensures.outer, c.in_ok-add_value-in-Missed.ensures.added)
      (made_valued c.self.inside.book.now _ c.args.bit (alone_of c.args.alone) datatype.text (name_in (g.T.Tables.held c.self.inside.tables) c.args.name) c.args.to _ (value.text c.in-Missed.text) _
      (string_item _ _ _ _ _ (rw (c.in-Missed.is, c.align-align.ensures, c.options.ensures.options) at c.in_ok-text.ensures.read)) c.in_ok-refuse.ensures),
  rw (c.name_ref-told.ensures) at c.in_ok-see_string-in-Missed.ensures.ok,
  refl,
)
