use Rattle.std.proofs.Common.{Some, refl}
use Rattle.exi_names.specs.Events as event
use Rattle.exi_processing.specs.Handing.{alone_of, leading_to}
use Rattle.exi_processing.specs.Plans.{instruction_plan}
use Rattle.exi_reader.proofs.StepParts.{made_by, two_texts}
use Rattle.exi_reader.proofs.stepper.Stepper.instruction.Goals as goal

pub returns-clause-hands : goal.returns-clause-hands
returns-clause-hands g c = (
  Some (event.pi c.in_ok-target.target c.in_ok-text.text),
  rw (← c.self.view_is, c.go_to.ensures.elements, c.go_to.ensures.outer)
      (made_by _ _ (instruction_plan c.self.inside.book.now (alone_of c.args.alone) (leading_to c.args.to)) _ (c.in_ok-target.target, c.in_ok-text.text) _ (two_texts c.self.inside.book.now _ _ _ _ _ c.in_ok-target.ensures.read c.in_ok-text.ensures.read) c.in_ok-refuse.ensures),
  c.in_ok-see.ensures.ok,
  refl,
)
