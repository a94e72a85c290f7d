use Rattle.std.proofs.Common.{Some, refl}
use Rattle.exi_names.specs.Events as event
use Rattle.exi_processing.specs.Handing.{alone_of, leading_to}
use Rattle.exi_processing.specs.Plans.{document_type_plan}
use Rattle.exi_reader.proofs.StepParts.{four_texts, made_by}
use Rattle.exi_reader.proofs.stepper.Stepper.document_type.Goals as goal

pub returns-clause-hands : goal.returns-clause-hands
returns-clause-hands g c = (
  Some (event.dt c.in_ok-name.name c.in_ok-public.public c.in_ok-system.system c.in_ok-text.text),
  rw (← c.self.view_is, c.go_to.ensures.elements, c.go_to.ensures.outer)
      (made_by _ _ (document_type_plan c.self.inside.book.now (alone_of c.args.alone) (leading_to c.args.to)) _ ((c.in_ok-name.name, c.in_ok-public.public), (c.in_ok-system.system, c.in_ok-text.text)) _
      (four_texts c.self.inside.book.now _ _ _ _ _ _ _ _ _ c.in_ok-name.ensures.read c.in_ok-public.ensures.read c.in_ok-system.ensures.read c.in_ok-text.ensures.read) c.in_ok-refuse.ensures),
  c.in_ok-see.ensures.ok,
  refl,
)
