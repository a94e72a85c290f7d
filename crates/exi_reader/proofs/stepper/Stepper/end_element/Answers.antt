use Rattle.std.proofs.Common.{Some, refl}
use Rattle.exi_names.specs.Events as event
use Rattle.exi_processing.specs.Handing.{alone_of}
use Rattle.exi_processing.specs.Plans.{element_end_plan}
use Rattle.exi_reader.proofs.StepParts.{made_by}
use Rattle.exi_reader.proofs.stepper.Stepper.end_element.Goals as goal

pub returns-clause-hands : goal.returns-clause-hands
returns-clause-hands g c = (
  Some event.ee,
  rw (← c.self.view_is, c.close.ensures.elements, c.close.ensures.meter, c.in_ok-learn.ensures.ok)
      (made_by _ _ (element_end_plan (alone_of c.args.alone)) _ tt _ refl c.in_ok-refuse.ensures),
  c.in_ok-see_end.ensures.ok,
  refl,
)
