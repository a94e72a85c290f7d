use Rattle.std.proofs.Common.{Some, refl}
use Rattle.exi_names.specs.Events as event
use Rattle.exi_names.specs.Seen.{seen}
use Rattle.exi_reader.proofs.stepper.Stepper.made_characters.Goals as goal

pub returns-clause-hands : goal.returns-clause-hands
returns-clause-hands g c = (
  Some (event.ch (seen c.args.value.now)),
  rw (← c.self.view_is, c.go_to.ensures.elements, c.go_to.ensures.outer, c.in_ok-learn.ensures.ok) refl,
  c.in_ok-see_characters.ensures.ok,
  refl,
)
