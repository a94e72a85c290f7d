use Rattle.exi_reader.proofs.Stepping.{told_stands}
use Rattle.exi_reader.proofs.stepper.Stepper.content.Goals as goal

pub element-requires-clause-known : goal.element-requires-clause-known
element-requires-clause-known g c = told_stands c.in-Element.name c.args.self.now.config.tables (rw c.in-Element.is at c.requires.names)

pub attribute-requires-clause-known : goal.attribute-requires-clause-known
attribute-requires-clause-known g c = told_stands c.in-Attribute.name c.args.self.now.config.tables (rw c.in-Attribute.is at c.requires.names)

pub returns-in-Element-clause-hands : goal.returns-in-Element-clause-hands
returns-in-Element-clause-hands g c = rw (c.in-Element.is) c.element.ensures.hands
