use Rattle.exi_reader.proofs.stepper.Stepper.follow_by_kind.Goals as goal

pub returns-in-Element-clause-hands : goal.returns-in-Element-clause-hands
returns-in-Element-clause-hands g c = rw (c.in-Element.is, c.in-Nowhere.is) c.follow_element.ensures.hands
