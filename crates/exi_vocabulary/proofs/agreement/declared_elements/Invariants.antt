use Rattle.std.proofs.Common.{◌≡◌, map, take}
use Rattle.exi_vocabulary.specs.Agreement.{of_element, shown}
use Rattle.exi_vocabulary.proofs.agreement.declared_elements.Given as goal

abbrev pub invariant-loop-element : goal.invariant-loop-element
invariant-loop-element l = map shown l.declared.items ≡ map of_element (take l.element-index l.elements)
