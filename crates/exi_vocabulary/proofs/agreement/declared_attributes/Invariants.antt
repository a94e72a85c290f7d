use Rattle.std.proofs.Common.{◌≡◌, map, take}
use Rattle.exi_vocabulary.specs.Agreement.{of_attribute, shown}
use Rattle.exi_vocabulary.proofs.agreement.declared_attributes.Given as goal

abbrev pub invariant-loop-attribute : goal.invariant-loop-attribute
invariant-loop-attribute l = map shown l.declared.items ≡ map of_attribute (take l.attribute-index l.attributes)
