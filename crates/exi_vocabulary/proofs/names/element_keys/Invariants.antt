use Rattle.std.proofs.Common.{◌≡◌, map, take}
use Rattle.exi_order.specs.Keys.{keys_of}
use Rattle.exi_vocabulary.specs.Vocabulary.{element_name}
use Rattle.exi_vocabulary.proofs.names.element_keys.Given as goal

abbrev pub invariant-loop-element : goal.invariant-loop-element
invariant-loop-element l = keys_of l.keys.items ≡ map element_name (take l.element-index l.elements)
