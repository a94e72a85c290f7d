use Rattle.std.proofs.Common.{◌≡◌, map, take}
use Rattle.exi_order.specs.Keys.{keys_of}
use Rattle.exi_vocabulary.specs.Vocabulary.{attribute_name}
use Rattle.exi_vocabulary.proofs.names.attribute_keys.Given as goal

abbrev pub invariant-loop-attribute : goal.invariant-loop-attribute
invariant-loop-attribute l = keys_of l.keys.items ≡ map attribute_name (take l.attribute-index l.attributes)
