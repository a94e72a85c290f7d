use Rattle.std.proofs.Common.{◌≡◌, drop}
use Rattle.xsd_nodes.specs.AttributeNames.{attribute_word}
use Rattle.xsd_nodes.specs.Nodes.{text_in}
use Rattle.xsd_nodes.proofs.around.text_in.Given as goal

abbrev pub invariant-loop-attribute : goal.invariant-loop-attribute
invariant-loop-attribute l = text_in (attribute_word l.fn.name) (drop l.attribute-index l.fn.attributes) ≡ text_in (attribute_word l.fn.name) l.fn.attributes
