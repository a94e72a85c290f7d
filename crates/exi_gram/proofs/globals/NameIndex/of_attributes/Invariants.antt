use Rattle.std.proofs.Common.{take}
use Rattle.exi_gram.specs.Globals.{FindsNames, attribute_names}
use Rattle.exi_gram.proofs.globals.NameIndex.of_attributes.Given as goal

abbrev pub invariant-loop-place : goal.invariant-loop-place
invariant-loop-place l = FindsNames l.index (attribute_names (take l.place l.attributes))
