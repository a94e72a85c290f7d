use Rattle.std.proofs.Common.{take}
use Rattle.exi_gram.specs.Globals.{FindsNames, element_names}
use Rattle.exi_gram.proofs.globals.NameIndex.of_elements.Given as goal

abbrev pub invariant-loop-place : goal.invariant-loop-place
invariant-loop-place l = FindsNames l.index (element_names (take l.place l.elements))
