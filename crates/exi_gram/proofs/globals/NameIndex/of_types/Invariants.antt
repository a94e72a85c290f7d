use Rattle.std.proofs.Common.{take}
use Rattle.exi_gram.specs.Globals.{FindsNames, type_names}
use Rattle.exi_gram.proofs.globals.NameIndex.of_types.Given as goal

abbrev pub invariant-loop-place : goal.invariant-loop-place
invariant-loop-place l = FindsNames l.index (type_names (take l.place l.types))
