use Rattle.std.proofs.Common.{reverse, take}
use Rattle.exi_builtin.specs.Marks.{Indexes}
use Rattle.exi_builtin.proofs.name_index.NameIndex.of.Given as goal

abbrev pub invariant-loop-place : goal.invariant-loop-place
invariant-loop-place l = Indexes l.index (reverse (take l.place l.productions))
