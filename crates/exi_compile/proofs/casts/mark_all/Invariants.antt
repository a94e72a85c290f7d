use Rattle.std.proofs.Common.{◌≡◌, drop, length}
use Rattle.exi_compile.specs.Casts.{all_marked}
use Rattle.exi_compile.proofs.casts.mark_all.Given as goal

abbrev pub invariant-loop-of : goal.invariant-loop-of
invariant-loop-of l = all_marked (length l.types) l.types (drop l.of-index l.types) l.marks ≡ all_marked (length l.types) l.types l.types l.fn.marks
