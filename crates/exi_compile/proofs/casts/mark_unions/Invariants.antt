use Rattle.std.proofs.Common.{◌≡◌, length}
use Rattle.exi_compile.specs.Casts.{or_unions}
use Rattle.exi_compile.proofs.Marks.{unions_on}
use Rattle.exi_compile.proofs.casts.mark_unions.Given as goal

abbrev pub invariant-loop-place : goal.invariant-loop-place
invariant-loop-place l = record {
  long : length l.marks ≡ length l.types;
  so_far : unions_on l.place l.types l.marks ≡ or_unions l.types l.fn.marks;
}
