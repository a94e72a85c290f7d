use Rattle.std.proofs.Common.{◌≡◌, ◌-◌, length}
use Rattle.exi_compile.specs.Casts.{marked_up}
use Rattle.exi_compile.proofs.casts.mark_up.Given as goal

abbrev pub invariant-loop : goal.invariant-loop
invariant-loop l = marked_up (length l.fn.types - l.counter) l.fn.types l.up l.marks ≡ marked_up (length l.fn.types) l.fn.types l.fn.first l.fn.marks
