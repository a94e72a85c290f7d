use Rattle.std.proofs.Common.{◌≡◌}
use Rattle.exi_compiled.specs.Compiled.{type_entries_from}
use Rattle.exi_compile.proofs.Telling.{types_told}
use Rattle.exi_compile.proofs.entries.type_entries.Given as goal

abbrev pub invariant-loop-place : goal.invariant-loop-place
invariant-loop-place l = types_told l.fn.parts l.types l.place l.fn.parts.types ≡ type_entries_from l.fn.parts 0 l.fn.parts.types
