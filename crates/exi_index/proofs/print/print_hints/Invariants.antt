use Rattle.std.proofs.Common.{◌≡◌, take}
use Rattle.std.specs.Prelude.{string_bytes}
use Rattle.exi_index.specs.Hints.{lines_of}
use Rattle.exi_index.proofs.print.print_hints.Given as goal

abbrev pub invariant-loop-hint : goal.invariant-loop-hint
invariant-loop-hint l = string_bytes l.out ≡ lines_of (take l.hint-index l.offsets)
