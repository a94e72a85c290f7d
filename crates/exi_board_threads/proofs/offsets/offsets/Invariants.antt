use Rattle.std.proofs.Common.{◌≡◌, ◌≤◌, length}
use Rattle.exi_board_threads.specs.Offsets.{AreOffsets}
use Rattle.exi_board_threads.proofs.offsets.offsets.Given as goal

abbrev pub invariant-loop-hint : goal.invariant-loop-hint
invariant-loop-hint l = AreOffsets l.offsets.items × (length l.offsets.items ≡ l.hint) × (l.hint ≤ 1000)
