use Rattle.std.proofs.Common.{◌≡◌, ℕ, ◌<◌, ◌≤◌, length, slice_index}
use Rattle.exi_board_bench.proofs.offsets.offsets.Given as goal

abbrev pub invariant-loop-hint : goal.invariant-loop-hint
invariant-loop-hint l = ((i : ℕ) → i < length l.offsets.items → slice_index l.offsets.items i ≡ i) × (length l.offsets.items ≡ l.hint) × (l.hint ≤ 1000)
