use Rattle.std.proofs.Common.{◌≡◌, ◌+◌, ◌<◌, ℕ, None, length}
use Rattle.exi_gram.specs.Cells.{Kept, cell_at, leaf_of}
use Rattle.exi_gram.proofs.rows.add_blanks.Given as goal

abbrev pub invariant-loop : goal.invariant-loop
invariant-loop l =
    (length l.cells.items ≡ length l.fn.cells.items + l.counter)
    × Kept l.fn.cells.items l.cells.items
    × ((part : ℕ) → part < l.counter → leaf_of (cell_at l.cells.items (length l.fn.cells.items + part)) ≡ None)
