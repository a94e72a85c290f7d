use Rattle.std.proofs.Common.{◌≡◌, ◌<◌, ℕ, length, take}
use Rattle.exi_gram.specs.Codes.{values_of}
use Rattle.exi_gram.specs.CodeTrees.{parts_in}
use Rattle.exi_gram.specs.Cells.{TellsEnds, behind_front, cell_at}
use Rattle.exi_gram.proofs.rows.mark_ends.Given as goal

abbrev pub invariant-loop-place : goal.invariant-loop-place
invariant-loop-place l =
    (length l.cells.items ≡ length l.fn.cells.items)
    × ((place : ℕ) → place < l.begin → cell_at l.cells.items place ≡ cell_at l.fn.cells.items place)
    × TellsEnds l.cells.items l.begin (values_of (parts_in (behind_front l.front l.codes))) (behind_front l.front (take l.place l.codes))
