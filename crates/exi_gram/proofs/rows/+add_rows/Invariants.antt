use Rattle.exi_gram.specs.Cells.{RowStands, behind_front, parts_left}
use Rattle.exi_gram.proofs.rows.+add_rows.Given as goal

abbrev pub decreases-add_rows : goal.decreases-add_rows
decreases-add_rows l = parts_left l.front

abbrev pub invariant-loop-part : goal.invariant-loop-part
invariant-loop-part l = RowStands l.cells.items l.initial.cells.items l.row l.part (parts_left l.front) (behind_front l.front l.codes)
