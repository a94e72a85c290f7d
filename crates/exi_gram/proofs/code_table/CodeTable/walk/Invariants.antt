use Rattle.std.proofs.Common.{◌≡◌, ◌+◌}
use Rattle.exi_bits.specs.Bits.{IsAligned}
use Rattle.exi_gram.specs.Cells.{Walked}
use Rattle.exi_gram.specs.declared.cell.Cell.TheVariants as cell
use Rattle.exi_gram.proofs.code_table.CodeTable.walk.Given as goal

abbrev pub invariant-loop : goal.invariant-loop
invariant-loop g l =
    Walked l.align l.self-inside.cells.items l.self (cell.Branch l.row) l.counter l.fn.input l.input
    × (l.steps ≡ l.fn.steps + l.counter)
    × (l.input.bytes ≡ l.fn.input.bytes)
    × IsAligned l.align l.input
