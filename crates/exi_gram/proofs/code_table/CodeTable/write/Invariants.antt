use Rattle.std.proofs.Common.{[], get_or}
use Rattle.exi_bits.specs.Written.{IsWholeBytes}
use Rattle.exi_gram.specs.Cells.{Writing}
use Rattle.exi_gram.proofs.code_table.CodeTable.write.Given as goal

abbrev pub invariant-loop-index : goal.invariant-loop-index
invariant-loop-index l =
    Writing l.align l.self-inside.cells.items l.self (get_or l.self l.place []) l.row l.index l.fn.out l.out
    × IsWholeBytes l.align l.out
