use Rattle.std.proofs.Common.{◌≡◌, length, map, take}
use Rattle.exi_gram.specs.Cells.{all_parts}
use Rattle.exi_gram.specs.Tables.{parts_of}
use Rattle.exi_gram.proofs.code_table.CodeTable.of.Given as goal

abbrev pub invariant-loop-coded : goal.invariant-loop-coded
invariant-loop-coded l =
    (all_parts l.own.items ≡ map (λ c. parts_of c.code) (take l.coded-index l.codes))
    × (length l.own.items ≡ l.coded-index)
