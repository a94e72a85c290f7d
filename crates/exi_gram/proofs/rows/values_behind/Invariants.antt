use Rattle.std.proofs.Common.{◌≡◌, ◌≤◌, ◌^◌, take}
use Rattle.exi_gram.specs.Codes.{values_of}
use Rattle.exi_gram.specs.CodeTrees.{parts_in}
use Rattle.exi_gram.specs.Cells.{behind_front}
use Rattle.exi_gram.proofs.rows.values_behind.Given as goal

abbrev pub invariant-loop-code : goal.invariant-loop-code
invariant-loop-code l =
    (l.values ≡ values_of (parts_in (behind_front l.front (take l.code-index l.codes))))
    × (l.values ≤ 2 ^ 32)
