use Rattle.std.proofs.Common.{◌≡◌, ◌∙◌, length, map, sym, subst, ap}
use Rattle.std.proofs.lemmas.List.{take_all}
use Rattle.exi_gram.specs.CodeTrees.{IsCodeSet, counted}
use Rattle.exi_gram.specs.Cells.{Branches, CellStands, all_parts, behind_front}
use Rattle.exi_gram.specs.declared.cell.Cell.TheVariants as cell
use Rattle.exi_gram.specs.declared.front.Front.TheVariants as front
use Rattle.exi_gram.specs.Tables.{parts_of}
use Rattle.exi_gram.proofs.CodeSets.{behind_none, set_branches}
use Rattle.exi_gram.proofs.code_table.CodeTable.of.Goals as goal

pub add_rows-requires-clause-tree : goal.add_rows-requires-clause-tree
add_rows-requires-clause-tree c =
    let own = c.loop-coded.own.items in
    let all : all_parts own ≡ map (λ c. parts_of c.code) c.args.codes.now = c.loop-coded.invariant.0 ∙ ap (map (λ c. parts_of c.code)) (take_all c.loop-coded.coded-index c.args.codes.now c.loop-coded-test.false) in
    let is : c.deref.result.now ≡ own = c.deref.ensures.value in
    subst (Branches 3) (sym (ap (behind_front front.Empty) is ∙ behind_none (counted 0 (all_parts own)))) (set_branches own (subst IsCodeSet (sym all) c.requires.codes))

pub invariant_of-result : goal.invariant_of-result
invariant_of-result c =
    let own = c.loop-coded.own.items in
    let cells = c.add_rows.new.cells.items in
    let at : behind_front front.Empty c.deref.result.now ≡ counted 0 (all_parts own) = ap (behind_front front.Empty) c.deref.ensures.value ∙ behind_none (counted 0 (all_parts own)) in
    let low : length c.new-cells.result.items ≡ 0 = ap length c.new-cells.ensures.items in
    subst (λ k. CellStands cells k 3 (cell.Branch c.in_ok-root.root) (counted 0 (all_parts own))) low
    (subst (CellStands cells (length c.new-cells.result.items) 3 (cell.Branch c.in_ok-root.root)) at c.in_ok-root.ensures.stands)
