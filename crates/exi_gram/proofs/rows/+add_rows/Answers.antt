use Rattle.std.proofs.Common.{◌≡◌, ◌<◌, ◌+◌, ◌-◌, ◌∙◌, None, List, [], ◌∷◌, length, arith, sym, subst, ap}
use Rattle.std.proofs.lemmas.List.{get_or_read}
use Rattle.exi_gram.specs.declared.cell.Cell.{Cell}
use Rattle.exi_gram.specs.declared.cell.Cell.TheVariants as cell
use Rattle.exi_gram.specs.Codes.{values_of}
use Rattle.exi_gram.specs.CodeTrees.{behind, ended, parts_in}
use Rattle.exi_gram.specs.Cells.{IsTree, RowStands, CellStands, behind_front, cell_at, leaf_of, parts_left}
use Rattle.exi_gram.proofs.Trees.{behind_longer, branch_tree, longer_branches, never_last, row_branch, row_leaf, row_stands}
use Rattle.exi_gram.proofs.rows.+add_rows.Goals as goal
use Rattle.exi_gram.proofs.rows.+add_rows.Goals.{in-Branch+in-Some+in_ok-branch, in-Branch+in_default-then, in_default}

pub add_rows-requires : goal.add_rows-requires
add_rows-requires t c =
    let part = c.loop-part.part in
    let row = c.in_ok-row.row in
    let cells = c.loop-part.cells.items in
    let codes = behind_front c.args.front c.args.codes.now in
    let end = c.in_ok-row.ensures.end in
    let within : row.begin + part < length cells = omega (arith, c.loop-part-test.true, end, c.loop-part.invariant.kept) in
    let here : c.index.result.now ≡ cell_at cells (row.begin + part) = get_or_read cells (row.begin + part) c.index.result.now within c.index.ensures (cell.Leaf 0) in
    let none : None ≡ ended (behind (part ∷ []) codes) = sym (ap leaf_of (sym here ∙ c.in-Branch.is)) ∙ c.loop-part.invariant.ends part (omega arith) c.loop-part-test.true in
    let less : part < values_of (parts_in codes) = omega (arith, c.loop-part-test.true, c.in_ok-row.ensures.count) in (
      omega (arith, c.in-Some.ensures.left, c.decreases),
      (c.requires.few, longer_branches c.args.front c.in-Some.longer part c.args.codes.now c.in-Some.ensures.parts c.in-Some.ensures.left c.requires.tree less none),
    )

pub loop-part-preserved : goal.loop-part-preserved
loop-part-preserved t c =
    let part = c.loop-part.part in
    let row = c.in_ok-row.row in
    let cells = c.loop-part.cells.items in
    let others = c.add_row.new.cells.items in
    let more = parts_left c.args.front in
    let codes = behind_front c.args.front c.args.codes.now in
    let end = c.in_ok-row.ensures.end in
    let within : row.begin + part < length cells = omega (arith, c.loop-part-test.true, end, c.loop-part.invariant.kept) in
    let here : c.index.result.now ≡ cell_at cells (row.begin + part) = get_or_read cells (row.begin + part) c.index.result.now within c.index.ensures (cell.Leaf 0) in
    let less : part < values_of (parts_in codes) = omega (arith, c.loop-part-test.true, c.in_ok-row.ensures.count) in
    let tree : IsTree (more - 1) (behind (part ∷ []) codes) = branch_tree more codes part c.requires.tree less in
    elim c.match-index.branch [
      | in-Branch+in-Some+in_ok-branch w ↦
          let grown = w.add_rows.new.cells.items in
          let branch = w.in_ok-branch.branch in
          let longer = w.in-Some.longer in
          let n : parts_left longer ≡ more - 1 = omega (arith, w.in-Some.ensures.left) in
          let made : CellStands grown (length cells) (more - 1) (cell.Branch branch) (behind (part ∷ []) codes)
          = subst (λ k. CellStands grown (length cells) k (cell.Branch branch) (behind (part ∷ []) codes)) n
          (subst (CellStands grown (length cells) (parts_left longer) (cell.Branch branch)) (behind_longer c.args.front longer part c.args.codes.now w.in-Some.ensures.parts) w.in_ok-branch.ensures.stands) in
          row_branch cells others grown c.match-index.cells.items row branch part more codes c.loop-part-test.true end w.in_ok-branch.ensures.kept w.in_ok-branch.ensures.few made (ap (λ v. v.items) w.cells-is) c.loop-part.invariant
      | in-Branch+in_default-then w ↦
          let none : None ≡ ended (behind (part ∷ []) codes) = sym (ap leaf_of (sym here ∙ w.in-Branch.is)) ∙ c.loop-part.invariant.ends part (omega arith) c.loop-part-test.true in
          absurd (never_last more (behind (part ∷ []) codes) w.in_default-then.ensures.last tree none)
      | in_default w ↦
          subst (λ (cs : List Cell). RowStands cs others row (part + 1) more codes) (sym (ap (λ v. v.items) w.cells-is))
          (row_leaf cells others row part more w.in_default.field-0 codes c.loop-part-test.true tree (sym here ∙ w.in_default.is) c.loop-part.invariant)
    ]

pub returns-clause-stands : goal.returns-clause-stands
returns-clause-stands t c =
    row_stands c.loop-part.cells.items c.add_row.new.cells.items c.in_ok-row.row c.loop-part.part (parts_left c.args.front) (length c.args.cells.now.items) (behind_front c.args.front c.args.codes.now) c.requires.tree c.in_ok-row.ensures.begin c.in_ok-row.ensures.count c.in_ok-row.ensures.end c.loop-part-test.false c.loop-part.invariant
