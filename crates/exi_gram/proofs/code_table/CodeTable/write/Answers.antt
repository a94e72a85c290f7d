use Rattle.std.proofs.Common.{◌≡◌, ◌≤◌, ◌<◌, ◌+◌, ◌∙◌, List, ℕ, [], Some, get_or, inl, inr, length, slice_get, arith, rules, sym, subst, ap}
use Rattle.std.proofs.lemmas.List.{get_or_read, length-map}
use Rattle.exi_gram.specs.declared.cell.Cell.TheVariants as cell
use Rattle.exi_gram.specs.declared.code.Code.{Code}
use Rattle.exi_gram.specs.Cells.{CellStands, all_parts, cell_at}
use Rattle.exi_gram.specs.CodeTrees.{counted}
use Rattle.exi_gram.specs.Tables.{parts_of}
use Rattle.exi_gram.proofs.Puts.{code_at_place, few_parts, write_below, write_done, write_next, write_over, write_starts, write_within}
use Rattle.exi_gram.proofs.code_table.CodeTable.write.Goals as goal
use Rattle.exi_gram.proofs.code_table.CodeTable.write.Goals.{in-Some+in_ok-put_part+in-Branch, in-Some+in_ok-put_part+in-Leaf, in_default}

pub loop-index-init : goal.loop-index-init
loop-index-init c =
    let all = all_parts c.self.inside.codes.items in
    let h = subst (λ (codes : List (List ℕ)). CellStands c.self.inside.cells.items 0 3 (cell.Branch c.self.inside.root) (counted 0 codes)) c.self.view_is c.self.invariant in
    (write_starts c.args.align c.self.inside.cells.items c.args.self.now c.self.inside.root c.args.place c.args.out.now h c.requires.there, c.requires.aligned)

the_code : (codes : List Code) (seen : List (List ℕ)) (place : ℕ) (c : Code) → all_parts codes ≡ seen → place < length seen → c ≡ get_or codes place c → parts_of c ≡ get_or seen place []
the_code codes seen place c view there e =
    let within : place < length codes = omega (arith, ap length view, length-map codes parts_of, there) in
    code_at_place codes place c within e ∙ ap (λ (z : List (List ℕ)). get_or z place []) view

pub put_part-requires-clause-below : goal.put_part-requires-clause-below
put_part-requires-clause-below c =
    let here = the_code c.self.inside.codes.items c.args.self.now c.args.place c.index-code.result.now c.self.view_is c.requires.there c.index-code.ensures in
    let some : slice_get (get_or c.args.self.now c.args.place []) c.loop-index.index ≡ Some c.in-Some.part = sym (ap (λ (ps : List ℕ). slice_get ps c.loop-index.index) here) ∙ sym c.part_of.ensures ∙ c.in-Some.is in
    write_below c.args.align c.self.inside.cells.items c.args.self.now (get_or c.args.self.now c.args.place []) c.loop-index.row c.loop-index.index c.in-Some.part c.args.out.now c.loop-index.out c.loop-index.invariant.0 c.loop-index-test.true some

pub index-requires : goal.index-requires
index-requires c =
    let here = the_code c.self.inside.codes.items c.args.self.now c.args.place c.index-code.result.now c.self.view_is c.requires.there c.index-code.ensures in
    let some : slice_get (get_or c.args.self.now c.args.place []) c.loop-index.index ≡ Some c.in-Some.part = sym (ap (λ (ps : List ℕ). slice_get ps c.loop-index.index) here) ∙ sym c.part_of.ensures ∙ c.in-Some.is in
    let within : c.loop-index.row.begin + c.in-Some.part < length c.self.inside.cells.items = write_within c.args.align c.self.inside.cells.items c.args.self.now (get_or c.args.self.now c.args.place []) c.loop-index.row c.loop-index.index c.in-Some.part c.args.out.now c.loop-index.out c.loop-index.invariant.0 c.loop-index-test.true some in
    search rules

pub loop-index-preserved : goal.loop-index-preserved
loop-index-preserved c =
    let cells = c.self.inside.cells.items in
    let parts = get_or c.args.self.now c.args.place [] in
    let index = c.loop-index.index in
    let row = c.loop-index.row in
    let here = the_code c.self.inside.codes.items c.args.self.now c.args.place c.index-code.result.now c.self.view_is c.requires.there c.index-code.ensures in
    let same : slice_get parts index ≡ c.part_of.result = sym (ap (λ (ps : List ℕ). slice_get ps index) here) ∙ sym c.part_of.ensures in
    elim c.match-part_of.branch [
      | in-Some+in_ok-put_part+in-Leaf w ↦
          let part = w.in-Some.part in
          let some : slice_get parts index ≡ Some part = same ∙ w.in-Some.is in
          let within : row.begin + part < length cells = write_within c.args.align cells c.args.self.now parts row index part c.args.out.now c.loop-index.out c.loop-index.invariant.0 c.loop-index-test.true some in
          let leaf : cell_at cells (row.begin + part) ≡ cell.Leaf w.in-Leaf.field-0 = sym (get_or_read cells (row.begin + part) w.index.result.now within w.index.ensures (cell.Leaf 0)) ∙ w.in-Leaf.is in
          rw (w.out-is, w.row-is)
          (write_next c.args.align cells c.args.self.now parts row row index part c.args.out.now c.loop-index.out w.put_part.new.out c.loop-index.invariant.0 c.loop-index-test.true some w.in_ok-put_part.ensures.ok (inr (w.in-Leaf.field-0, leaf)), w.in_ok-put_part.ensures.aligned)
      | in-Some+in_ok-put_part+in-Branch w ↦
          let part = w.in-Some.part in
          let some : slice_get parts index ≡ Some part = same ∙ w.in-Some.is in
          let within : row.begin + part < length cells = write_within c.args.align cells c.args.self.now parts row index part c.args.out.now c.loop-index.out c.loop-index.invariant.0 c.loop-index-test.true some in
          let branch : cell_at cells (row.begin + part) ≡ cell.Branch w.in-Branch.next = sym (get_or_read cells (row.begin + part) w.index.result.now within w.index.ensures (cell.Leaf 0)) ∙ w.in-Branch.is in
          rw (w.out-is, w.row-is)
          (write_next c.args.align cells c.args.self.now parts row w.in-Branch.next index part c.args.out.now c.loop-index.out w.put_part.new.out c.loop-index.invariant.0 c.loop-index-test.true some w.in_ok-put_part.ensures.ok (inl branch), w.in_ok-put_part.ensures.aligned)
      | in_default w ↦
          rw (w.out-is, w.row-is)
          (write_over c.args.align cells c.args.self.now parts row index c.args.out.now c.loop-index.out c.loop-index.invariant.0 (same ∙ w.in_default.is), c.loop-index.invariant.1)
    ]

pub returns-clause-ok : goal.returns-clause-ok
returns-clause-ok c =
    let here = the_code c.self.inside.codes.items c.args.self.now c.args.place c.index-code.result.now c.self.view_is c.requires.there c.index-code.ensures in
    let few : length (get_or c.args.self.now c.args.place []) ≤ c.loop-index.index = omega (arith, ap length here, few_parts c.index-code.result.now, c.loop-index-test.false) in
    write_done c.args.align c.self.inside.cells.items c.args.self.now (get_or c.args.self.now c.args.place []) c.loop-index.row c.loop-index.index c.args.out.now c.loop-index.out c.loop-index.invariant.0 few
