use Rattle.std.proofs.Common.{◌≡◌, ◌<◌, ◌+◌, ◌∙◌, List, ℕ, length, refl, arith, sym, subst}
use Rattle.std.proofs.lemmas.List.{get_or_read}
use Rattle.std.proofs.lemmas.Result.{err_from_is_err_and}
use Rattle.exi_gram.specs.Cells.{Walked, all_parts, cell_at}
use Rattle.exi_gram.specs.declared.cell.Cell.{Cell}
use Rattle.exi_gram.specs.declared.cell.Cell.TheVariants as cell
use Rattle.exi_gram.proofs.Walks.{walk_below, walk_ends, walk_fails, walk_next, walk_starts, walk_within}
use Rattle.exi_gram.proofs.code_table.CodeTable.walk.Goals as goal

pub loop-init : goal.loop-init
loop-init g c =
    let all = all_parts c.self.inside.codes.items in (
      subst (λ (codes : List (List ℕ)). Walked c.args.align c.self.inside.cells.items codes (cell.Branch c.self.inside.root) 0 c.args.input.now c.args.input.now) c.self.view_is
          (walk_starts c.args.align c.self.inside.cells.items all c.self.inside.root c.args.input.now c.self.invariant),
      omega arith,
      refl,
      c.requires.aligned,
    )

pub returns-in_err-part-clause-read : goal.returns-in_err-part-clause-read
returns-in_err-part-clause-read g c =
    let p = err_from_is_err_and c.from_residual.result c.from_residual.ensures.1 in
    rw (p.1, p.2) (walk_fails c.args.align c.self.inside.cells.items c.args.self.now c.loop.row c.loop.counter c.args.input.now c.loop.input c.in_err-part.field-0.0 c.loop.invariant.0 c.loop-test.true c.in_err-part.ensures.read.0)

pub returns-in-Leaf-clause-read : goal.returns-in-Leaf-clause-read
returns-in-Leaf-clause-read g c =
    let cells = c.self.inside.cells.items in
    let part = c.in_ok-part.part in
    let within : c.loop.row.begin + part < length cells = omega (arith, c.in_ok-part.ensures.below, walk_within c.args.align cells c.args.self.now c.loop.row c.loop.counter c.args.input.now c.loop.input c.loop.invariant.0 c.loop-test.true) in
    let here : cell_at cells (c.loop.row.begin + part) ≡ cell.Leaf c.in-Leaf.place = sym (get_or_read cells (c.loop.row.begin + part) c.index.result.now within c.index.ensures (cell.Leaf 0)) ∙ c.in-Leaf.is in
    let next = walk_next c.args.align cells c.args.self.now c.loop.row c.loop.counter part c.args.input.now c.loop.input c.read_part.new.input c.loop.invariant.0 c.loop-test.true c.in_ok-part.ensures.below c.in_ok-part.ensures.read in
    walk_ends c.args.align cells c.args.self.now c.in-Leaf.place (c.loop.counter + 1) c.args.input.now c.read_part.new.input (subst (λ (at : Cell). Walked c.args.align cells c.args.self.now at (c.loop.counter + 1) c.args.input.now c.read_part.new.input) here next)

pub returns-in-Leaf-clause-below : goal.returns-in-Leaf-clause-below
returns-in-Leaf-clause-below g c =
    let cells = c.self.inside.cells.items in
    let part = c.in_ok-part.part in
    let within : c.loop.row.begin + part < length cells = omega (arith, c.in_ok-part.ensures.below, walk_within c.args.align cells c.args.self.now c.loop.row c.loop.counter c.args.input.now c.loop.input c.loop.invariant.0 c.loop-test.true) in
    let here : cell_at cells (c.loop.row.begin + part) ≡ cell.Leaf c.in-Leaf.place = sym (get_or_read cells (c.loop.row.begin + part) c.index.result.now within c.index.ensures (cell.Leaf 0)) ∙ c.in-Leaf.is in
    let next = walk_next c.args.align cells c.args.self.now c.loop.row c.loop.counter part c.args.input.now c.loop.input c.read_part.new.input c.loop.invariant.0 c.loop-test.true c.in_ok-part.ensures.below c.in_ok-part.ensures.read in
    walk_below c.args.align cells c.args.self.now c.in-Leaf.place (c.loop.counter + 1) c.args.input.now c.read_part.new.input (subst (λ (at : Cell). Walked c.args.align cells c.args.self.now at (c.loop.counter + 1) c.args.input.now c.read_part.new.input) here next)

pub loop-preserved : goal.loop-preserved
loop-preserved g c =
    let cells = c.self.inside.cells.items in
    let part = c.in_ok-part.part in
    let within : c.loop.row.begin + part < length cells = omega (arith, c.in_ok-part.ensures.below, walk_within c.args.align cells c.args.self.now c.loop.row c.loop.counter c.args.input.now c.loop.input c.loop.invariant.0 c.loop-test.true) in
    let here : cell_at cells (c.loop.row.begin + part) ≡ cell.Branch c.in-Branch.next = sym (get_or_read cells (c.loop.row.begin + part) c.index.result.now within c.index.ensures (cell.Leaf 0)) ∙ c.in-Branch.is in
    let next = walk_next c.args.align cells c.args.self.now c.loop.row c.loop.counter part c.args.input.now c.loop.input c.read_part.new.input c.loop.invariant.0 c.loop-test.true c.in_ok-part.ensures.below c.in_ok-part.ensures.read in (
      subst (λ (at : Cell). Walked c.args.align cells c.args.self.now at (c.loop.counter + 1) c.args.input.now c.read_part.new.input) here next,
      omega (arith, c.tick.ensures, c.loop.invariant.1),
      c.in_ok-part.ensures.bytes ∙ c.loop.invariant.2,
      c.in_ok-part.ensures.aligned,
    )
