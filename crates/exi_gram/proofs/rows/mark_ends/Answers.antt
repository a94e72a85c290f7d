use Rattle.std.proofs.Common.{◌≡◌, ◌<◌, ◌≤◌, ◌+◌, ◌∙◌, Some, get_or, length, set, true, arith, rules, sym, ap}
use Rattle.std.proofs.lemmas.List.{get_or-set_other, length-set}
use Rattle.exi_gram.specs.declared.cell.Cell.TheVariants as cell
use Rattle.exi_gram.specs.declared.code.Code.{Code}
use Rattle.exi_gram.specs.declared.code.Code.TheVariants as code
use Rattle.exi_gram.specs.Codes.{values_of}
use Rattle.exi_gram.specs.CodeTrees.{along, parts_in}
use Rattle.exi_gram.specs.Cells.{behind_front, cell_at, front_parts, next_part}
use Rattle.exi_gram.specs.Tables.{parts_of}
use Rattle.exi_gram.proofs.Trees.{ends_here, ends_past, no_end, none_ends, values_here, values_rest}
use Rattle.exi_gram.proofs.rows.mark_ends.Goals as goal
use Rattle.exi_gram.proofs.rows.mark_ends.Goals.{in-Some+else-last, in-Some+then-last, in_default}

abbrev any : Code
any = code.One 0

pub index_mut-requires : goal.index_mut-requires
index_mut-requires c =
    let place = c.loop-place.place in
    let here = values_here c.args.front c.args.codes.now place any c.in-Some.part c.in-Some.last c.loop-place-test.true (sym c.next.ensures ∙ c.in-Some.is) in
    let rest = values_rest c.args.front c.args.codes.now (place + 1) in
    let fits : c.args.begin + c.in-Some.part < length c.loop-place.cells.items = omega (arith, here, rest, c.requires.room, c.loop-place.invariant.0) in
    search rules

pub loop-place-preserved : goal.loop-place-preserved
loop-place-preserved c =
    let place = c.loop-place.place in
    let codes = c.args.codes.now in
    let count = values_of (parts_in (behind_front c.args.front codes)) in
    elim c.match-next.branch [
      | in-Some+then-last w ↦
          let part = w.in-Some.part in
          let cells = c.loop-place.cells.items in
          let here : next_part (along (front_parts c.args.front) (parts_of (get_or codes place any))) ≡ Some (part, true) = sym c.next.ensures ∙ w.in-Some.is ∙ ap (λ last. Some (part, last)) w.if-last.true in
          let is : c.match-next.cells.items ≡ set cells (c.args.begin + part) (cell.Leaf place) = ap (λ v. v.items) w.cells-is in
          let room : c.args.begin + count ≤ length cells = omega (arith, c.requires.room, c.loop-place.invariant.0) in (
            ap length is ∙ length-set cells (c.args.begin + part) (cell.Leaf place) ∙ c.loop-place.invariant.0,
            (λ at less. ap (λ cs. cell_at cs at) is ∙ get_or-set_other cells (c.args.begin + part) at (cell.Leaf place) (cell.Leaf 0) (λ e. omega (arith, e, less)) ∙ c.loop-place.invariant.1 at less),
            ends_here c.args.front codes place any cells c.match-next.cells.items c.args.begin count part c.loop-place-test.true here is room c.loop-place.invariant.2,
          )
      | in-Some+else-last w ↦
          let not = no_end (along (front_parts c.args.front) (parts_of (get_or codes place any))) w.in-Some.part w.in-Some.last (sym c.next.ensures ∙ w.in-Some.is) w.if-last.false in
          rw w.cells-is (c.loop-place.invariant.0, c.loop-place.invariant.1, ends_past c.args.front codes place any c.loop-place.cells.items c.args.begin count c.loop-place-test.true not c.loop-place.invariant.2)
      | in_default w ↦
          let not = none_ends (along (front_parts c.args.front) (parts_of (get_or codes place any))) (sym c.next.ensures ∙ w.in_default.is) in
          rw w.cells-is (c.loop-place.invariant.0, c.loop-place.invariant.1, ends_past c.args.front codes place any c.loop-place.cells.items c.args.begin count c.loop-place-test.true not c.loop-place.invariant.2)
    ]
