use Rattle.std.proofs.Common.{length, ◌+◌, Some, ap, sym, ◌∙◌, map}
use Rattle.std.specs.Prelude.{option_map}
use Rattle.std.proofs.lemmas.Option.{slice_get-get_or, slice_get-map}
use Rattle.exi_gram.specs.Tables.{coded_of}
use Rattle.exi_gram.specs.declared.code.Coded.{Coded as Kept}
use Rattle.exi_choice.specs.Choices.{wanting}
use Rattle.exi_choice.proofs.Ranks.{kept_has_parts}
use Rattle.exi_choice.proofs.Searching.{few_mapped, first_found, longer_left, other_left, shortest_found, this_taken}
use Rattle.exi_choice.proofs.found.first_of_all.Goals as goal
use Rattle.exi_choice.proofs.found.first_of_all.Goals.{then-parts-fewest+in_ok-value+in-Some+else-parts-eq1, then-parts-fewest+in_ok-value+in_default, else-parts-fewest}

pub loop-place-preserved : goal.loop-place-preserved
loop-place-preserved c =
    let o = c.args.book.now.schema in
    let s = wanting c.args.wanted in
    let cs = map coded_of c.args.coded.now in
    let place = c.loop-place.place in
    let kept = c.index-coded-place.result in
    let d = coded_of kept in
    let at = slice_get-map coded_of c.args.coded.now place ∙ ap (option_map coded_of) (slice_get-get_or c.args.coded.now place kept c.loop-place-test.true ∙ ap (λ (z : Kept). Some z) (sym c.index-coded-place.is)) in
    elim c.if-parts-fewest.branch [
      | then-parts-fewest+in_ok-value+in-Some+else-parts-eq1 w ↦ rw (w.first-is, w.fewest-is, c.parts-parts.ensures) (this_taken o s cs place d at c.loop-place.fewest c.loop-place.first w.in-Some.value (few_mapped c.args.coded.now c.requires.few) (rw c.parts-parts.ensures at w.if-parts-fewest.true) (rw w.in-Some.is at w.in_ok-value.ensures) c.loop-place.invariant)
      | then-parts-fewest+in_ok-value+in_default w ↦ rw (w.first-is, w.fewest-is) (other_left o s cs place d at c.loop-place.fewest c.loop-place.first (rw w.in_default.is at w.in_ok-value.ensures) c.loop-place.invariant)
      | else-parts-fewest w ↦ rw (w.first-is, w.fewest-is) (longer_left o s cs place d at c.loop-place.fewest c.loop-place.first (kept_has_parts c.args.coded.now place d at) (rw c.parts-parts.ensures at w.if-parts-fewest.false) c.loop-place.invariant)
    ]

pub returns-then-parts-eq1 : goal.returns-then-parts-eq1
returns-then-parts-eq1 c =
    let o = c.args.book.now.schema in
    let s = wanting c.args.wanted in
    let cs = map coded_of c.args.coded.now in
    let place = c.loop-place.place in
    let kept = c.index-coded-place.result in
    let d = coded_of kept in
    let at = slice_get-map coded_of c.args.coded.now place ∙ ap (option_map coded_of) (slice_get-get_or c.args.coded.now place kept c.loop-place-test.true ∙ ap (λ (z : Kept). Some z) (sym c.index-coded-place.is)) in
    shortest_found o s c.args.coded.now (place + 1) (length d.parts) (place, c.in-Some.value) c.requires.few (sym c.parts-parts.ensures ∙ c.if-parts-eq1.true)
    (this_taken o s cs place d at c.loop-place.fewest c.loop-place.first c.in-Some.value (few_mapped c.args.coded.now c.requires.few) (rw c.parts-parts.ensures at c.if-parts-fewest.true) (rw c.in-Some.is at c.in_ok-value.ensures) c.loop-place.invariant)

pub returns : goal.returns
returns c = first_found c.args.book.now.schema (wanting c.args.wanted) c.args.coded.now c.loop-place.place c.loop-place.fewest c.loop-place.first c.requires.few c.loop-place-test.false c.loop-place.invariant
