use Rattle.std.proofs.Common.{Some, ap, length, refl, sym, ◌≡◌, ◌∙◌, arith}
use Rattle.std.proofs.lemmas.Option.{slice_get-get_or}
use Rattle.exi_gram.specs.Books.{state_at}
use Rattle.exi_gram.specs.Codes.{coded}
use Rattle.exi_gram.specs.Tables.{size}
use Rattle.exi_gram.specs.declared.code.Coded.{Coded as Kept}
use Rattle.exi_choice.specs.Choices.{wanting}
use Rattle.exi_choice.proofs.Books.{found_in_book, none_in_book, place_within}
use Rattle.exi_choice.proofs.found.find_in_book.Goals as goal

pub returns-in_default : goal.returns-in_default
returns-in_default c = λ l. none_in_book c.args.book.now l c.args.grammar c.args.state (wanting c.args.wanted) (rw c.in_default.is at c.in_ok-place.ensures)

pub bounds-coded-place : goal.bounds-coded-place
bounds-coded-place c =
    let state = state_at c.args.book.now c.args.grammar c.args.state in
    let within = place_within c.args.book.now.schema (wanting c.args.wanted) (coded state) c.in-Some.place c.in-Some.value (rw c.in-Some.is at c.in_ok-place.ensures) in
    let count : length c.coded-coded.result.now ≡ size state = rw c.state.ensures at c.coded-coded.ensures.count in
    omega (arith, within, count)

pub returns : goal.returns
returns c = λ l.
    let state = state_at c.args.book.now c.args.grammar c.args.state in
    let found = rw c.in-Some.is at c.in_ok-place.ensures in
    let within = place_within c.args.book.now.schema (wanting c.args.wanted) (coded state) c.in-Some.place c.in-Some.value found in
    let count : length c.coded-coded.result.now ≡ size state = rw c.state.ensures at c.coded-coded.ensures.count in
    found_in_book c.args.book.now l c.args.grammar c.args.state (wanting c.args.wanted) c.coded-coded.result.now c.in-Some.place c.index-coded-place.result _ c.requires.exists (rw c.state.ensures at c.coded-coded.ensures.codes) found
    (slice_get-get_or c.coded-coded.result.now c.in-Some.place c.index-coded-place.result (omega (arith, within, count)) ∙ ap (λ (z : Kept). Some z) (sym c.index-coded-place.is)) c.of_book.ensures refl
