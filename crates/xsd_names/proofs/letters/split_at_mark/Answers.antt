use Rattle.std.proofs.Common.{◌+◌, List, ℕ, Some, ap, sym, ◌∙◌, arith, get_or}
use Rattle.exi_digits.specs.Splits.{is_mark}
use Rattle.exi_digits.proofs.Splitting.{all_behind, mark_is, no_mark, passed_all, passed_more, passed_none, passed_to}
use Rattle.xsd_names.proofs.Items.{item_is}
use Rattle.xsd_names.proofs.letters.split_at_mark.Goals as goal

pub loop-place-init : goal.loop-place-init
loop-place-init c = passed_none (is_mark c.args.mark) c.args.letters.now

pub returns-then-c-mark-clause-before : goal.returns-then-c-mark-clause-before
returns-then-c-mark-clause-before c =
    let item = item_is c.args.letters.now c.loop-place.place c.index-letters-place.result c.loop-place-test.true c.index-letters-place.is in
    (passed_to (is_mark c.args.mark) c.args.letters.now c.loop-place.place c.loop-place-test.true (mark_is c.args.mark (get_or c.args.letters.now c.loop-place.place 0) (item ∙ c.if-c-mark.true)) c.loop-place.invariant).0

pub returns-then-c-mark-clause-behind : goal.returns-then-c-mark-clause-behind
returns-then-c-mark-clause-behind c =
    let item = item_is c.args.letters.now c.loop-place.place c.index-letters-place.result c.loop-place-test.true c.index-letters-place.is in
    ap (λ (t : List ℕ). Some t) (all_behind c.args.letters.now (c.loop-place.place + 1)) ∙ (passed_to (is_mark c.args.mark) c.args.letters.now c.loop-place.place c.loop-place-test.true (mark_is c.args.mark (get_or c.args.letters.now c.loop-place.place 0) (item ∙ c.if-c-mark.true)) c.loop-place.invariant).1

pub loop-place-preserved : goal.loop-place-preserved
loop-place-preserved c =
    let item = item_is c.args.letters.now c.loop-place.place c.index-letters-place.result c.loop-place-test.true c.index-letters-place.is in
    passed_more (is_mark c.args.mark) c.args.letters.now c.loop-place.place c.loop-place-test.true (no_mark c.args.mark (get_or c.args.letters.now c.loop-place.place 0) (λ e. c.if-c-mark.false (sym item ∙ e))) c.loop-place.invariant

pub returns-clause-before : goal.returns-clause-before
returns-clause-before c = (passed_all (is_mark c.args.mark) c.args.letters.now c.loop-place.place (omega arith) c.loop-place.invariant).0

pub returns-clause-behind : goal.returns-clause-behind
returns-clause-behind c = (passed_all (is_mark c.args.mark) c.args.letters.now c.loop-place.place (omega arith) c.loop-place.invariant).1
