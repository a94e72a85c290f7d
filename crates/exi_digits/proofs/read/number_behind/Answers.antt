use Rattle.std.proofs.Common.{◌≡◌, ◌++◌, ◌+◌, ◌*◌, ◌^◌, List, ℕ, length, ap, sym, ◌∙◌, arith, refl, subst, Option, Some, None}
use Rattle.std.proofs.lemmas.List.{take-append-drop}
use Rattle.std.proofs.lemmas.List.{nil_from_length}
use Rattle.std.proofs.lemmas.Bool.{eqb-true}
use Rattle.exi_digits.specs.Digits.{kept, number_behind}
use Rattle.exi_digits.proofs.Numbers.{behind_nil, kept_low, word_none, word_over, word_some}
use Rattle.exi_digits.proofs.read.number_behind.Goals as goal

pub loop-left-init : goal.loop-left-init
loop-left-init c = let f = c.ranges.before.fits in record { low = omega arith; left = refl }

pub returns-in_err-word : goal.returns-in_err-word
returns-in_err-word c =
    let front = c.split_at.result.0.now in
    let behind = c.split_at.result.1.now in
    let parts : c.loop-left.left.now ≡ front ++ behind = rw (c.split_at.ensures.front, c.split_at.ensures.back) (sym (take-append-drop c.min.result c.loop-left.left.now)) in
    let few = c.split_at.ensures.front_len in
    let least = c.min.ensures in
    let none : number_behind 0 front ≡ None = sym c.word.ensures ∙ c.in_err-word.was in
    c.from_residual.ensures ∙ sym (ap (number_behind c.loop-left.number) parts ∙ word_none c.loop-left.number front behind (omega (arith, few, least)) none) ∙ c.loop-left.invariant.left

pub returns-in_err-number : goal.returns-in_err-number
returns-in_err-number c =
    let front = c.split_at.result.0.now in
    let behind = c.split_at.result.1.now in
    let parts : c.loop-left.left.now ≡ front ++ behind = rw (c.split_at.ensures.front, c.split_at.ensures.back) (sym (take-append-drop c.min.result c.loop-left.left.now)) in
    let word : number_behind 0 front ≡ Some c.in_ok-word.field-0 = sym c.word.ensures ∙ c.in_ok-word.was in
    let none : kept (c.loop-left.number * 10 ^ length front + c.in_ok-word.field-0) ≡ None = sym c.joined.ensures ∙ c.in_err-number.was in
    c.from_residual-in_err-number.ensures ∙ sym (ap (number_behind c.loop-left.number) parts ∙ word_over c.loop-left.number c.in_ok-word.field-0 front behind word none) ∙ c.loop-left.invariant.left

pub loop-left-preserved : goal.loop-left-preserved
loop-left-preserved c =
    let front = c.split_at.result.0.now in
    let behind = c.split_at.result.1.now in
    let parts : c.loop-left.left.now ≡ front ++ behind = rw (c.split_at.ensures.front, c.split_at.ensures.back) (sym (take-append-drop c.min.result c.loop-left.left.now)) in
    let word : number_behind 0 front ≡ Some c.in_ok-word.field-0 = sym c.word.ensures ∙ c.in_ok-word.was in
    let some : kept (c.loop-left.number * 10 ^ length front + c.in_ok-word.field-0) ≡ Some c.in_ok-number.number = sym c.joined.ensures ∙ c.in_ok-number.was in
    record {
      low = kept_low (c.loop-left.number * 10 ^ length front + c.in_ok-word.field-0) c.in_ok-number.number some;
      left = sym (ap (number_behind c.loop-left.number) parts ∙ word_some c.loop-left.number c.in_ok-word.field-0 c.in_ok-number.number front behind word some) ∙ c.loop-left.invariant.left;
    }

pub returns : goal.returns
returns c =
    let none = nil_from_length c.loop-left.left.now (let e = c.loop-left-test.ensures in omega (arith, eqb-true (length c.loop-left.left.now) 0 (sym e))) in
    sym (behind_nil c.loop-left.number c.loop-left.invariant.low) ∙ ap (number_behind c.loop-left.number) (sym none) ∙ c.loop-left.invariant.left
