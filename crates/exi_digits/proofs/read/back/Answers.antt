use Rattle.std.proofs.Common.{◌≡◌, ◌++◌, ◌+◌, ◌*◌, ◌^◌, List, ℕ, length, ap, sym, ◌∙◌, arith, refl, subst, Option, Some, None}
use Rattle.std.specs.Prelude.{reverse}
use Rattle.std.proofs.lemmas.Bool.{eqb-true}
use Rattle.std.proofs.lemmas.List.{length-reverse, nil_from_length, take-append-drop}
use Rattle.exi_digits.specs.Digits.{kept, number_behind}
use Rattle.exi_digits.proofs.Numbers.{back_in_is, back_parts, behind_nil, kept_low, word_none, word_over, word_some}
use Rattle.exi_digits.proofs.read.back.Goals as goal

pub loop-left-init : goal.loop-left-init
loop-left-init c = record { low = omega arith; left = back_in_is c.args.digits.now }

pub returns-in_err-word_back : goal.returns-in_err-word_back
returns-in_err-word_back c =
    let front = c.split_at.result.0.now in
    let behind = c.split_at.result.1.now in
    let parts : c.loop-left.left.now ≡ front ++ behind = rw (c.split_at.ensures.front, c.split_at.ensures.back) (sym (take-append-drop _ c.loop-left.left.now)) in
    let few = c.split_at.ensures.back_len in
    let least = c.min.ensures in
    let long = length-reverse behind in
    let none : number_behind 0 (reverse behind) ≡ None = sym c.word_back.ensures ∙ c.in_err-word_back.was in
    c.from_residual.ensures ∙ sym (ap (number_behind c.loop-left.number) (back_parts front behind c.loop-left.left.now parts) ∙ word_none c.loop-left.number (reverse behind) (reverse front) (omega (arith, few, least, long)) none) ∙ c.loop-left.invariant.left

pub returns-in_err-number : goal.returns-in_err-number
returns-in_err-number c =
    let front = c.split_at.result.0.now in
    let behind = c.split_at.result.1.now in
    let parts : c.loop-left.left.now ≡ front ++ behind = rw (c.split_at.ensures.front, c.split_at.ensures.back) (sym (take-append-drop _ c.loop-left.left.now)) in
    let word : number_behind 0 (reverse behind) ≡ Some c.in_ok-word_back.field-0 = sym c.word_back.ensures ∙ c.in_ok-word_back.was in
    let none : kept (c.loop-left.number * 10 ^ length (reverse behind) + c.in_ok-word_back.field-0) ≡ None = rw (length-reverse behind) (sym c.joined.ensures ∙ c.in_err-number.was) in
    c.from_residual-in_err-number.ensures ∙ sym (ap (number_behind c.loop-left.number) (back_parts front behind c.loop-left.left.now parts) ∙ word_over c.loop-left.number c.in_ok-word_back.field-0 (reverse behind) (reverse front) word none) ∙ c.loop-left.invariant.left

pub loop-left-preserved : goal.loop-left-preserved
loop-left-preserved c =
    let front = c.split_at.result.0.now in
    let behind = c.split_at.result.1.now in
    let parts : c.loop-left.left.now ≡ front ++ behind = rw (c.split_at.ensures.front, c.split_at.ensures.back) (sym (take-append-drop _ c.loop-left.left.now)) in
    let word : number_behind 0 (reverse behind) ≡ Some c.in_ok-word_back.field-0 = sym c.word_back.ensures ∙ c.in_ok-word_back.was in
    let some : kept (c.loop-left.number * 10 ^ length (reverse behind) + c.in_ok-word_back.field-0) ≡ Some c.in_ok-number.number = rw (length-reverse behind) (sym c.joined.ensures ∙ c.in_ok-number.was) in
    record {
      low = kept_low (c.loop-left.number * 10 ^ length (reverse behind) + c.in_ok-word_back.field-0) c.in_ok-number.number some;
      left = sym (ap (number_behind c.loop-left.number) (back_parts front behind c.loop-left.left.now parts) ∙ word_some c.loop-left.number c.in_ok-word_back.field-0 c.in_ok-number.number (reverse behind) (reverse front) word some) ∙ c.loop-left.invariant.left;
    }

pub returns : goal.returns
returns c =
    let none = nil_from_length c.loop-left.left.now (let e = c.loop-left-test.ensures in omega (arith, eqb-true (length c.loop-left.left.now) 0 (sym e))) in
    sym (behind_nil c.loop-left.number c.loop-left.invariant.low) ∙ ap (λ (t : List ℕ). number_behind c.loop-left.number (reverse t)) (sym none) ∙ c.loop-left.invariant.left
