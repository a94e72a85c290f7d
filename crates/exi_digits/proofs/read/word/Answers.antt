use Rattle.std.proofs.Common.{◌≡◌, ◌+◌, get_or, refl, sym, ◌∙◌, arith}
use Rattle.exi_digits.proofs.Numbers.{behind_end, behind_step, behind_stop, low_enough, low_word, next_low}
use Rattle.exi_digits.proofs.read.word.Goals as goal

pub digit_behind-requires : goal.digit_behind-requires
digit_behind-requires c =
    let few = c.requires.few in
    record { low = low_enough c.loop-digit.digit-index c.loop-digit.number c.loop-digit.invariant.low (omega (arith, few)) }

pub returns-in_err-number : goal.returns-in_err-number
returns-in_err-number c =
    c.from_residual.ensures ∙ sym (behind_stop c.loop-digit.number c.loop-digit.digit-index c.args.digits.now (omega arith) (sym c.digit_behind.ensures ∙ c.in_err-number.was)) ∙ c.loop-digit.invariant.left

pub loop-digit-preserved : goal.loop-digit-preserved
loop-digit-preserved c =
    let e = sym c.digit_behind.ensures ∙ c.in_ok-number.was in
    record {
      low = next_low c.loop-digit.digit-index (c.loop-digit.digit-index + 1) c.loop-digit.number (get_or c.args.digits.now c.loop-digit.digit-index 0) c.in_ok-number.number (omega arith) c.loop-digit.invariant.low e;
      left = sym (behind_step c.loop-digit.number c.in_ok-number.number c.loop-digit.digit-index c.args.digits.now (omega arith) e) ∙ c.loop-digit.invariant.left;
    }

pub returns : goal.returns
returns c =
    let few = c.requires.few in
    let low = low_word c.loop-digit.digit-index c.loop-digit.number c.loop-digit.invariant.low (omega (arith, few)) in
    sym (behind_end c.loop-digit.number c.loop-digit.digit-index c.args.digits.now low (omega arith)) ∙ c.loop-digit.invariant.left
