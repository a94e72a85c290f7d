use Rattle.std.proofs.Common.{◌≡◌, ◌∷◌, [], ◌++◌, ◌-◌, ◌+◌, suc, sym, ◌∙◌, arith, ap, List, ℕ, length, subst, ◌<◌, ◌^◌}
use Rattle.std.specs.Prelude.{reverse}
use Rattle.std.proofs.lemmas.List.{length_push}
use Rattle.exi_digits.specs.Digits.{number_behind}
use Rattle.exi_digits.proofs.Numbers.{back_end, back_step, back_stop, low_enough, low_word, next_low}
use Rattle.exi_digits.proofs.read.word_back.Goals as goal

pub digit_behind-requires : goal.digit_behind-requires
digit_behind-requires c =
    let few = c.requires.few in
    let more = ap length c.in-Some.ensures.steps ∙ length_push c.next.new.self.iter.rest.now c.in-Some.digit.now in
    record { low = low_enough (length c.args.digits.now - length c.loop-digit.digit-iterator.iter.rest.now) c.loop-digit.number c.loop-digit.invariant.low (omega (arith, few, more)) }

pub returns-in_err-number : goal.returns-in_err-number
returns-in_err-number c =
    c.from_residual.ensures ∙ sym (back_stop _ _ _ _ c.in-Some.ensures.steps (sym c.digit_behind.ensures ∙ c.in_err-number.was)) ∙ c.loop-digit.invariant.left

pub loop-digit-preserved : goal.loop-digit-preserved
loop-digit-preserved c =
    let e = sym c.digit_behind.ensures ∙ c.in_ok-number.was in
    let more = ap length c.in-Some.ensures.steps ∙ length_push c.next.new.self.iter.rest.now c.in-Some.digit.now in
    let within = c.loop-digit.invariant.within in
    let next = next_low (length c.args.digits.now - length c.loop-digit.digit-iterator.iter.rest.now) (length c.args.digits.now - length c.next.new.self.iter.rest.now) c.loop-digit.number c.in-Some.digit.now c.in_ok-number.number (omega (arith, more, within)) c.loop-digit.invariant.low e in
    record {
      within = omega (arith, more, within);
      low = next;
      left = sym (back_step _ _ _ _ _ c.in-Some.ensures.steps e) ∙ c.loop-digit.invariant.left;
    }

pub returns : goal.returns
returns c =
    let few = c.requires.few in
    let low = low_word (length c.args.digits.now - length c.loop-digit.digit-iterator.iter.rest.now) c.loop-digit.number c.loop-digit.invariant.low (omega (arith, few)) in
    sym (back_end c.loop-digit.number c.loop-digit.digit-iterator.iter.rest.now low c.in-None.ensures.steps.0) ∙ c.loop-digit.invariant.left
