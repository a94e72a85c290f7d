use Rattle.std.proofs.Common.{rules, ◌≡◌, ◌∷◌, [], sym, ap, ◌∙◌, arith, List, ℕ, subst}
use Rattle.std.specs.Prelude.{reverse, string_bytes, decimal, IsAscii}
use Rattle.std.proofs.lemmas.Fmt.{IsAscii-decimal_wide}
use Rattle.std.proofs.lemmas.List.{nil_from_length}
use Rattle.exi_digits.specs.Digits.{fraction_of}
use Rattle.exi_digits.proofs.Pushing.{Pushing, left_ascii, pushing_all, pushing_front, pushing_more, pushing_none, reverse_ascii, reverse_push}
use Rattle.exi_digits.proofs.write.push_fraction.Goals as goal

pub loop-digit-init : goal.loop-digit-init
loop-digit-init c =
    let e : c.into_iter-digit-iterator.result.iter.rest.now ≡ decimal c.args.back = cc in
    subst (λ (t : List ℕ). Pushing (string_bytes c.args.out.now) (fraction_of c.args.back) (reverse t) (string_bytes c.args.out.now)) (sym e)
    (pushing_none (string_bytes c.args.out.now) (fraction_of c.args.back))

pub loop-digit-preserved : goal.loop-digit-preserved
loop-digit-preserved c =
    let old = string_bytes c.args.out.now in
    let text = fraction_of c.args.back in
    let rest = c.next.new.self.iter.rest.now in
    let digit = c.in-Some.digit.now in
    let f = c.ranges.back.fits in
    let ascii : IsAscii text = reverse_ascii (decimal c.args.back) (IsAscii-decimal_wide c.args.back (omega arith)) in
    let p : Pushing old text (digit ∷ reverse rest) (string_bytes c.loop-digit.out) =
    subst (λ (t : List ℕ). Pushing old text t (string_bytes c.loop-digit.out)) (ap (λ (t : List ℕ). reverse t) c.in-Some.ensures.steps ∙ reverse_push rest digit) c.loop-digit.invariant in
    let one = left_ascii old text (reverse rest) (string_bytes c.loop-digit.out) digit ascii p in
    pushing_more old text (reverse rest) (string_bytes c.loop-digit.out) (string_bytes c.push.new.self) (digit ∷ []) p
    (let e = c.in_ok-push.ensures.bytes in let k = c.from.ensures in cc)

pub returns-in_err-push-clause-err : goal.returns-in_err-push-clause-err
returns-in_err-push-clause-err c =
    let h = pushing_front (string_bytes c.args.out.now) (fraction_of c.args.back) (reverse c.loop-digit.digit-iterator.iter.rest.now) (string_bytes c.loop-digit.out) (string_bytes c.push.new.self) c.loop-digit.invariant c.in_err-push.ensures.bytes in
    search rules

pub returns-clause-ok : goal.returns-clause-ok
returns-clause-ok c =
    let e = nil_from_length c.loop-digit.digit-iterator.iter.rest.now c.in-None.ensures.steps.0 in
    pushing_all (string_bytes c.args.out.now) (fraction_of c.args.back) (string_bytes c.loop-digit.out)
    (subst (λ (t : List ℕ). Pushing (string_bytes c.args.out.now) (fraction_of c.args.back) (reverse t) (string_bytes c.loop-digit.out)) e c.loop-digit.invariant)
