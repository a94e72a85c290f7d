use Rattle.std.proofs.Common.{rules, ◌++◌, ◌∷◌, [], ◌-◌, ◌+◌, ◌<◌, ◌≤◌, sym, ap, ◌∙◌, arith, List, ℕ, subst, length, replicate}
use Rattle.std.specs.Prelude.{string_bytes}
use Rattle.exi_digits.specs.Digits.{padded}
use Rattle.exi_digits.proofs.Pushing.{Pushing, encode_zero, last_err, last_ok, no_zeros, one_zero, pushing_front, pushing_more, pushing_none}
use Rattle.exi_digits.proofs.write.push_padded.Goals as goal

pub loop-init : goal.loop-init
loop-init c =
    subst (λ (t : List ℕ). Pushing (string_bytes c.args.out.now) (padded c.args.width c.args.number) (replicate (c.args.width - length t) 48 ++ t) (string_bytes c.args.out.now)) (sym c.format-digits.ensures.text)
    (pushing_none (string_bytes c.args.out.now) (padded c.args.width c.args.number))

pub loop-preserved : goal.loop-preserved
loop-preserved c =
    let old = string_bytes c.args.out.now in
    let text = padded c.args.width c.args.number in
    let digits = c.format-digits.result.now in
    let lt : c.loop.counter < c.args.width = omega arith in
    let p = subst (λ (t : List ℕ). Pushing old text t (string_bytes c.loop.out)) (one_zero c.args.width c.loop.counter digits lt) c.loop.invariant in
    pushing_more old text (replicate (c.args.width - (c.loop.counter + 1)) 48 ++ digits) (string_bytes c.loop.out) (string_bytes c.push.new.self) (48 ∷ []) p
    (c.in_ok-push.ensures.bytes ∙ ap (λ (t : List ℕ). string_bytes c.loop.out ++ t) encode_zero)

pub returns-in_err-push-clause-err : goal.returns-in_err-push-clause-err
returns-in_err-push-clause-err c =
    let h = pushing_front (string_bytes c.args.out.now) (padded c.args.width c.args.number) (replicate (c.args.width - c.loop.counter) 48 ++ c.format-digits.result.now) (string_bytes c.loop.out) (string_bytes c.push.new.self) c.loop.invariant c.in_err-push.ensures.bytes in
    search rules

pub returns-clause-ok : goal.returns-clause-ok
returns-clause-ok c =
    let old = string_bytes c.args.out.now in
    let text = padded c.args.width c.args.number in
    let digits = c.format-digits.result.now in
    let ge : c.args.width ≤ c.loop.counter = omega arith in
    let p = subst (λ (t : List ℕ). Pushing old text t (string_bytes c.loop.out)) (no_zeros c.args.width c.loop.counter digits ge) c.loop.invariant in
    last_ok c.push_str.result old text digits (string_bytes c.loop.out) (string_bytes c.push_str.new.self) p c.push_str.ensures.bytes

pub returns-clause-err : goal.returns-clause-err
returns-clause-err c =
    let old = string_bytes c.args.out.now in
    let text = padded c.args.width c.args.number in
    let digits = c.format-digits.result.now in
    let ge : c.args.width ≤ c.loop.counter = omega arith in
    let p = subst (λ (t : List ℕ). Pushing old text t (string_bytes c.loop.out)) (no_zeros c.args.width c.loop.counter digits ge) c.loop.invariant in
    last_err c.push_str.result old text digits (string_bytes c.loop.out) (string_bytes c.push_str.new.self) p c.push_str.ensures.bytes
