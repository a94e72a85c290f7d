use Rattle.std.proofs.Common.{◌≡◌, ◌+◌, ◌/◌, ◌%◌, ◌++◌, arith, sym, ap, ◌∙◌, subst, List, ℕ}
use Rattle.std.specs.Prelude.{string_bytes, encode_utf8}
use Rattle.exi_digits.specs.Digits.{padded}
use Rattle.exi_digits.proofs.Pushing.{Pushing, first_of_two, last_err, last_ok}
use Rattle.exi_digits.proofs.write.push_two.Goals as goal

pub returns-clause-ok : goal.returns-clause-ok
returns-clause-ok c =
    let old = string_bytes c.args.out.now in
    let n = c.args.number in
    let first = c.from-2.ensures in
    let last = c.from-3.ensures in
    let same : 48 + n % 10 ≡ c.from-3.result = omega (arith, last) in
    let p = subst (λ (x : ℕ). Pushing old (padded 2 n) (encode_utf8 x) (string_bytes c.push.new.self)) same (first_of_two old (string_bytes c.push.new.self) n c.from-2.result (omega arith) (omega (arith, first)) c.in_ok-push.ensures.bytes) in
    last_ok c.push-2.result old (padded 2 n) (encode_utf8 c.from-3.result) (string_bytes c.push.new.self) (string_bytes c.push-2.new.self) p c.push-2.ensures.bytes

pub returns-clause-err : goal.returns-clause-err
returns-clause-err c =
    let old = string_bytes c.args.out.now in
    let n = c.args.number in
    let first = c.from-2.ensures in
    let last = c.from-3.ensures in
    let same : 48 + n % 10 ≡ c.from-3.result = omega (arith, last) in
    let p = subst (λ (x : ℕ). Pushing old (padded 2 n) (encode_utf8 x) (string_bytes c.push.new.self)) same (first_of_two old (string_bytes c.push.new.self) n c.from-2.result (omega arith) (omega (arith, first)) c.in_ok-push.ensures.bytes) in
    last_err c.push-2.result old (padded 2 n) (encode_utf8 c.from-3.result) (string_bytes c.push.new.self) (string_bytes c.push-2.new.self) p c.push-2.ensures.bytes
