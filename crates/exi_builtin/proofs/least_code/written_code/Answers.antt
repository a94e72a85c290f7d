use Rattle.std.proofs.Common.{◌≡◌, ◌+◌, ◌∙◌, [], ◌∷◌, Some, length, sym, ap, arith}
use Rattle.exi_builtin.specs.LeastCodes.{is_it}
use Rattle.exi_builtin.proofs.Least.{written_least}
use Rattle.exi_builtin.proofs.least_code.written_code.Goals as goal

pub returns-in-Some : goal.returns-in-Some
returns-in-Some c =
    let found = sym c.first_written.ensures ∙ c.in-Some.is in
    let same : c.len.result + c.in-Some.place ≡ length c.args.learned.now + c.in-Some.place = omega (arith, c.len.ensures.count) in
    ap Some (c.code.ensures ∙ ap (λ k. k ∷ []) same) ∙ sym (written_least (is_it c.args.production) c.args.options.now c.args.room c.args.learned.now c.in-Some.place c.requires found)
