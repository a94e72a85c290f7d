use Rattle.std.proofs.Common.{◌≡◌, ◌+◌, ◌∙◌, [], ◌∷◌, None, Some, length, sym, ap, arith}
use Rattle.exi_builtin.specs.BuiltIn.{written}
use Rattle.exi_builtin.specs.LeastCodes.{first_place, is_it}
use Rattle.exi_builtin.proofs.Least.{learned_least, written_least}
use Rattle.exi_builtin.proofs.least_code.least_code.Goals as goal

pub returns-in-Some : goal.returns-in-Some
returns-in-Some c =
    let found : first_place (is_it c.args.production) c.args.learned.now ≡ Some c.in-Some.first = sym c.code_of.ensures ∙ c.in-Some.is in
    ap Some c.code.ensures ∙ sym (learned_least (is_it c.args.production) c.args.options.now c.args.room c.args.learned.now c.in-Some.first found)

pub returns-then-is_end_of_content : goal.returns-then-is_end_of_content
returns-then-is_end_of_content c =
    let none : first_place (is_it c.args.production) c.args.learned.now ≡ None = sym c.code_of.ensures ∙ c.in_default.is in
    let found : first_place (is_it c.args.production) (written c.args.room).firsts ≡ Some 0 = c.is_end_of_content.ensures c.if-is_end_of_content.true in
    let same : c.len.result ≡ length c.args.learned.now + 0 = omega (arith, c.len.ensures.count) in
    ap Some (c.code-then-is_end_of_content.ensures ∙ ap (λ k. k ∷ []) same) ∙ sym (written_least (is_it c.args.production) c.args.options.now c.args.room c.args.learned.now 0 none found)
