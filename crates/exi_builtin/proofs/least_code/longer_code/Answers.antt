use Rattle.std.proofs.Common.{◌∙◌, Some, sym, ap, arith}
use Rattle.exi_builtin.specs.LeastCodes.{is_it}
use Rattle.exi_builtin.proofs.Least.{member_least, no_least, single_least}
use Rattle.exi_builtin.proofs.least_code.longer_code.Goals as goal

pub returns-in-Some : goal.returns-in-Some
returns-in-Some c =
    ap Some c.code.ensures ∙ sym (single_least (is_it c.args.production) c.args.options.now c.args.room c.args.learned.now c.as_written-written.result.firsts.now c.as_written-written.result.singles.now c.as_written-written.result.members.now _ _ c.as_written-written.ensures.written c.requires.new c.requires.behind (omega (arith, c.len.ensures.count)) (sym c.kept_place.ensures ∙ c.in-Some.is))

pub returns-in_err-third : goal.returns-in_err-third
returns-in_err-third c =
    rw c.from_residual.ensures (sym (no_least (is_it c.args.production) c.args.options.now c.args.room c.args.learned.now c.as_written-written.result.firsts.now c.as_written-written.result.singles.now c.as_written-written.result.members.now c.as_written-written.ensures.written c.requires.new c.requires.behind (sym c.kept_place.ensures ∙ c.in_default.is) (sym c.kept_place-2.ensures ∙ c.in_err-third.was)))

pub returns : goal.returns
returns c =
    ap Some c.code-2.ensures ∙ sym (member_least (is_it c.args.production) c.args.options.now c.args.room c.args.learned.now c.as_written-written.result.firsts.now c.as_written-written.result.singles.now c.as_written-written.result.members.now _ _ _ c.as_written-written.ensures.written c.requires.new c.requires.behind (omega (arith, c.len.ensures.count)) (sym c.kept_place.ensures ∙ c.in_default.is) c.kept_count-second.ensures.count (sym c.kept_place-2.ensures ∙ c.in_ok-third.was))
