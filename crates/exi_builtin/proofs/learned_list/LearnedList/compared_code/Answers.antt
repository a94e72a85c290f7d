use Rattle.std.proofs.Common.{◌∙◌, sym, arith}
use Rattle.exi_builtin.specs.LeastCodes.{is_named}
use Rattle.exi_builtin.proofs.Least.{behind_found, behind_on, behind_past, kept_start}
use Rattle.exi_builtin.proofs.learned_list.LearnedList.compared_code.Goals as goal

pub returns-then-is_named : goal.returns-then-is_named
returns-then-is_named c =
    sym (behind_found (is_named c.args.name c.args.attribute) c.args.self.now c.loop-code.code c.learned_at.result _ (sym c.learned_at.ensures) (sym c.is_named.ensures ∙ c.if-is_named.true) c.loop-code.invariant)

pub returns : goal.returns
returns c =
    sym (behind_past (is_named c.args.name c.args.attribute) c.args.self.now c.loop-code.code _ (omega (arith, c.loop-code-test.false, c.len-code-end.ensures.count)) c.loop-code.invariant)

pub loop-code-init : goal.loop-code-init
loop-code-init c = kept_start _

pub loop-code-preserved : goal.loop-code-preserved
loop-code-preserved c =
    behind_on (is_named c.args.name c.args.attribute) c.args.self.now c.loop-code.code c.learned_at.result _ (sym c.learned_at.ensures) (sym c.is_named.ensures ∙ c.if-is_named.false) c.loop-code.invariant
