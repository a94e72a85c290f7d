use Rattle.std.proofs.Common.{◌<◌, ◌^◌, ◌∙◌, arith, rules, sym}
use Rattle.exi_gram.specs.declared.code.Code.{Code}
use Rattle.exi_gram.specs.declared.code.Code.TheVariants as code
use Rattle.exi_gram.proofs.Trees.{values_here, values_past}
use Rattle.exi_gram.proofs.rows.values_behind.Goals as goal
use Rattle.exi_gram.proofs.rows.values_behind.Goals.{in-Some+else-from-values, in-Some+then-from-values, in_default}

abbrev any : Code
any = code.One 0

pub loop-code-preserved : goal.loop-code-preserved
loop-code-preserved c = elim c.match-next.branch [
  | in-Some+then-from-values w ↦
      let next = values_here c.args.front c.args.codes.now c.loop-code.code-index any w.in-Some.part w.in-Some.field-0-1 c.loop-code-test.true (sym c.next.ensures ∙ w.in-Some.is) in
      let small : w.in-Some.part < 2 ^ 32 = search rules in
      (omega (arith, next, w.values-is, w.from-values.ensures, w.from.ensures, w.if-from-values.true, c.loop-code.invariant.0), omega (arith, w.values-is, w.from-values.ensures, small))
  | in-Some+else-from-values w ↦
      let next = values_here c.args.front c.args.codes.now c.loop-code.code-index any w.in-Some.part w.in-Some.field-0-1 c.loop-code-test.true (sym c.next.ensures ∙ w.in-Some.is) in
      (omega (arith, next, w.values-is, w.from.ensures, w.if-from-values.false, c.loop-code.invariant.0), omega (arith, w.values-is, c.loop-code.invariant.1))
  | in_default w ↦
      let next = values_past c.args.front c.args.codes.now c.loop-code.code-index any c.loop-code-test.true (sym c.next.ensures ∙ w.in_default.is) in
      (w.values-is ∙ c.loop-code.invariant.0 ∙ sym next, omega (arith, w.values-is, c.loop-code.invariant.1))
]
