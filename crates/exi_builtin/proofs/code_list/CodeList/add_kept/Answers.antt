use Rattle.std.proofs.Common.{◌≡◌, ◌≤◌, ◌+◌, ◌∙◌, arith, false, filter, length, sym, take}
use Rattle.std.proofs.lemmas.List.{length-take}
use Rattle.exi_builtin.specs.declared.learnable.Learnable.{Learnable}
use Rattle.exi_builtin.specs.declared.learnable.Learnable.TheVariants as learnable
use Rattle.exi_builtin.specs.BuiltIn.{is_kept}
use Rattle.exi_builtin.specs.CodeParts.{parts_before}
use Rattle.exi_builtin.proofs.Numbering.{filter_few, kept_here, kept_past}
use Rattle.exi_builtin.proofs.code_list.CodeList.add_kept.Goals as goal
use Rattle.exi_builtin.proofs.code_list.CodeList.add_kept.Goals.{then-is_kept+in_ok-push, else-is_kept}

abbrev any : Learnable
any = learnable.Known (record { uri = 0; local = 0 }) false

pub overflow_add-part : goal.overflow_add-part
overflow_add-part c =
    let index = c.loop-production.production-index in
    let before = take index c.args.productions.now in
    let few : length (filter (is_kept c.args.options.now) before) ≤ length before = filter_few (is_kept c.args.options.now) before in
    let at : c.loop-production.part ≡ c.args.from + length (filter (is_kept c.args.options.now) before) = c.loop-production.invariant.0 in
    omega (arith, few, at, length-take index c.args.productions.now)

pub loop-production-preserved : goal.loop-production-preserved
loop-production-preserved c = elim c.if-is_kept.branch [
  | then-is_kept+in_ok-push w ↦
      rw (w.part-is, w.self-is)
      (kept_here (parts_before c.args.front) c.args.from c.loop-production.part c.loop-production.production-index (is_kept c.args.options.now) c.args.productions.now any w.code.result c.args.self.now c.loop-production.self w.push.new.self
      c.loop-production-test.true (sym c.is_kept.ensures ∙ w.if-is_kept.true) w.code.ensures c.loop-production.invariant.0 c.loop-production.invariant.1 w.in_ok-push.ensures.ok)
  | else-is_kept w ↦
      rw (w.part-is, w.self-is)
      (kept_past (parts_before c.args.front) c.args.from c.loop-production.part c.loop-production.production-index (is_kept c.args.options.now) c.args.productions.now any c.args.self.now c.loop-production.self
      c.loop-production-test.true (sym c.is_kept.ensures ∙ w.if-is_kept.false) c.loop-production.invariant.0 c.loop-production.invariant.1)
]
