use Rattle.std.proofs.Common.{◌∙◌, sym}
use Rattle.exi_builtin.proofs.Numbering.{learned_here}
use Rattle.exi_builtin.proofs.code_list.CodeList.add_learned.Goals as goal

pub loop-part-preserved : goal.loop-part-preserved
loop-part-preserved c =
    learned_here c.args.learned.now c.loop-part.part c.unwrap-production.result c.code.result c.args.self.now c.loop-part.self c.push.new.self
    (sym c.at.ensures ∙ c.unwrap-production.ensures) c.code.ensures c.loop-part.invariant c.in_ok-push.ensures.ok
