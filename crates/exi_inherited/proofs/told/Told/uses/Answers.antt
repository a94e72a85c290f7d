use Rattle.std.proofs.Common.{◌≡◌, suc, ◌-◌, ◌≤◌, length, ap, arith}
use Rattle.std.proofs.lemmas.List.{length-map}
use Rattle.exi_inherited.specs.Told.{said_entry}
use Rattle.exi_inherited.proofs.Keeping.{uses_start, uses_step}
use Rattle.exi_inherited.proofs.told.Told.uses.Goals as goal

pub loop-left-init : goal.loop-left-init
loop-left-init c =
    let few : length c.args.self.now ≤ c.len-left.result = (let a = c.len-left.ensures.len in let b = ap length c.self.view_is in let d = length-map c.self.inside.said.entries said_entry in omega (arith, a, b, d)) in
    uses_start c.args.self.now c.new-uses.result.items c.len-left.result c.new-uses.ensures.items few

pub loop-left-preserved : goal.loop-left-preserved
loop-left-preserved c =
    let k = c.loop-left.left - 1 in
    let n : c.loop-left.left ≡ suc k = omega (arith, c.loop-left-test.true) in
    uses_step c.args.self.now c.loop-left.uses.items c.push_some.new.uses.items c.loop-left.left k c.use_at.result n c.loop-left.invariant c.use_at.ensures c.in_ok-push_some.ensures
