use Rattle.std.proofs.Common.{◌∙◌}
use Rattle.exi_tables.proofs.Used.{same_widened, used_widened}
use Rattle.exi_tables.proofs.added.AddedLists.widen.Goals as goal

pub loop-alloc-preserved : goal.loop-alloc-preserved
loop-alloc-preserved g c =
    rw (c.in_ok-push.ensures.items, c.new.ensures) (
      used_widened c.loop-alloc.self-inside.used.items c.loop-alloc.self-inside.lists.items c.loop-alloc.invariant.0,
      λ other. same_widened c.loop-alloc.self-inside.lists.items other ∙ c.loop-alloc.invariant.1 other,
    )

pub invariant_of-self : goal.invariant_of-self
invariant_of-self g c = c.loop-alloc.invariant.0

pub invariant_of-self-in_err-push : goal.invariant_of-self-in_err-push
invariant_of-self-in_err-push g c = rw c.in_err-push.ensures.items c.loop-alloc.invariant.0
