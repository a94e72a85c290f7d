use Rattle.std.proofs.Common.{refl, sym, ◌∙◌}
use Rattle.exi_proto.specs.declared.work.Work.{Work}
use Rattle.exi_proto.proofs.Making.{whole_next}
use Rattle.exi_proto.proofs.work.Work.finish.Goals as goal

pub loop-turn-preserved : goal.loop-turn-preserved
loop-turn-preserved c =
    let o = c.loop-turn.work in
    let n : Work = record { made = o.made; ends = o.ends; tasks = c.pop.new.self } in (
      c.in_ok-turn.ensures.tasks,
      c.in_ok-turn.ensures.whole
          ∙ sym (whole_next c.args.counts.now o n c.in-Some.task refl refl c.in-Some.ensures.items)
          ∙ c.loop-turn.invariant.1,
    )
