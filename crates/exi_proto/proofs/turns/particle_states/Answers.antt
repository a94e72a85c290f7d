use Rattle.std.proofs.Common.{◌∙◌}
use Rattle.exi_proto.specs.declared.work.Task.TheVariants as task
use Rattle.exi_proto.specs.Attributes.{made_of}
use Rattle.exi_proto.specs.Protos.{piece_of}
use Rattle.exi_proto.specs.Tasks.{set_at}
use Rattle.exi_proto.proofs.Making.{if_ok, whole_first, whole_task}
use Rattle.exi_proto.proofs.turns.particle_states.Goals as goal

pub returns : goal.returns
returns c =
    let p = c.args.counts.now in
    let t = task.Particle c.args.particle c.args.spot in
    if_ok c.finish.result
    (λ all e. e ∙ whole_task p c.behind-work.result c.push_task.new.self t c.in_ok-push_task.ensures.made c.in_ok-push_task.ensures.ends c.in_ok-push_task.ensures.tasks
    ∙ whole_first p c.behind-work.result (made_of c.args.states) (set_at c.args.spot (piece_of p c.args.particle).states) c.behind-work.ensures.made c.behind-work.ensures.ends c.behind-work.ensures.tasks)
    c.finish.ensures
