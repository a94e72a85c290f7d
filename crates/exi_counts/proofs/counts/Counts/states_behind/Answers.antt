use Rattle.std.proofs.Common.{◌∙◌}
use Rattle.exi_counts.specs.Counts.{states_of}
use Rattle.exi_counts.proofs.ContentParticles.{behind_more}
use Rattle.exi_counts.proofs.counts.Counts.states_behind.Goals as goal

pub loop-particle-preserved : goal.loop-particle-preserved
loop-particle-preserved c =
    c.few_more-total.ensures
    ∙ behind_more (states_of c.args.self.now) c.args.start c.args.particles.now c.loop-particle.particle-index c.loop-particle.total c.states.result c.loop-particle-test.true c.loop-particle.invariant c.states.ensures
