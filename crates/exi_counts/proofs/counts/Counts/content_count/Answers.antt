use Rattle.std.proofs.Common.{sym, ap, ◌∙◌, subst}
use Rattle.xsd_model.specs.Parts.{Parts}
use Rattle.exi_inherited.specs.Contents.{content_of}
use Rattle.exi_counts.specs.Kinds.{AreParticlesOf}
use Rattle.exi_counts.proofs.ContentParticles.{content_there}
use Rattle.exi_counts.proofs.counts.Counts.content_count.Goals as goal

pub content_states-requires : goal.content_states-requires
content_states-requires c =
    let p = c.args.self.now in
    record { there = subst (AreParticlesOf p) (sym (c.in_ok-content.ensures ∙ ap (λ (q : Parts). content_of q c.args.of) (c.parts.ensures ∙ c.elements.ensures))) (content_there p c.requires.schema c.args.of) }
