use Rattle.std.proofs.Common.{◌<◌, ℕ, List, All, length, sym, subst, ◌∙◌}
use Rattle.xsd_model.specs.declared.parts.Term.TheVariants as term
use Rattle.exi_proto.proofs.Turning.{inner_inside_by, inner_is_by}
use Rattle.exi_proto.proofs.turns.inner_of.Goals as goal

pub returns-in-Sequence-clause-inside : goal.returns-in-Sequence-clause-inside
returns-in-Sequence-clause-inside c = subst (λ (xs : List ℕ). All (λ q. q < length c.args.counts.now.particles) xs) (sym c.as_slice.ensures) (inner_inside_by c.args.counts.now c.parts.result.now c.args.particle c.index-particles-particle.result (term.Sequence c.in-Sequence.places) c.particles-particles.result.now (c.parts.ensures ∙ c.elements.ensures) c.particles-particles.ensures.particles c.particles-particles.ensures.parts c.requires.inside (sym c.index-particles-particle.is) c.in-Sequence.is)

pub returns-in-Choice-clause-places : goal.returns-in-Choice-clause-places
returns-in-Choice-clause-places c = c.as_slice-in-Choice.ensures ∙ sym (inner_is_by c.args.counts.now c.parts.result.now c.args.particle c.index-particles-particle.result (term.Choice c.in-Choice.places) c.particles-particles.result.now (c.parts.ensures ∙ c.elements.ensures) c.particles-particles.ensures.particles c.requires.inside (sym c.index-particles-particle.is) c.in-Choice.is)

pub returns-in-Choice-clause-inside : goal.returns-in-Choice-clause-inside
returns-in-Choice-clause-inside c = subst (λ (xs : List ℕ). All (λ q. q < length c.args.counts.now.particles) xs) (sym c.as_slice-in-Choice.ensures) (inner_inside_by c.args.counts.now c.parts.result.now c.args.particle c.index-particles-particle.result (term.Choice c.in-Choice.places) c.particles-particles.result.now (c.parts.ensures ∙ c.elements.ensures) c.particles-particles.ensures.particles c.particles-particles.ensures.parts c.requires.inside (sym c.index-particles-particle.is) c.in-Choice.is)

pub returns-in-Element-clause-places : goal.returns-in-Element-clause-places
returns-in-Element-clause-places c = sym (inner_is_by c.args.counts.now c.parts.result.now c.args.particle c.index-particles-particle.result (term.Element c.in-Element.field-0) c.particles-particles.result.now (c.parts.ensures ∙ c.elements.ensures) c.particles-particles.ensures.particles c.requires.inside (sym c.index-particles-particle.is) c.in-Element.is)

pub returns-in-Group-clause-places : goal.returns-in-Group-clause-places
returns-in-Group-clause-places c = sym (inner_is_by c.args.counts.now c.parts.result.now c.args.particle c.index-particles-particle.result (term.Group c.in-Group.field-0) c.particles-particles.result.now (c.parts.ensures ∙ c.elements.ensures) c.particles-particles.ensures.particles c.requires.inside (sym c.index-particles-particle.is) c.in-Group.is)

pub returns-in-Wild-clause-places : goal.returns-in-Wild-clause-places
returns-in-Wild-clause-places c = sym (inner_is_by c.args.counts.now c.parts.result.now c.args.particle c.index-particles-particle.result (term.Wild c.in-Wild.field-0) c.particles-particles.result.now (c.parts.ensures ∙ c.elements.ensures) c.particles-particles.ensures.particles c.requires.inside (sym c.index-particles-particle.is) c.in-Wild.is)
