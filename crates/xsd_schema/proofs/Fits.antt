-- The parts of a document without a fault fit together.
use Rattle.std.proofs.Common.{◌≡◌, List, length, ap}
use Rattle.std.proofs.lemmas.List.Elements.{All-same}
use Rattle.std.specs.Prelude.{All}
use Rattle.xsd_model.specs.Parts.{AreParticles, IsAttribute, IsBelow, IsElement, IsType, IsUse, Parts}
use Rattle.xsd_model.specs.declared.parts.AttributeGroup.{AttributeGroup}
use Rattle.xsd_model.specs.declared.parts.Group.{Group}
use Rattle.xsd_model.specs.declared.parts.Particle.{Particle}
use Rattle.xsd_declared.specs.Lists.{attribute_groups_of, attributes_of}
use Rattle.xsd_particles.specs.Particles.{groups_of, particles_of}
use Rattle.xsd_schema.specs.Laws.{Fit}
use Rattle.xsd_schema.proofs.AllEnds.{all_attribute_groups_end, all_groups_end, all_heads_end}
use Rattle.xsd_schema.proofs.Attributes.{attribute_groups_fit, attributes_fit}
use Rattle.xsd_schema.proofs.Declared.{are_simple, seen_count, types_fit}
use Rattle.xsd_schema.proofs.Elements.{elements_fit}
use Rattle.xsd_schema.proofs.Free.{free_at}
use Rattle.xsd_schema.proofs.Freed.{are_sure}
use Rattle.xsd_schema.proofs.Particles.{groups_fit, particles_fit}
use Rattle.xsd_schema.proofs.Refers.{AllFree}
use Rattle.xsd_schema.proofs.Seen.{all_type_bases_end}

particles_same : (p : Parts) (xs ys : List Particle) → xs ≡ ys → AreParticles p 0 ys → AreParticles p 0 xs
particles_same p xs ys e h = rw e h

pub fit : Fit
fit joined ns p tree none of =
    let free : AllFree joined ns = λ i less e. free_at joined ns i none less e in
    let sure = are_sure joined ns free in
    let attribute_count : length p.attributes ≡ length (attributes_of ns) = ap length of.attributes in
    let attribute_group_count : length p.attribute_groups ≡ length (attribute_groups_of ns) = ap length of.attribute_groups in
    let group_count : length p.groups ≡ length (groups_of ns) = ap length of.groups in
    let particle_count : length p.particles ≡ length (particles_of ns) = ap length of.particles in
    let elements : All (IsElement p) p.elements = elements_fit ns p tree of.elements (seen_count ns p of.types) in
    let types : All (IsType p) p.types = types_fit joined ns p tree free of.types of.formed attribute_count attribute_group_count particle_count in
    let attribute_groups : All (λ (g : AttributeGroup). All (IsUse p) g.uses) p.attribute_groups =
    All-same (λ (g : AttributeGroup). All (IsUse p) g.uses) p.attribute_groups (attribute_groups_of ns) of.attribute_groups
    (attribute_groups_fit joined ns p tree free attribute_count attribute_group_count) in
    let particles : AreParticles p 0 p.particles =
    particles_same p p.particles (particles_of ns) of.particles (particles_fit joined ns p tree free (ap length of.elements) group_count particle_count) in
    record {
      elements = elements;
      attributes = All-same (IsAttribute p) p.attributes (attributes_of ns) of.attributes (attributes_fit joined ns p tree free (are_simple ns p of.types));
      types = types;
      groups = All-same (λ (g : Group). IsBelow (length p.particles) g.particle) p.groups (groups_of ns) of.groups (groups_fit ns (length p.particles) tree particle_count);
      attribute_groups = attribute_groups;
      particles = particles;
      bases = all_type_bases_end ns p tree sure of.types types;
      heads = all_heads_end ns p tree sure of.elements elements;
      group_names = all_groups_end ns p tree sure of.groups of.particles particles;
      attribute_group_names = all_attribute_groups_end ns p tree sure of.attribute_groups attribute_groups;
    }
