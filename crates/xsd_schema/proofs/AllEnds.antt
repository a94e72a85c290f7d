-- Each path along the parts of a document where nothing is wrong ends within as many steps as there are parts of its kind.
use Rattle.std.proofs.Common.{◌≡◌, List, All, length}
use Rattle.xsd_model.specs.Parts.{AllEnd, AreParticles, IsElement, IsUse, Parts, attribute_groups_at, groups_at, heads_at}
use Rattle.xsd_tree.specs.Trees.{IsTree}
use Rattle.xsd_tree.specs.declared.node.Node.{Node}
use Rattle.xsd_declared.specs.Lists.{attribute_groups_of, elements_of}
use Rattle.xsd_particles.specs.Particles.{groups_of, particles_of}
use Rattle.xsd_schema.proofs.AttributeGroups.{attribute_groups_end}
use Rattle.xsd_schema.proofs.Few.{attribute_groups_below, few_steps, groups_below, heads_below}
use Rattle.xsd_schema.proofs.Groups.{groups_end}
use Rattle.xsd_schema.proofs.Heads.{heads_end}
use Rattle.xsd_schema.proofs.Steps.{AreSure}

module _ (ns : List Node) (p : Parts) (tree : IsTree ns) (sure : AreSure ns) where
  pub all_heads_end : p.elements ≡ elements_of ns → All (IsElement p) p.elements → AllEnd (heads_at p) (length p.elements)
  all_heads_end e h = few_steps (heads_at p) (length p.elements) (heads_below p h) (λ place less. heads_end ns p tree sure e place less)

  pub all_attribute_groups_end : p.attribute_groups ≡ attribute_groups_of ns → All (λ g. All (IsUse p) g.uses) p.attribute_groups → AllEnd (attribute_groups_at p) (length p.attribute_groups)
  all_attribute_groups_end e h = few_steps (attribute_groups_at p) (length p.attribute_groups) (attribute_groups_below p h) (λ place less. attribute_groups_end ns p tree sure e place less)

  pub all_groups_end : p.groups ≡ groups_of ns → p.particles ≡ particles_of ns → AreParticles p 0 p.particles → AllEnd (groups_at p) (length p.groups)
  all_groups_end e f h = few_steps (groups_at p) (length p.groups) (groups_below p h) (λ place less. groups_end ns p tree sure e f place less)
