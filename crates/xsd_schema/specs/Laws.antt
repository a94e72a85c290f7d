-- The parts of a schema document without a fault fit together (XML Schema 1.0 Part 1, section 2.2).
use Rattle.std.specs.Prelude.{◌≡◌, Bool, None, List, All, length, map}
use Rattle.xsd_model.specs.Parts.{IsSchemaParts, Parts}
use Rattle.xsd_tree.specs.Trees.{IsTree}
use Rattle.xsd_tree.specs.declared.node.Node.{Node}
use Rattle.xsd_declared.specs.Lists.{attribute_groups_of, attributes_of, elements_of}
use Rattle.xsd_schema.specs.Shown.{first_from}
use Rattle.xsd_particles.specs.Particles.{groups_of, particles_of}
use Rattle.xsd_schema.specs.Documents.{all_types}
use Rattle.xsd_schema.specs.Shows.{shows_at}
use Rattle.xsd_schema.specs.Seen.{type_seen}
use Rattle.xsd_schema.specs.Types.{HasFormIn}

-- these parts are what the document declares, and each type's form is one of theirs
pub record AreOf (ns : List Node) (p : Parts) : Type 0 where
  pub elements : p.elements ≡ elements_of ns
  pub attributes : p.attributes ≡ attributes_of ns
  pub types : map (type_seen p.forms) p.types ≡ all_types ns
  pub formed : All (HasFormIn (length p.forms)) p.types
  pub groups : p.groups ≡ groups_of ns
  pub attribute_groups : p.attribute_groups ≡ attribute_groups_of ns
  pub particles : p.particles ≡ particles_of ns

-- where no element shows a fault, what each part names is there, and no path reaches itself
abbrev pub Fit : Type 0
Fit = (joined : Bool) (ns : List Node) (p : Parts) → IsTree ns → first_from (shows_at joined ns) 0 ns ≡ None → AreOf ns p → IsSchemaParts p
