-- What a schema document declares (XML Schema 1.0 Part 1, section 2.2).
use Rattle.std.specs.Prelude.{ℕ, Bool, ◌&&◌, Option, Some, None, option_map, List, ◌++◌, map, Result, if◌then◌else◌}
use Rattle.xsd_model.specs.declared.fault.SchemaFault.{SchemaFault}
use Rattle.xsd_model.specs.declared.parts.AttributeDecl.{AttributeDecl}
use Rattle.xsd_model.specs.declared.parts.AttributeGroup.{AttributeGroup}
use Rattle.xsd_model.specs.declared.parts.ElementDecl.{ElementDecl}
use Rattle.xsd_model.specs.declared.parts.Group.{Group}
use Rattle.xsd_model.specs.declared.parts.Particle.{Particle}
use Rattle.xsd_tree.specs.declared.node.Node.{Node}
use Rattle.xsd_nodes.specs.declared.part.Part.TheVariants as part
use Rattle.xsd_nodes.specs.Nodes.{is_at, target}
use Rattle.xsd_components.specs.declared.type_at.TypeAt.{TypeAt}
use Rattle.xsd_components.specs.declared.type_at.TypeAt.TheVariants as type_at
use Rattle.xsd_contents.specs.Contents.{value_type}
use Rattle.xsd_places.specs.Kinds.{is_kind, place_of_type}
use Rattle.xsd_places.specs.declared.kind.Kind.TheVariants as kind
use Rattle.xsd_declared.specs.Decls.{event_at}
use Rattle.xsd_declared.specs.Lists.{attribute_groups_of, attributes_of, elements_of, places_of}
use Rattle.xsd_particles.specs.Particles.{complex_base, complex_of, global_name, groups_of, particles_of, wild_of}
use Rattle.xsd_paths.specs.Paths.{is_whole}
use Rattle.xsd_schema.specs.Shown.{first_from}
use Rattle.xsd_schema.specs.Seen.{TypeSeen, complex}
use Rattle.xsd_schema.specs.Types.{built_in_types, or_fault, simple_type}
use Rattle.xsd_type_wildcards.specs.TypeWildcards.{has_all_groups, type_wild}
use Rattle.xsd_wildcards.specs.declared.allowed.Allowed.{Allowed}
use Rattle.xsd_schema.specs.Shows.{shows_at}

-- ---- types
-- the type of its value, where the paths from it end
abbrev pub value_told : List Node → ℕ → Option TypeAt
value_told ns i = if is_whole ns i then value_type ns (type_at.Node i) else None

-- its attribute wildcard, where the paths from it end, and those from the groups of attributes that it and its bases name
abbrev pub wild_told : List Node → ℕ → Option Allowed
wild_told ns i = if is_whole ns i && has_all_groups ns (type_at.Node i) then type_wild ns (type_at.Node i) else None

abbrev pub complex_type : List Node → ℕ → TypeSeen
complex_type ns i = record {
  name = global_name ns i;
  base = Some (place_of_type ns (complex_base ns i));
  body = complex (complex_of ns (option_map wild_of (wild_told ns i)) (value_told ns i) i);
  event = event_at ns i;
}

abbrev pub declared_type : List Node → ℕ → TypeSeen
declared_type ns i = if is_at ns part.ComplexType i then complex_type ns i else simple_type (is_kind kind.Type ns) ns i

-- the built-in ones first
abbrev pub all_types : List Node → List TypeSeen
all_types ns = built_in_types ++ map (declared_type ns) (places_of kind.Type ns)

-- ---- all of it
pub record Declared : Type 0 where
  pub target : List ℕ
  pub elements : List ElementDecl
  pub attributes : List AttributeDecl
  pub types : List TypeSeen
  pub groups : List Group
  pub attribute_groups : List AttributeGroup
  pub particles : List Particle

abbrev pub declared : List Node → Declared
declared ns = record {
  target = target ns 0;
  elements = elements_of ns;
  attributes = attributes_of ns;
  types = all_types ns;
  groups = groups_of ns;
  attribute_groups = attribute_groups_of ns;
  particles = particles_of ns;
}

-- or the first fault
unfoldable pub parts_of : Bool → List Node → Result Declared SchemaFault
parts_of joined ns = or_fault (first_from (shows_at joined ns) 0 ns) (declared ns)
