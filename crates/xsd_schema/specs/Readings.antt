-- What the calls that read a schema document answer.
use Rattle.std.specs.Prelude.{false, List, map, Result, Ok, Err}
use Rattle.exi_names.specs.Events.{Happening}
use Rattle.exi_names.specs.Datatypes.{Representation}
use Rattle.xsd_model.specs.Parts.{representations}
use Rattle.xsd_model.specs.declared.parts.TypeDef.{TypeDef}
use Rattle.xsd_nodes.specs.Nodes.{target}
use Rattle.xsd_declared.specs.Lists.{attribute_groups_of, attributes_of, elements_of}
use Rattle.xsd_particles.specs.Particles.{groups_of, particles_of}
use Rattle.xsd_model.specs.declared.fault.SchemaFault.{SchemaFault}
use Rattle.xsd_tree.specs.Reading.{nodes_of}
use Rattle.xsd_tree.specs.declared.node.Node.{Node}
use Rattle.xsd_schema.specs.Seen.{type_seen}
use Rattle.xsd_schema.specs.Documents.{Declared, parts_of}
use Rattle.xsd_schema.specs.declared.declarations.Declarations.{Declarations}
use Rattle.xsd_schema.specs.declared.declarations.Found.{Found}

-- without where it lies how the values of types are represented
abbrev pub as_declared : Declarations → Declared
as_declared d = record {
  target = d.target;
  elements = d.elements;
  attributes = d.attributes;
  types = map (type_seen (representations d.forms)) d.types;
  groups = d.groups;
  attribute_groups = d.attribute_groups;
  particles = d.particles;
}

-- ---- before that is known
abbrev pub as_found : List Representation → Found → Declared
as_found forms f = record {
  target = f.target;
  elements = f.elements;
  attributes = f.attributes;
  types = map (type_seen forms) f.types;
  groups = f.groups;
  attribute_groups = f.attribute_groups;
  particles = f.particles;
}

-- with these types
abbrev pub found_with : List Node → List TypeDef → Found
found_with ns types = record {
  target = target ns 0;
  elements = elements_of ns;
  attributes = attributes_of ns;
  types = types;
  groups = groups_of ns;
  attribute_groups = attribute_groups_of ns;
  particles = particles_of ns;
}

-- ---- what the events of a document declare, or the first fault
abbrev pub of_tree : Result (List Node) SchemaFault → Result Declared SchemaFault
of_tree (Ok ns) = parts_of false ns
of_tree (Err f) = Err f

abbrev pub components_of : List Happening → Result Declared SchemaFault
components_of events = of_tree (nodes_of events)
