-- Declarations, as the parts of a schema.
use Rattle.xsd_model.specs.Parts.{Parts, representations}
use Rattle.xsd_schema.specs.declared.declarations.Declarations.{Declarations}

abbrev pub parts_in : Declarations → Parts
parts_in d = record {
  target = d.target;
  elements = d.elements;
  attributes = d.attributes;
  types = d.types;
  groups = d.groups;
  attribute_groups = d.attribute_groups;
  particles = d.particles;
  forms = representations d.forms;
}
