-- What the parts of a schema declare, without where it lies how the values of types are represented.
use Rattle.std.specs.Prelude.{map}
use Rattle.xsd_model.specs.Parts.{Parts}
use Rattle.xsd_schema.specs.Documents.{Declared}
use Rattle.xsd_schema.specs.Seen.{type_seen}

abbrev pub as_told : Parts → Declared
as_told p = record {
  target = p.target;
  elements = p.elements;
  attributes = p.attributes;
  types = map (type_seen p.forms) p.types;
  groups = p.groups;
  attribute_groups = p.attribute_groups;
  particles = p.particles;
}
