-- The attributes of a fragment's elements.
use Rattle.std.specs.Prelude.{Bool, if◌then◌else◌}
use Rattle.exi_names.specs.Datatypes.{text}
use Rattle.exi_gram.specs.Terminals.{Rule, at}
use Rattle.exi_gram.specs.Wholes.{plain}
use Rattle.xsd_model.specs.declared.parts.AttributeDecl.{AttributeDecl}
use Rattle.xsd_model.specs.Parts.{Parts}
use Rattle.exi_proto.specs.Protos.{representation_of}

-- AT of one, typed where all of its name agree
abbrev pub attribute_at : Parts → AttributeDecl → Bool → Rule
attribute_at p a agrees = plain (at a.name (if agrees then representation_of p a.of else text)) 0
