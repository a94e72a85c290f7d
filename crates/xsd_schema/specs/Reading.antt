-- What the call that reads the simple types of a document gives.
use Rattle.std.specs.Prelude.{List, map}
use Rattle.xsd_model.specs.Parts.{representations}
use Rattle.xsd_schema.specs.Seen.{TypeSeen, type_seen}
use Rattle.xsd_schema.specs.declared.read.SimpleTypes.{SimpleTypes}

abbrev pub are_seen : SimpleTypes → List TypeSeen
are_seen s = map (type_seen (representations s.forms)) s.types
