-- What reading a schema's events promises.
use Rattle.std.specs.Prelude.{◌≡◌, List, Result, Ok, Err}
use Rattle.exi_names.specs.Events.{Happening}
use Rattle.xsd_model.specs.declared.fault.SchemaStop.{SchemaStop}
use Rattle.xsd_model.specs.declared.fault.SchemaStop.TheVariants as stop
use Rattle.xsd_schema.specs.Words.{as_told}
use Rattle.xsd_known.specs.declared.known.KnownSchema.{KnownSchema as Held}
use Rattle.xsd_known.specs.Knowing.{Known, known_of}

-- what a `Known` is
abbrev pub known_in : Held → Known
known_in k = record { declared = as_told k.components; schema = k.schema }

abbrev pub Knows : Result Held SchemaStop → List Happening → Type 0
Knows (Ok k) es = known_of es ≡ Ok (known_in k)
Knows (Err (stop.Fault fault)) es = known_of es ≡ Err fault
Knows (Err stop.Memory) es = Unit {0}
