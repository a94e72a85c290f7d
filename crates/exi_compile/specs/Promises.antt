-- What compiling promises.
use Rattle.std.specs.Prelude.{◌≡◌, Result, Ok, Err}
use Rattle.exi_gram.specs.Outlines.{Outline}
use Rattle.xsd_model.specs.declared.fault.SchemaStop.{SchemaStop}
use Rattle.xsd_model.specs.declared.fault.SchemaStop.TheVariants as stop
use Rattle.xsd_model.specs.Parts.{Parts}
use Rattle.exi_compiled.specs.Compiled.{compiled}

abbrev pub Compiles : Result Outline SchemaStop → Parts → Type 0
Compiles (Ok schema) p = compiled p ≡ Ok schema
Compiles (Err (stop.Fault fault)) p = compiled p ≡ Err fault
Compiles (Err stop.Memory) p = Unit {0}
