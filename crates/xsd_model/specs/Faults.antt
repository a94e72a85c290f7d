-- What a call that reads a schema document answers.
use Rattle.std.specs.Prelude.{◌≡◌, Result, Ok, Err}
use Rattle.xsd_model.specs.declared.fault.SchemaFault.{SchemaFault}
use Rattle.xsd_model.specs.declared.fault.SchemaStop.{SchemaStop}
use Rattle.xsd_model.specs.declared.fault.SchemaStop.TheVariants as stop

-- what is read, or the fault; want of memory says nothing
abbrev pub Gives : {T X : Type 0} → (T → X) → Result T SchemaStop → Result X SchemaFault → Type 0
Gives view (Ok x) read = read ≡ Ok (view x)
Gives view (Err (stop.Fault f)) read = read ≡ Err f
Gives view (Err stop.Memory) read = Unit {0}
