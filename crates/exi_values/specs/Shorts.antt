-- What a reading of frequent values answers: a value, or that it reads none, and nothing is then changed.
use Rattle.std.specs.Prelude.{◌≡◌, Option, Some, None, Ok}
use Rattle.exi_bits.specs.Bits.{Spot}
use Rattle.exi_meter.specs.Metering.{Metering}
use Rattle.exi_names.specs.Seen.{Value}
use Rattle.exi_tables.specs.Partitions.{Partitions}
use Rattle.exi_typed.specs.ReadStates.{ContextReader, read_state}

-- The value is what the reading gives under any tables, and it leaves them; or the place and the meter are as they were.
abbrev pub GoesOrStays : {X : Type 0} → (X → Value) → Option X → Spot → Metering → Spot → Metering → Partitions → ContextReader Value → Type 0
GoesOrStays view (Some x) old meter new charged p read = read (read_state old meter p) ≡ Ok (view x, read_state new charged p)
GoesOrStays view None old meter new charged p read = (new ≡ old) × (charged ≡ meter)
