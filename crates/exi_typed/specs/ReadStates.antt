-- What the reading of names and strings goes through: bits, a meter and the string tables.
use Rattle.std.specs.Prelude.{◌≡◌, ◌⊎◌, List, ℕ, Result, Ok, Err}
use Rattle.exi_bits.specs.Bits.{Spot}
use Rattle.exi_bits.specs.declared.fault.Fault.{Fault}
use Rattle.exi_bits.specs.declared.fault.Stop.{Stop}
use Rattle.exi_bits.specs.declared.fault.Stop.TheVariants as stop
use Rattle.exi_meter.specs.Metering.{Metering}
use Rattle.exi_tables.specs.Partitions.{Partitions, with_uri}

-- the meter and the string tables of a reading
pub record Context : Type 0 where
  pub meter : Metering
  pub tables : Partitions

-- where reading goes on, with which meter and tables
pub record ReadState : Type 0 where
  pub spot : Spot
  pub context : Context

-- the same, further on
abbrev pub at_spot_of : ReadState → Spot → ReadState
at_spot_of c s = record c { spot = s }

-- what is wrong, and the meter with all that was charged before
pub record Failure : Type 0 where
  pub fault : Fault
  pub meter : Metering

-- a fault, with the meter as it then stands
abbrev pub failing : {X : Type 0} → Metering → Result X Fault → Result X Failure
failing meter (Ok x) = Ok x
failing meter (Err f) = Err (record { fault = f; meter = meter })

-- a reading that may charge the meter and let the tables grow
abbrev pub ContextReader : Type 0 → Type 0
ContextReader X = ReadState → Result (X × ReadState) Failure

-- ---- what a reader answers
abbrev pub read_state : Spot → Metering → Partitions → ReadState
read_state s m p = record { spot = s; context = record { meter = m; tables = p } }

-- What was answered, and where reading goes on with which meter and tables, is what reading gives. After a fault the meter is
-- this one.
abbrev pub Goes : {X Y : Type 0} → (X → Y × ReadState) → Metering → Result X Fault → Result (Y × ReadState) Failure → Type 0
Goes view m (Ok x) read = read ≡ Ok (view x)
Goes view m (Err f) read = read ≡ Err (record { fault = f; meter = m })

-- the same, where memory may run out
abbrev pub GoesOrStops : {X Y : Type 0} → (X → Y × ReadState) → Metering → Result X Stop → Result (Y × ReadState) Failure → Type 0
GoesOrStops view m (Ok x) read = read ≡ Ok (view x)
GoesOrStops view m (Err stop.Memory) read = Unit {0}
GoesOrStops view m (Err (stop.Fault f)) read = read ≡ Err (record { fault = f; meter = m })

-- the tables are as they were, or have one URI more
abbrev pub MayHaveUri : Partitions → Partitions → Type 0
MayHaveUri old new = (new ≡ old) ⊎ ((uri : List ℕ) × (new ≡ with_uri old uri))

-- after a fault the tables are as they were; where memory ran out they may have one URI more
abbrev pub Leaves : {X : Type 0} → Result X Stop → Partitions → Partitions → Type 0
Leaves (Ok x) old new = Unit {0}
Leaves (Err stop.Memory) old new = MayHaveUri old new
Leaves (Err (stop.Fault f)) old new = new ≡ old
