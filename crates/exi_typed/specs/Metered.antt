-- Each reading charges a list of texts, whatever the meter is, and the rest of it goes without the meter.
use Rattle.std.specs.Prelude.{◌≡◌, ℕ, Bool, List, Option, Result}
use Rattle.exi_bits.specs.declared.align.Align.{Align}
use Rattle.exi_bits.specs.Bits.{Spot}
use Rattle.exi_meter.specs.Metering.{Metering}
use Rattle.exi_tables.specs.Partitions.{Partitions}
use Rattle.exi_names.specs.declared.names.NameId.{NameId}
use Rattle.exi_typed.specs.ReadStates.{ReadState, ContextReader, Failure}
use Rattle.exi_typed.specs.Charging.{Charge, Unmetered, charging}
use Rattle.exi_typed.specs.Items.{Tabled, item_at}
use Rattle.exi_typed.specs.NameValues.{name_value_at}
use Rattle.exi_typed.specs.Strings.{Growth, declaration_at, known_at, literal_at, name_at, value_at}

-- a reading from a spot over tables, for every meter
pub record Metered {X : Type 0} (read : Metering → Result (X × ReadState) Failure) : Type 0 where
  pub charges : List Charge
  pub rest : Unmetered X
  pub is : (m : Metering) → read m ≡ charging charges m rest

abbrev pub IsMetered : {X : Type 0} → ContextReader X → Type 0
IsMetered {X} read = (s : Spot) (p : Partitions) → Metered {X = X} (λ m. read (record { spot = s; context = record { meter = m; tables = p } }))

-- so it is for each kind
pub record ReadingsAreMetered : Type 0 where
  pub literals : (a : Align) (grow : Growth) → IsMetered (literal_at a grow)
  pub names : (keep : Bool) (a : Align) → IsMetered (name_at keep a)
  pub known : (keep : Bool) (a : Align) (id : NameId) → IsMetered (known_at keep a id)
  pub declarations : (a : Align) → IsMetered (declaration_at a)
  pub values : (set : Option (List ℕ)) (a : Align) (name : NameId) → IsMetered (value_at set a name)
  pub name_values : (keep : Bool) (a : Align) → IsMetered (name_value_at keep a)
  pub items : (kind : Tabled) (a : Align) (name : NameId) → IsMetered (item_at kind a name)
