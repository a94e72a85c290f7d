-- Charges of text: a list beside what is spelled or read, whatever the meter is. The limits are the codec's own.
use Rattle.std.specs.Prelude.{◌≡◌, ℕ, ◌+◌, true, List, [], ◌∷◌, Result, Ok, Err, if◌then◌else◌}
use Rattle.exi_bits.specs.declared.fault.Fault.{Fault}
use Rattle.exi_bits.specs.declared.fault.Kind.TheVariants as kind
use Rattle.exi_bits.specs.Bits.{Spot}
use Rattle.exi_meter.specs.Metering.{Metering, text_fits, with_text}
use Rattle.exi_tables.specs.Partitions.{Partitions}
use Rattle.exi_typed.specs.ReadStates.{Failure, ReadState}

-- so many units of text, and the bit at which they are charged
pub record Charge : Type 0 where
  pub units : ℕ
  pub bit : ℕ

-- one charge
abbrev pub one_charge : ℕ → ℕ → List Charge
one_charge units bit = record { units = units; bit = bit } ∷ []

-- the same charges, so many bits further on
abbrev pub later : ℕ → List Charge → List Charge
later n [] = []
later n (k ∷ ks) = record { units = k.units; bit = k.bit + n } ∷ later n ks

-- the units alone
abbrev pub units_of : List Charge → List ℕ
units_of [] = []
units_of (k ∷ ks) = k.units ∷ units_of ks

-- the meter takes them in turn
abbrev pub IsTaken : List Charge → Metering → Metering → Type 0
IsTaken [] m n = n ≡ m
IsTaken (k ∷ ks) m n = (text_fits m k.units ≡ true) × IsTaken ks (with_text m k.units) n

-- what a reading gives without a meter
abbrev pub Unmetered : Type 0 → Type 0
Unmetered X = Result (X × (Spot × Partitions)) Fault

abbrev pub metered : {X : Type 0} → Metering → Unmetered X → Result (X × ReadState) Failure
metered m (Ok found) = Ok (found.0, record { spot = found.1.0; context = record { meter = m; tables = found.1.1 } })
metered m (Err f) = Err (record { fault = f; meter = m })

-- the charges in turn, and then this; the first that does not fit is the fault, with those before it charged
abbrev pub charging : {X : Type 0} → List Charge → Metering → Unmetered X → Result (X × ReadState) Failure
charging [] m r = metered m r
charging (k ∷ ks) m r = if text_fits m k.units then charging ks (with_text m k.units) r else Err (record { fault = record { kind = kind.TextLimit; bit = k.bit }; meter = m })
