-- What an event charges, one charge after another: behind one that passes its limit none is made.
use Rattle.std.specs.Prelude.{◌≡◌, ℕ, Bool, true, false, List, Option, Some, None, Result, Ok, Err}
use Rattle.exi_bits.specs.declared.fault.Kind.{Kind}
use Rattle.exi_meter.specs.Metering.{IsWithin, Metering}
use Rattle.exi_writing.specs.OneEvent.{◌>>=◌}
use Rattle.exi_writing.specs.OneEvent.{Refused, limit, one_deeper, one_more, paid}
use Rattle.exi_toll.specs.declared.stop.PutStop.{PutStop}
use Rattle.exi_toll.specs.declared.stop.PutStop.TheVariants as stop

-- ---- charges, one after another: behind one that passes its limit none is made
abbrev pub Charged : Type 0
Charged = Result Metering Refused

abbrev pub charged_of : Metering → Option Kind → Charged
charged_of m None = Ok m
charged_of m (Some k) = Err (limit k m)

abbrev pub charge : List ℕ → Charged → Charged
charge units charged = charged >>= paid units

abbrev pub charge_event : Bool → Charged → Charged
charge_event counted charged = charged >>= one_more counted

abbrev pub charge_level : Bool → Charged → Charged
charge_level entered charged = charged >>= one_deeper entered

-- no limit is passed so far
abbrev pub is_within : Charged → Bool
is_within (Ok m) = true
is_within (Err why) = false

-- what is charged is within the limits, where nothing was refused
abbrev pub AreKept : Charged → Type 0
AreKept (Ok m) = IsWithin m
AreKept (Err why) = Unit {0}

-- a meter that made the charges, and what is answered
abbrev pub Settles : Result (Unit {0}) PutStop → Metering → Charged → Type 0
Settles (Ok x) m charged = charged ≡ Ok m
Settles (Err stop.NotDerived) m charged = ⊥
Settles (Err (stop.Limit k)) m charged = charged ≡ Err (limit k m)
Settles (Err stop.Memory) m charged = ⊥
