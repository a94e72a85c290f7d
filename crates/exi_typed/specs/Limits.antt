-- No limit is passed by what reading charges, wherever it ends.
use Rattle.std.specs.Prelude.{◌≡◌, ◌≤◌, Result, Ok, Err}
use Rattle.exi_meter.specs.Metering.{Bounds, Metering}
use Rattle.exi_typed.specs.ReadStates.{ReadState, ContextReader, Failure}

-- the meter has these limits, and passed none of them
pub record IsWithin (limits : Bounds) (m : Metering) : Type 0 where
  pub same : m.limits ≡ limits
  pub events : m.used.events ≤ limits.events
  pub text : m.used.text ≤ limits.text
  pub depth : m.used.deepest ≤ limits.depth

-- whatever is answered
abbrev pub EndsWithin : {X : Type 0} → Bounds → Result (X × ReadState) Failure → Type 0
EndsWithin limits (Ok x) = IsWithin limits x.1.context.meter
EndsWithin limits (Err e) = IsWithin limits e.meter

abbrev pub StaysWithin : {X : Type 0} → ContextReader X → Type 0
StaysWithin read = (limits : Bounds) (c : ReadState) → IsWithin limits c.context.meter → EndsWithin limits (read c)
