-- What events are (EXI 1.0, section 4), and what an object that takes them keeps.
use Rattle.std.specs.Prelude.{◌≡◌, ℕ, ◌≤◌, ◌+◌, ◌-◌, ◌^◌, ◌++◌, Bool, List, min, Option, Some, None}
use Rattle.exi_names.specs.Seen.{Value, seen}
use Rattle.exi_names.specs.declared.names.QName.{QName}
use Rattle.exi_names.specs.declared.event.Event.{Event}
use Rattle.exi_names.specs.declared.event.Event.TheVariants as event

-- an event, without where it lies in memory
pub data Happening : Type 0 where
  sd : Happening
  ed : Happening
  se : QName → Happening
  ee : Happening
  at : QName → Value → Happening
  ch : Value → Happening
  -- URI, prefix, and whether the prefix is that of the element itself
  ns : List ℕ → List ℕ → Bool → Happening
  -- the byte at which the fragment begins
  sc : ℕ → Happening
  cm : List ℕ → Happening
  -- target and text
  pi : List ℕ → List ℕ → Happening
  -- name, public and system identifier, text
  dt : List ℕ → List ℕ → List ℕ → List ℕ → Happening
  er : List ℕ → Happening

-- the event that an `Event` is
abbrev pub happens : Event → Happening
happens event.Sd = sd
happens event.Ed = ed
happens (event.Se n) = se n
happens event.Ee = ee
happens (event.At n v) = at n (seen v)
happens (event.Ch v) = ch (seen v)
happens (event.Ns uri prefix element) = ns uri prefix element
happens (event.Sc place) = sc place
happens (event.Cm t) = cm t
happens (event.Pi target t) = pi target t
happens (event.Dt n public system t) = dt n public system t
happens (event.Er n) = er n

-- a count that stands at its type's end, or has risen
abbrev pub Rose : ℕ → ℕ → Type 0
Rose before now = min (before + 1) (2 ^ 64 - 1) ≤ now

-- what was told grows by this, where it is told
abbrev pub Grows : {X : Type 0} → Option (List X) → List X → Option (List X) → Type 0
Grows None more new = new ≡ None
Grows (Some old) more new = new ≡ Some (old ++ more)
