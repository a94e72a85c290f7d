-- What a reader does at a fragment, in the words of its calls.
use Rattle.std.specs.Prelude.{◌≡◌, ◌⊎◌, ℕ, false, List, ◌∷◌, ◌++◌, Option, Some, None, Result, Ok, Err}
use Rattle.exi_names.specs.Events.{Happening}
use Rattle.exi_processing.specs.Configurations.{Config}
use Rattle.exi_processing.specs.Reading.{IsReached, Reading}
use Rattle.exi_processing.specs.Runs.{Job}
use Rattle.exi_processing.specs.declared.end.End.{End}
use Rattle.exi_processing.specs.declared.turn.ReadStop.{ReadStop}
use Rattle.exi_processing.specs.declared.turn.ReadStop.TheVariants as stop
use Rattle.exi_stitch.specs.Moves.{Posting}
use Rattle.exi_stitch.specs.Stitches.{EndsThere, GoesOn, Meeting, given_at, shown_at, used_at}

-- what a reader reads; where the body begins is of no account to a fragment
abbrev pub job_in : Reading → Job
job_in r = record { setting = r.setting; bytes = r.bytes; body = 0 }

-- reading goes on there, or ends there
abbrev pub Comes : Job → ℕ → Config → Meeting → Type 0
Comes j byte c m = ((next : Config) × GoesOn j byte c m next) ⊎ ((end : End) × EndsThere j byte c m end)

-- the first of the events were shown, some or none; where they were taken no further, an event stopped what takes them
abbrev pub ShowsSome : {T : Type 0} → (T → List Happening → T → Type 0) → (T → Happening → T → Type 0) → ReadStop → List Happening → T → T → Type 0
ShowsSome took broke stop.Memory events before after = (shown : List Happening) × (rest : List Happening) × (events ≡ shown ++ rest) × took before shown after
ShowsSome {T} took broke stop.Stopped events before after = (shown : List Happening) × (rest : List Happening) × (e : Happening) × (mid : T) × (events ≡ shown ++ e ∷ rest) × took before shown mid × broke mid e after

-- all of the events were shown, or some
abbrev pub Shows : {T : Type 0} → (T → List Happening → T → Type 0) → (T → Happening → T → Type 0) → Result (Unit {0}) ReadStop → List Happening → T → T → Type 0
Shows took broke (Ok unit) events before after = took before events after
Shows took broke (Err e) events before after = ShowsSome took broke e events before after

-- the reader goes into the fragment, or memory was refused
abbrev pub Enters : Result (Option End) ReadStop → Reading → Reading → Type 0
Enters (Ok None) old new = (new.config ≡ old.config) × (new.waits ≡ false) × IsReached new
Enters (Ok (Some end)) old new = ⊥
Enters (Err stop.Memory) old new = Unit {0}
Enters (Err stop.Stopped) old new = ⊥

-- What was done at the fragment, and shown of it: reading goes on, or has ended, or was stopped there. `gave` says of what the desk
-- gave, and `used` has one byte more where it was used
abbrev pub Meets : {T : Type 0} → (T → List Happening → T → Type 0) → (T → Happening → T → Type 0) → (Option Posting → Type 0) → Result (Option End) ReadStop → ℕ → Reading → Reading → List ℕ → List ℕ → T → T → Type 0
Meets took broke gave (Ok None) byte old new used more before after = (m : Meeting) × GoesOn (job_in old) byte old.config m new.config × gave (given_at m) × took before (shown_at m) after × (more ≡ used ++ used_at byte m)
Meets took broke gave (Ok (Some end)) byte old new used more before after = (m : Meeting) × EndsThere (job_in old) byte old.config m end × gave (given_at m) × took before (shown_at m) after × (more ≡ used ++ used_at byte m)
Meets took broke gave (Err e) byte old new used more before after = (m : Meeting) × Comes (job_in old) byte old.config m × gave (given_at m) × ShowsSome took broke e (shown_at m) before after

-- where reading goes on, turns lead there, and the reader stands at no fragment
abbrev pub StillReached : Result (Option End) ReadStop → Reading → Type 0
StillReached (Ok None) r = IsReached r × (r.waits ≡ false)
StillReached (Ok (Some end)) r = Unit {0}
StillReached (Err e) r = Unit {0}
