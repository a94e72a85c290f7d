-- What was shown of a tape that was not played to its end.
use Rattle.std.specs.Prelude.{◌≡◌, List, ◌∷◌, ◌++◌}
use Rattle.exi_names.specs.Events as event

module _ {S : Type 0} (took : S → List event.Happening → S → Type 0) where
  -- the first of the events, some or none, were taken
  abbrev pub PlaysSome : List event.Happening → S → S → Type 0
  PlaysSome events old new = (shown rest : List event.Happening) × (events ≡ shown ++ rest) × took old shown new

  -- the events before one were taken, and that one stopped it
  abbrev pub BreaksOff : (S → event.Happening → S → Type 0) → List event.Happening → S → S → Type 0
  BreaksOff broke events old new = (shown rest : List event.Happening) × (e : event.Happening) × (mid : S) × (events ≡ shown ++ e ∷ rest) × took old shown mid × broke mid e new
