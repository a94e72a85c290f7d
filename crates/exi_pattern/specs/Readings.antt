-- What a call that reads a pattern answers.
use Rattle.std.specs.Prelude.{◌≡◌, ℕ, List, Option, option_map, Result, Ok, Err}
use Rattle.exi_pattern.specs.declared.stop.Left.{Left}
use Rattle.exi_pattern.specs.declared.stop.Stop.{Stop}
use Rattle.exi_pattern.specs.declared.stop.Stop.TheVariants as stop

-- what is read, or how many characters are left where the pattern is refused
abbrev pub Reads : {T X : Type 0} → (T → X) → Result T Left → Result X ℕ → Type 0
Reads view (Ok x) read = read ≡ Ok (view x)
Reads view (Err left) read = read ≡ Err left.0

-- why it stops: how many characters are left; want of memory says nothing
abbrev pub StopsAs : {X : Type 0} → Stop → Result X ℕ → Type 0
StopsAs (stop.Refused left) read = read ≡ Err left.0
StopsAs stop.Memory read = Unit {0}

-- what is read, or why that stops
abbrev pub Gives : {T X : Type 0} → (T → X) → Result T Stop → Result X ℕ → Type 0
Gives view (Ok x) read = read ≡ Ok (view x)
Gives view (Err e) read = StopsAs e read
