-- What is left to read of a tape's bytes, and what a reading function answers.
use Rattle.std.specs.Prelude.{◌≡◌, ℕ, List, ◌++◌, map, Option, Some, None, Result, Ok, Err}
use Rattle.exi_tape.specs.Rolls.{backwards}
use Rattle.exi_tape.specs.declared.walk.Walk.{Walk}
use Rattle.exi_tape.specs.declared.walk.Unread.{Unread}
use Rattle.exi_tape.specs.declared.walk.Unread.TheVariants as unread

-- the bytes that are left
abbrev pub left : Walk → List ℕ
left w = w.rest.now ++ backwards (map (λ s. s.now) w.later.items)

-- nothing is known where memory ran out; else there is nothing to read
abbrev pub IsUnread : {Y : Type 0} → Unread → Option Y → Type 0
IsUnread unread.Memory read = Unit {0}
IsUnread unread.Broken read = read ≡ None

-- what was answered, and the bytes that are left, are what reading gives
abbrev pub Gives : {X Y : Type 0} → (X → Y) → Result X Unread → List ℕ → Option (Y × List ℕ) → Type 0
Gives view (Ok x) rest read = read ≡ Some (view x, rest)
Gives view (Err e) rest read = IsUnread e read

-- the same, of what is read alone
abbrev pub GivesAlone : {X Y : Type 0} → (X → Y) → Result X Unread → Option Y → Type 0
GivesAlone view (Ok x) read = read ≡ Some (view x)
GivesAlone view (Err e) read = IsUnread e read
