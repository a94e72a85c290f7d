-- How states of a set are found.
use Rattle.std.specs.Prelude.{◌≡◌, ℕ, ◌<◌, Some, List, length, slice_get}

-- each state of the set, where a place is noted for it, stands there
abbrev pub AreMarked : List ℕ → List ℕ → Type 0
AreMarked places states = (place state : ℕ) → slice_get states place ≡ Some state → state < length places → slice_get places state ≡ Some place
