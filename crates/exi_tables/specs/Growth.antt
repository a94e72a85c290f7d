-- What look-ups find and growth keeps: laws about the definitions of string tables.
use Rattle.std.specs.Prelude.{◌≡◌, ◌≢◌, ◌<◌, ◌≤◌, ℕ, List, length, Some, slice_get}
use Rattle.exi_names.specs.declared.names.NameId.{NameId}
use Rattle.exi_tables.specs.Partitions.{Partitions, live_at, locals, name_values, prefixes, uris, values}
use Rattle.exi_tables.specs.Values.{ValueTable, given_to}
use Rattle.exi_tables.specs.declared.live.Live.{Live}

-- the place has the text, and no lesser place has it
pub record IsLeast (texts : List (List ℕ)) (text : List ℕ) (place : ℕ) : Type 0 where
  pub found : live_at texts place ≡ Some text
  pub least : (lesser : ℕ) → lesser < place → live_at texts lesser ≢ Some text

-- each place keeps its text
abbrev pub KeepsPlaces : List (List ℕ) → List (List ℕ) → Type 0
KeepsPlaces old new = (place : ℕ) (text : List ℕ) → live_at old place ≡ Some text → live_at new place ≡ Some text

-- each place of the URIs, local names and prefixes keeps its text; values may go
pub record KeepsAll (old new : Partitions) : Type 0 where
  pub each_uri : KeepsPlaces (uris old) (uris new)
  pub each_local : (uri : ℕ) → KeepsPlaces (locals old uri) (locals new uri)
  pub each_prefix : (uri : ℕ) → KeepsPlaces (prefixes old uri) (prefixes new uri)

-- no partition has more than so many places
pub record NoneLonger (most : ℕ) (p : Partitions) : Type 0 where
  pub few_uris : length (uris p) ≤ most
  pub few_locals : (uri : ℕ) → length (locals p uri) ≤ most
  pub few_prefixes : (uri : ℕ) → length (prefixes p uri) ≤ most
  pub few_values : length (values p) ≤ most
  pub few_own : (name : NameId) → name_values p name ≤ most

-- no place under a name was given twice, and none is live that was not given
pub record IsSound (t : ValueTable) : Type 0 where
  pub given : (place : ℕ) (l : Live) → slice_get t.live place ≡ Some l → l.local < given_to l.name t.given
  pub once : (place other : ℕ) (l m : Live) → slice_get t.live place ≡ Some l → slice_get t.live other ≡ Some m → l.name ≡ m.name → l.local ≡ m.local → place ≡ other
  -- the next value takes a new place at the end, or that of a value
  pub next : t.next ≤ length t.live
