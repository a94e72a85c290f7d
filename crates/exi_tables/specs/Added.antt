-- What is added to the first string tables, and how both are seen as one.
--
-- A first text's place is its index. The texts added to a list stand after its first ones: their places go on from
-- the number of these. Beside each added text its least place among all is kept.
use Rattle.std.specs.Prelude.{◌≡◌, ◌≤◌, ◌<◌, ◌+◌, ◌-◌, ◌^◌, ◌++◌, ◌∷◌, ◌⊎◌, ℕ, Bool, List, [], length, is_some, nat_eq, nat_le, slice_get, slice_index_or, Option, Some, None, option_and_then, unwrap_or, if◌then◌else◌}
use Rattle.std.specs.Map.{lookup}
use Rattle.std.specs.Str.{bytes_eq}
use Rattle.exi_names.specs.StartTables.{Names, IsStart}
use Rattle.exi_tables.specs.Partitions.{Namespace, first_prefixes, least_place, live_at}

-- ---- texts and their numbers
-- texts by their places, and the number beside each
pub record TextTable : Type 0 where
  pub texts : List (List ℕ)
  pub known : List (List ℕ × ℕ)

-- the number beside a text
abbrev pub number_of : List (List ℕ × ℕ) → List ℕ → Option ℕ
number_of known text = lookup (bytes_eq text) known

-- a text is put with a number, where it has none; the others keep theirs
abbrev pub Puts : List (List ℕ × ℕ) → List ℕ → ℕ → List (List ℕ × ℕ) → Type 0
Puts old text number new = (t : List ℕ) → number_of new t ≡ (if bytes_eq text t then Some (unwrap_or (number_of old t) number) else number_of old t)

abbrev pub is_in : List (List ℕ) → List ℕ → Bool
is_in texts text = is_some (least_place texts text)

-- each text's number is its least place among the first texts and these
pub record IsPlaced (first texts : List (List ℕ)) (known : List (List ℕ × ℕ)) : Type 0 where
  pub number : (text : List ℕ) → number_of known text ≡ (if is_in texts text then least_place (first ++ texts) text else None)
  pub few : length first + length texts < 2 ^ 32

-- ---- texts added to a list
pub record Added : Type 0 where
  -- the place of the first of them
  pub start : ℕ
  pub texts : List (List ℕ)
  pub known : List (List ℕ × ℕ)

-- the start of what nothing was added to: no text has this place
abbrev pub no_start : ℕ
no_start = 4294967295

abbrev pub none_from : ℕ → Added
none_from start = record { start = start; texts = []; known = [] }

-- nothing was added
abbrev pub idle : Added
idle = none_from no_start

-- the added text at a place
abbrev pub added_at : Added → ℕ → Option (List ℕ)
added_at a place = if nat_le a.start place then slice_get a.texts (place - a.start) else None

-- the least place of the added text at a place
abbrev pub added_least : Added → ℕ → Option ℕ
added_least a place = option_and_then (number_of a.known) (added_at a place)

-- how many texts there are, where one was added
abbrev pub count_of : Added → Option ℕ
count_of a = if nat_eq a.start no_start then None else Some (a.start + length a.texts)

-- one text more, added to a list of so many first ones
pub record IsPushed (start : ℕ) (text : List ℕ) (number : ℕ) (old new : Added) : Type 0 where
  pub start_is : new.start ≡ start
  pub texts_are : new.texts ≡ old.texts ++ text ∷ []
  pub known_is : Puts old.known text number new.known

-- these texts are added to these first ones
pub record IsAdded (first : List (List ℕ)) (a : Added) : Type 0 where
  pub start : (a.start ≡ length first) ⊎ ((a.start ≡ no_start) × (a.texts ≡ []))
  pub placed : IsPlaced first a.texts a.known

-- ---- texts added to a list of each URI
abbrev pub list_at : List Added → ℕ → Added
list_at lists uri = slice_index_or lists uri idle

-- one text more in the list of a URI; the others stay
pub record IsPushedAt (uri start : ℕ) (text : List ℕ) (number : ℕ) (old new : List Added) : Type 0 where
  pub here : IsPushed start text number (list_at old uri) (list_at new uri)
  pub others : (other : ℕ) → (other ≡ uri → ⊥) → list_at new other ≡ list_at old other

-- ---- the tables
abbrev pub first_locals : Names → ℕ → List (List ℕ)
first_locals names uri = slice_index_or names.locals uri []

-- URIs from a place on, each with the local names and the prefixes that it has there
abbrev pub namespaces_of : (ℕ → List (List ℕ)) → (ℕ → List (List ℕ)) → ℕ → List (List ℕ) → List Namespace
namespaces_of locals prefixes place [] = []
namespaces_of locals prefixes place (uri ∷ us) =
    record { uri = uri; locals = locals place; prefixes = prefixes place } ∷ namespaces_of locals prefixes (place + 1) us

abbrev pub all_locals : Names → List Added → ℕ → List (List ℕ)
all_locals first lists uri = first_locals first uri ++ (list_at lists uri).texts

abbrev pub all_prefixes : List Added → ℕ → List (List ℕ)
all_prefixes lists uri = first_prefixes uri ++ (list_at lists uri).texts

-- first tables, and what was added to them
abbrev pub joined : Names → Added → List Added → List Added → List Namespace
joined first uris locals prefixes = namespaces_of (all_locals first locals) (all_prefixes prefixes) 0 (first.uris ++ uris.texts)

pub record IsJoined (first : Names) (uris : Added) (locals prefixes : List Added) : Type 0 where
  pub start : IsStart first
  pub uris_start : uris.start ≡ length first.uris
  pub each_uri : IsPlaced first.uris uris.texts uris.known
  pub each_local : (uri : ℕ) → IsAdded (first_locals first uri) (list_at locals uri)
  pub each_prefix : (uri : ℕ) → IsAdded (first_prefixes uri) (list_at prefixes uri)
  -- nothing is added to a URI that is not there
  pub no_local : (uri : ℕ) → length (first.uris ++ uris.texts) ≤ uri → (list_at locals uri).texts ≡ []
  pub no_prefix : (uri : ℕ) → length (first.uris ++ uris.texts) ≤ uri → (list_at prefixes uri).texts ≡ []
