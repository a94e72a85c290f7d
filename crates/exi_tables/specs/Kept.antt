-- What is kept beside texts and values, so that no list has to be walked.
use Rattle.std.specs.Prelude.{◌≡◌, ◌⊎◌, ◌≢◌, ◌<◌, ◌≤◌, ◌^◌, ℕ, ◌+◌, ◌-◌, Bool, true, false, List, [], ◌∷◌, ◌++◌, length, map, fold, nat_eq, nat_lt, encode_utf8_all, Option, Some, None, option_and_then, slice_get, slice_index_or, if◌then◌else◌}
use Rattle.std.specs.Hash as fed
use Rattle.std.specs.Hash.FoldHasher as folding
use Rattle.std.specs.List.{list_any}
use Rattle.std.specs.Str.{bytes_eq}
use Rattle.exi_tables.specs.declared.list_texts.Numbered.{Numbered}
use Rattle.exi_tables.specs.declared.live.Bounds.{Bounds}
use Rattle.exi_tables.specs.declared.live.Given.{Given}
use Rattle.exi_tables.specs.declared.live.Live.{Live}
use Rattle.exi_names.specs.NameMaps.{kept_for}
use Rattle.exi_names.specs.declared.names.NameId.{NameId}
use Rattle.exi_tables.specs.Added.{Added, idle, list_at}
use Rattle.exi_tables.specs.Spots.{SpotSet, is_listed}
use Rattle.exi_tables.specs.Values.{given_to, is_value, name_place, or_less}

-- each text beside its number
abbrev pub pairs_of : List Numbered → List (List ℕ × ℕ)
pairs_of items = map (λ i. (i.text, i.number)) items

abbrev pub holds_place : List ℕ → ℕ → Bool
holds_place used uri = list_any (nat_eq uri) used

-- the next place is that of a value, or the one behind them all, and is below the capacity
pub record IsRound (b : Bounds) (live : List Live) (place : ℕ) : Type 0 where
  pub next : place ≤ length live
  pub within : (capacity : ℕ) → b.capacity ≡ Some capacity → 0 < capacity → place < capacity
  pub few : length live < 2 ^ 32

-- the texts of which the places are told by the indices of their keys
abbrev pub texts_at : List (List ℕ) → List ℕ → List (List ℕ)
texts_at keys places = map (λ index. slice_index_or keys index []) places

-- each place has a key
pub record IsHashed (entries : List (List ℕ × ℕ)) (places : List ℕ) : Type 0 where
  pub within : (place index : ℕ) → slice_get places place ≡ Some index → index < length entries
  pub few_keys : length entries ≤ length places
  pub few : length places < 2 ^ 32

-- whether there is a value, with this text
abbrev pub has_text : List ℕ → Option Live → Bool
has_text text None = false
has_text text (Some l) = bytes_eq l.text text

-- each name's number is its place among those under which values were added
pub record IsNumbered (numbers : List (List (Option ℕ))) (given : List Given) : Type 0 where
  pub number : (name : NameId) → kept_for numbers name ≡ name_place name given

-- what was given under a name: the places among all of the places from `first` on
pub record Row : Type 0 where
  pub name : NameId
  pub first : ℕ
  pub places : List ℕ

abbrev pub given_of : Row → Given
given_of r = record { name = r.name; count = r.first + length r.places }

abbrev pub givens : List Row → List Given
givens rows = map given_of rows

abbrev pub row_of : NameId → List Row → Option Row
row_of name rows = option_and_then (slice_get rows) (name_place name (givens rows))

-- the place among all that is kept for a place
abbrev pub kept_in : Row → ℕ → Option ℕ
kept_in r local = if nat_lt local r.first then None else slice_get r.places (local - r.first)

abbrev pub kept_under : Option Row → ℕ → Option ℕ
kept_under None local = None
kept_under (Some r) local = kept_in r local

abbrev pub kept_place : List Row → NameId → ℕ → Option ℕ
kept_place rows name local = kept_under (row_of name rows) local

-- one more place is given
abbrev pub with_place : ℕ → Row → Row
with_place global r = record { name = r.name; first = r.first; places = r.places ++ global ∷ [] }

-- the first place for which one is kept is let go
abbrev pub without_first : Row → List ℕ → Row
without_first r [] = r
without_first r (p ∷ ps) = record { name = r.name; first = r.first + 1; places = ps }

abbrev pub without_place : ℕ → Row → Row
without_place local r = if nat_eq local r.first then without_first r r.places else r

-- every place but this one is kept
abbrev pub IsForgotten : NameId → ℕ → List Row → List Row → Type 0
IsForgotten name local old new = (n : NameId) (other : ℕ) → (n ≡ name → other ≢ local) → kept_place new n other ≡ kept_place old n other

-- the hash of a text
unfoldable pub text_hash : List ℕ → ℕ
text_hash text = folding.finish (fold folding.write folding.initial (fed.str (encode_utf8_all text)))

-- each live value is found under its name; what else is found is looked at again
pub record IsOwned (live : List Live) (rows : List Row) : Type 0 where
  pub below : (place : ℕ) (l : Live) → slice_get live place ≡ Some l → l.local < given_to l.name (givens rows)
  pub owned : (place : ℕ) (l : Live) → slice_get live place ≡ Some l → kept_place rows l.name l.local ≡ Some place

-- each live value is found by the hash of its text; what else is found is looked at again
abbrev pub IsListed : List Live → List (ℕ × SpotSet) → Type 0
IsListed live index = (place : ℕ) (l : Live) → slice_get live place ≡ Some l → is_listed index (text_hash l.text) place ≡ true

-- ---- the least among places
-- the place under the name of the value that stands here, where it has the text
abbrev pub local_of : NameId → List ℕ → Option Live → Option ℕ
local_of name text None = None
local_of name text (Some l) = if is_value name text l then Some l.local else None

-- the place, where a value with the text stands here
abbrev pub place_of : List ℕ → ℕ → Option Live → Option ℕ
place_of text place o = if has_text text o then Some place else None

abbrev pub lesser : Option ℕ → Option ℕ → Option ℕ
lesser None o = o
lesser (Some place) o = Some (or_less place o)

-- the least of what is told of these places
abbrev pub least_of : (ℕ → Option ℕ) → List ℕ → Option ℕ
least_of told [] = None
least_of told (place ∷ more) = lesser (told place) (least_of told more)

-- ---- lists that are cleared
-- nothing is added to a list that is not among those used
pub record IsUsed (used : List ℕ) (lists : List Added) : Type 0 where
  pub others : (uri : ℕ) → (holds_place used uri ≡ true) ⊎ (list_at lists uri ≡ idle)
