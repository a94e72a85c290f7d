-- String tables (EXI 1.0, section 7.3): texts that are told by their places once they stood in the stream.
--
-- URIs, local names and prefixes are lists: a text's place is its index, and lists only grow. Values may be bounded,
-- and then a place may no longer be live.
use Rattle.std.specs.Prelude.{ℕ, ◌<◌, ◌+◌, length, List, [], ◌∷◌, ◌++◌, map, position, slice_get, codes, Option, Some, None, option_to_list}
use Rattle.std.specs.Str.{bytes_eq}
use Rattle.exi_names.specs.declared.names.NameId.{NameId}
use Rattle.exi_names.specs.StartTables.{Names}
use Rattle.exi_tables.specs.Values.{ValueTable, changed_at, given_to, least_under, no_values, text_under, texts_of, with_missed}

-- a URI with its local names and prefixes
pub record Namespace : Type 0 where
  pub uri : List ℕ
  pub locals : List (List ℕ)
  pub prefixes : List (List ℕ)

-- all tables
pub record Partitions : Type 0 where
  pub namespaces : List Namespace
  pub values : ValueTable

-- ---- lists
-- the text at a place, and nothing where the place is not assigned
abbrev pub live_at : List (List ℕ) → ℕ → Option (List ℕ)
live_at texts place = slice_get texts place

-- the least place that has the text, and nothing where none has it
abbrev pub least_place : List (List ℕ) → List ℕ → Option ℕ
least_place texts text = position (λ t. bytes_eq t text) texts

-- the URIs (section 7.3.2)
abbrev pub uris : Partitions → List (List ℕ)
uris p = map (λ n. n.uri) p.namespaces

abbrev pub locals_in : Option Namespace → List (List ℕ)
locals_in None = []
locals_in (Some n) = n.locals

abbrev pub prefixes_in : Option Namespace → List (List ℕ)
prefixes_in None = []
prefixes_in (Some n) = n.prefixes

-- the local names of the URI at a place
abbrev pub locals : Partitions → ℕ → List (List ℕ)
locals p uri = locals_in (slice_get p.namespaces uri)

-- the prefixes of the URI at a place
abbrev pub prefixes : Partitions → ℕ → List (List ℕ)
prefixes p uri = prefixes_in (slice_get p.namespaces uri)

-- the places of a URI and of one of its local names
pub record IsName (p : Partitions) (name : NameId) : Type 0 where
  pub within_uris : name.uri < length (uris p)
  pub within_locals : name.local < length (locals p name.uri)

-- ---- values
-- the live values by their places in the global partition (section 7.3.3): each place below their number is live
abbrev pub values : Partitions → List (List ℕ)
values p = texts_of p.values

-- how many places were given in a name's own partition, and the text of the live value at one
abbrev pub name_values : Partitions → NameId → ℕ
name_values p name = given_to name p.values.given

abbrev pub name_value_at : Partitions → NameId → ℕ → Option (List ℕ)
name_value_at p name place = text_under name p.values.live place

-- the least place in a name's own partition of a live value with this text
abbrev pub name_value_place : Partitions → NameId → List ℕ → Option ℕ
name_value_place p name text = least_under name text p.values.live

-- ---- growth
-- a missed URI stands at the end, with no local names and no prefixes
abbrev pub with_uri : Partitions → List ℕ → Partitions
with_uri p text = record p { namespaces = p.namespaces ++ record { uri = text; locals = []; prefixes = [] } ∷ [] }

abbrev pub and_local : List ℕ → Namespace → Namespace
and_local text n = record n { locals = n.locals ++ text ∷ [] }

abbrev pub and_prefix : List ℕ → Namespace → Namespace
and_prefix text n = record n { prefixes = n.prefixes ++ text ∷ [] }

-- a missed local name stands at the end of those of its URI
abbrev pub with_local : Partitions → ℕ → List ℕ → Partitions
with_local p uri text = record p { namespaces = changed_at p.namespaces uri (and_local text) }

-- a missed prefix stands at the end of those of its URI
abbrev pub with_prefix : Partitions → ℕ → List ℕ → Partitions
with_prefix p uri text = record p { namespaces = changed_at p.namespaces uri (and_prefix text) }

-- a missed value is added as the bounds say
abbrev pub with_value : Partitions → NameId → List ℕ → Partitions
with_value p name text = record p { values = with_missed p.values name text }

-- ---- the start
-- the first prefixes: one each for the first three URIs (appendix D.2)
abbrev pub known_prefixes : List (List ℕ)
known_prefixes = [] ∷ codes "xml" ∷ codes "xsi" ∷ []

abbrev pub first_prefixes : ℕ → List (List ℕ)
first_prefixes uri = option_to_list (slice_get known_prefixes uri)

-- URIs from a place on, each with its local names and first prefixes
abbrev pub namespaces_from : ℕ → List (List ℕ) → List (List (List ℕ)) → List Namespace
namespaces_from place [] more = []
namespaces_from place (uri ∷ us) [] = []
namespaces_from place (uri ∷ us) (names ∷ more) =
    record { uri = uri; locals = names; prefixes = first_prefixes place } ∷ namespaces_from (place + 1) us more

-- the tables at the start of a stream: no values
abbrev pub first_partitions : Names → Option ℕ → Option ℕ → Partitions
first_partitions names most capacity = record {
  namespaces = namespaces_from 0 names.uris names.locals;
  values = no_values (record { most = most; capacity = capacity });
}
