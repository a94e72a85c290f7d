-- What the answers of readers stand for: names, declarations and strings by their places in the string tables.
use Rattle.std.specs.Prelude.{◌≡◌, ◌<◌, ℕ, List, [], length, get_or, Option, Some, None, option_map}
use Rattle.exi_names.specs.declared.names.NameId.{NameId}
use Rattle.exi_tables.specs.Partitions.{IsName, Partitions, locals, prefixes, uris, with_local, with_prefix, with_uri, with_value}
use Rattle.exi_typed.specs.Strings.{Declaration, Named, place_in}
use Rattle.exi_typed.specs.declared.declarations.DeclarationAt.{DeclarationAt}
use Rattle.exi_typed.specs.declared.declarations.DeclarationRead.{DeclarationRead}
use Rattle.exi_typed.specs.declared.names.NameAt.{NameAt}
use Rattle.exi_typed.specs.declared.parts.NameRead.{NameRead}
use Rattle.exi_typed.specs.declared.spaces.Space.{Space}
use Rattle.exi_typed.specs.declared.spaces.Spelled.{Spelled}
use Rattle.exi_typed.specs.declared.spaces.Spelled.TheVariants as spelled
use Rattle.exi_typed.specs.declared.strings.StringRead.{StringRead}
use Rattle.exi_typed.specs.declared.strings.StringRead.TheVariants as string_read

-- the text at a place of a list that has it
abbrev pub text_in : List (List ℕ) → ℕ → List ℕ
text_in texts place = get_or texts place []

-- ---- names
-- a place where the list has one, or none
abbrev pub IsPlaceIn : List (List ℕ) → Option ℕ → Type 0
IsPlaceIn texts None = Unit {0}
IsPlaceIn texts (Some place) = place < length texts

-- the places of a name, and that of its prefix where it has one, exist
pub record IsNameAt (p : Partitions) (n : NameAt) : Type 0 where
  pub name : IsName p n.id
  pub prefix : IsPlaceIn (prefixes p n.id.uri) n.prefix

-- the name that stands at these places
abbrev pub name_in : Partitions → NameAt → Named
name_in p n = record {
  id = n.id;
  name = record { uri = text_in (uris p) n.id.uri; local = text_in (locals p n.id.uri) n.id.local; prefix = option_map (text_in (prefixes p n.id.uri)) n.prefix };
}

-- ---- namespace declarations
-- the places of a declaration exist
pub record IsDeclarationAt (p : Partitions) (d : DeclarationAt) : Type 0 where
  pub uri : d.uri < length (uris p)
  pub prefix : d.prefix < length (prefixes p d.uri)

-- the declaration that stands at these places
abbrev pub declaration_in : Partitions → DeclarationAt → Declaration
declaration_in p d = record { uri = text_in (uris p) d.uri; prefix = text_in (prefixes p d.uri) d.prefix; element = d.element }

-- ---- string values
-- the text of a string value
abbrev pub string_text : StringRead → List ℕ
string_text (string_read.Stands text) = text.now
string_text (string_read.Missed text) = text

-- the tables once it is added, where it was missed
abbrev pub with_string : Partitions → NameId → StringRead → Partitions
with_string p name (string_read.Stands text) = p
with_string p name (string_read.Missed text) = with_value p name text

-- ---- what is read before it is added
abbrev pub with_missed_uri : Partitions → Option (List ℕ) → Partitions
with_missed_uri p None = p
with_missed_uri p (Some text) = with_uri p text

-- the tables once the URI is added, where it was missed
abbrev pub with_space : Partitions → Space → Partitions
with_space p s = with_missed_uri p s.missed

abbrev pub missed_or : Option (List ℕ) → List ℕ → List ℕ
missed_or None text = text
missed_or (Some missed) text = missed

-- the URI
abbrev pub space_text : Partitions → Space → List ℕ
space_text p s = missed_or s.missed (text_in (uris p) s.place)

-- the text that was told among these by its place, or spelled out
abbrev pub spelled_text : List (List ℕ) → Spelled → List ℕ
spelled_text texts (spelled.Placed place) = text_in texts place
spelled_text texts (spelled.Missed text) = text

-- the place is one of these
abbrev pub IsSpelledIn : List (List ℕ) → Spelled → Type 0
IsSpelledIn texts (spelled.Placed place) = place < length texts
IsSpelledIn texts (spelled.Missed text) = Unit {0}

-- the tables once the local name, or the prefix, is added, where it was missed
abbrev pub with_spelled_local : Partitions → ℕ → Spelled → Partitions
with_spelled_local p uri (spelled.Placed place) = p
with_spelled_local p uri (spelled.Missed text) = with_local p uri text

abbrev pub with_spelled_prefix : Partitions → ℕ → Spelled → Partitions
with_spelled_prefix p uri (spelled.Placed place) = p
with_spelled_prefix p uri (spelled.Missed text) = with_prefix p uri text

-- the tables once the texts of a name are added, where they were missed
abbrev pub with_name : Partitions → NameRead → Partitions
with_name p r = with_spelled_local (with_space p r.space) r.space.place r.local

-- the name
abbrev pub name_of : Partitions → NameRead → Named
name_of p r = record {
  id = record { uri = r.space.place; local = place_in (locals (with_name p r) r.space.place) (spelled_text (locals (with_space p r.space) r.space.place) r.local) };
  name = record {
    uri = space_text p r.space;
    local = spelled_text (locals (with_space p r.space) r.space.place) r.local;
    prefix = option_map (text_in (prefixes (with_name p r) r.space.place)) r.prefix;
  };
}

-- the URI stands at its place, once it is added
pub record IsSpace (p : Partitions) (s : Space) : Type 0 where
  pub within : s.place < length (uris (with_space p s))
  pub text_is : text_in (uris (with_space p s)) s.place ≡ space_text p s

-- so does the URI of a name, and the places under it exist
pub record IsNameRead (p : Partitions) (r : NameRead) : Type 0 where
  pub space : IsSpace p r.space
  pub local : IsSpelledIn (locals (with_space p r.space) r.space.place) r.local
  pub prefix : IsPlaceIn (prefixes (with_name p r) r.space.place) r.prefix

-- the tables once the texts of a declaration are added, where they were missed
abbrev pub with_declaration : Partitions → DeclarationRead → Partitions
with_declaration p r = with_spelled_prefix (with_space p r.space) r.space.place r.prefix

-- the declaration
abbrev pub declaration_of : Partitions → DeclarationRead → Declaration
declaration_of p r = record { uri = space_text p r.space; prefix = spelled_text (prefixes (with_space p r.space) r.space.place) r.prefix; element = r.element }

-- its URI stands at its place, once it is added, and its prefix is one of the URI's or new
pub record IsDeclarationRead (p : Partitions) (r : DeclarationRead) : Type 0 where
  pub space : IsSpace p r.space
  pub prefix : IsSpelledIn (prefixes (with_space p r.space) r.space.place) r.prefix
