-- What is written of texts and names under the string tables (EXI 1.0, sections 7.1.7, 7.1.10 and 7.3): what can be
-- spelled, and its bits, each by the one spelling that is written, and the tables behind it.
--
-- What is written depends on the tables and never on what is charged: the charges stand beside, one after another.
use Rattle.std.specs.Prelude.{ℕ, ◌+◌, ◌^◌, ◌&&◌, nat_lt, Bool, true, false, List, [], ◌∷◌, ◌++◌, length, Option, Some, None, if◌then◌else◌}
use Rattle.std.specs.Option.{is_none, is_some}
use Rattle.std.specs.Str.{bytes_eq}
use Rattle.exi_bits.specs.declared.align.Align.{Align}
use Rattle.exi_names.specs.Datatypes.{Representation}
use Rattle.exi_names.specs.Seen.{Value, Values, and, no_more}
use Rattle.exi_names.specs.Seen as shape
use Rattle.exi_names.specs.declared.names.NameId.{NameId}
use Rattle.exi_names.specs.declared.names.QName.{QName}
use Rattle.exi_tables.specs.Partitions.{Partitions, least_place, live_at, locals, prefixes, uris}
use Rattle.exi_text.specs.Literals.{all_xml}
use Rattle.exi_typed.specs.Strings.{Declaration, Named, place_in}
use Rattle.exi_typed.specs.Written.{after_declaration, after_local, after_name, after_uri, declaration_bits, literal_bits, name_bits, prefix_bits, space_for, under_bits}
use Rattle.exi_typed.specs.WrittenLaws.{declaration_units, name_units, named_for}
use Rattle.exi_values.specs.Written.{after_valued, valued_bits}
use Rattle.exi_values.specs.WrittenLaws.{valued_units}

-- ---- pieces
-- what is written: of what, its bits, the tables behind it, and what it charges
pub record Piece (X : Type 0) : Type 0 where
  pub item : X
  pub bits : List Bool
  pub tables : Partitions
  pub units : List ℕ

-- under tables; nothing where there is no spelling
abbrev pub Writing : Type 0 → Type 0
Writing X = Partitions → Option (Piece X)

abbrev pub if_spelled : {X : Type 0} → Bool → Piece X → Option (Piece X)
if_spelled true piece = Some piece
if_spelled false piece = None

-- this is written so, and leaves the tables as they are
abbrev pub as_bits : {X : Type 0} → X → List Bool → Writing X
as_bits x text p = Some (record { item = x; bits = text; tables = p; units = [] })

abbrev pub joined : {X Y : Type 0} → Piece X → Option (Piece Y) → Option (Piece (X × Y))
joined first None = None
joined first (Some second) = Some (record { item = (first.item, second.item); bits = first.bits ++ second.bits; tables = second.tables; units = first.units ++ second.units })

abbrev pub both_by : {X Y : Type 0} → (X → Writing Y) → Option (Piece X) → Option (Piece (X × Y))
both_by two None = None
both_by two (Some first) = joined first (two first.item first.tables)

-- one thing, and behind it another that may depend on it
abbrev pub both : {X Y : Type 0} → Writing X → (X → Writing Y) → Writing (X × Y)
both one two p = both_by two (one p)

-- the same bits, of another thing
abbrev pub turned : {X Y : Type 0} → (X → Y) → Option (Piece X) → Option (Piece Y)
turned f None = None
turned f (Some piece) = Some (record { item = f piece.item; bits = piece.bits; tables = piece.tables; units = piece.units })

-- ---- texts
-- a text can be spelled where each of its characters is an XML character; so can none that is longer than a text is
abbrev pub can_be_spelled : List ℕ → Bool
can_be_spelled x = nat_lt (length x) (2 ^ 64) && all_xml x

-- length and characters
abbrev pub literal : Align → List ℕ → Writing (List ℕ)
literal a x p = if_spelled (can_be_spelled x) (record { item = x; bits = literal_bits a x; tables = p; units = length x ∷ [] })

-- ---- names
-- a prefix has to be one of those of the name's URI, or absent where that has none; and absent where none is kept
abbrev pub no_texts : List (List ℕ) → Bool
no_texts [] = true
no_texts (x ∷ texts) = false

abbrev pub tells : List (List ℕ) → Option (List ℕ) → Bool
tells texts None = no_texts texts
tells texts (Some x) = is_some (least_place texts x)

abbrev pub can_tell : Bool → List (List ℕ) → Option (List ℕ) → Bool
can_tell false texts x = is_none x
can_tell true texts x = tells texts x

-- a new URI has no prefixes
abbrev pub prefixes_for : Partitions → List ℕ → List (List ℕ)
prefixes_for p x = prefixes (after_uri p x) (space_for p x)

abbrev pub can_name : Bool → Partitions → QName → Bool
can_name keep p n = can_be_spelled n.uri && (can_be_spelled n.local && can_tell keep (prefixes_for p n.uri) n.prefix)

-- a qualified name
abbrev pub name : Bool → Align → QName → Writing Named
name keep a n p = if_spelled (can_name keep p n) (record { item = named_for p n; bits = name_bits keep a p n; tables = after_name p n; units = name_units n })

abbrev pub is_text : Option (List ℕ) → List ℕ → Bool
is_text None x = false
is_text (Some y) x = bytes_eq y x

-- the text at a place is this one
abbrev pub stands_at : List (List ℕ) → ℕ → List ℕ → Bool
stands_at texts place x = is_text (live_at texts place) x

-- the name at these places is this one
abbrev pub is_at : Partitions → NameId → QName → Bool
is_at p id n = stands_at (uris p) id.uri n.uri && stands_at (locals p id.uri) id.local n.local

abbrev pub can_know : Bool → Partitions → NameId → QName → Bool
can_know keep p id n = can_be_spelled n.uri && (can_be_spelled n.local && can_tell keep (prefixes p id.uri) n.prefix)

-- a name that the event's code tells: its texts are charged, and its prefix alone has bits
abbrev pub known : Bool → Align → NameId → QName → Writing Named
known keep a id n p = if_spelled (is_at p id n && can_know keep p id n) (record { item = record { id = id; name = n }; bits = prefix_bits keep a p id.uri n.prefix; tables = p; units = name_units n })

-- a name of which the event's code tells the URI, by its place: the URI is charged, and the local name and the prefix have bits
abbrev pub can_know_under : Bool → Partitions → ℕ → QName → Bool
can_know_under keep p uri n = stands_at (uris p) uri n.uri && (can_be_spelled n.uri && (can_be_spelled n.local && can_tell keep (prefixes p uri) n.prefix))

-- its places once it is written
abbrev pub named_under : Partitions → ℕ → QName → Named
named_under p uri n = record { id = record { uri = uri; local = place_in (locals (after_local p uri n.local) uri) n.local }; name = n }

abbrev pub under : Bool → Align → ℕ → QName → Writing Named
under keep a uri n p = if_spelled (can_know_under keep p uri n) (record { item = named_under p uri n; bits = under_bits keep a p uri n.local n.prefix; tables = after_local p uri n.local; units = name_units n })

-- ---- namespace declarations: a prefix is missed into the partition of its URI
abbrev pub declaration : Align → Declaration → Writing Declaration
declaration a d p = if_spelled (can_be_spelled d.uri && can_be_spelled d.prefix) (record { item = d; bits = declaration_bits a p d; tables = after_declaration p d; units = declaration_units d })

-- ---- values
-- each text of a value can be spelled, and its octets can be counted; a name is written by itself
abbrev mutual
  pub can_be_valued : Value → Bool
  can_be_valued (shape.text x) = can_be_spelled x
  can_be_valued (shape.boolean truth digit) = true
  can_be_valued (shape.integer n) = true
  can_be_valued (shape.decimal minus whole back) = true
  can_be_valued (shape.float mantissa exponent) = true
  can_be_valued (shape.moment m) = true
  can_be_valued (shape.binary hex octets) = nat_lt (length octets) (2 ^ 64)
  can_be_valued (shape.items vs) = can_all_be_valued vs
  can_be_valued (shape.name n) = false

  pub can_all_be_valued : Values → Bool
  can_all_be_valued no_more = true
  can_all_be_valued (and v vs) = can_be_valued v && can_all_be_valued vs

-- a value that is of a datatype, under a name. A string stands among the name's own values, else among all, or is spelled out
abbrev pub value : Representation → Align → NameId → Value → Writing Value
value r a name v p = if_spelled (can_be_valued v) (record { item = v; bits = valued_bits r a name p v; tables = after_valued r name p v; units = valued_units r v })

-- one unit is charged, and no bits: a value that is a name, beside its texts (own)
abbrev pub with_unit : Option (Piece Named) → Option (Piece Named)
with_unit None = None
with_unit (Some piece) = Some (record piece { units = 1 ∷ piece.units })

abbrev pub name_value : Bool → Align → QName → Writing Named
name_value keep a n p = with_unit (name keep a n p)
