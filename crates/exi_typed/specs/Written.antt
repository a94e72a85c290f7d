-- Which of its spellings a name or a string is written as: a text that stands in its partition is told by its least place
-- there, and any other is spelled out (own). A string is told among the values of its name where it stands there, else
-- among all values (EXI 1.0, sections 7.1.7, 7.1.10 and 7.3).
--
-- The bits and the tables afterwards are functions of what is written and of the tables.
use Rattle.std.specs.Prelude.{ℕ, ◌<◌, ◌+◌, ◌&&◌, Bool, true, false, nat_lt, List, [], ◌++◌, length, Option, Some, None, if◌then◌else◌}
use Rattle.exi_bits.specs.declared.align.Align.{Align}
use Rattle.exi_bits.specs.Bits.{bits, number}
use Rattle.exi_bits.specs.Unsigned.{shortest}
use Rattle.exi_bits.specs.Widths.{width_for}
use Rattle.exi_names.specs.Datatypes.{Representation}
use Rattle.exi_names.specs.Datatypes as kind
use Rattle.exi_names.specs.Seen.{Value}
use Rattle.exi_names.specs.Seen as value
use Rattle.exi_names.specs.declared.names.NameId.{NameId}
use Rattle.exi_names.specs.declared.names.QName.{QName}
use Rattle.exi_tables.specs.Partitions.{Partitions, least_place, locals, name_value_place, name_values, prefixes, uris, values, with_local, with_prefix, with_uri, with_value}
use Rattle.exi_tables.specs.declared.standing.Standing.{Standing}
use Rattle.exi_tables.specs.declared.standing.Standing.TheVariants as stands
use Rattle.exi_text.specs.Literals.{all_xml, chars_bits}
use Rattle.exi_typed.specs.Strings.{Declaration, place_in}

-- ---- one text
-- its length, and its characters
abbrev pub literal_bits : Align → List ℕ → List Bool
literal_bits a x = bits (shortest (length x)) ++ chars_bits None a x

-- its length and so many more, and its characters, with a set of characters or without
abbrev pub spelled_bits : Option (List ℕ) → Align → ℕ → List ℕ → List Bool
spelled_bits set a more x = bits (shortest (length x + more)) ++ chars_bits set a x

-- a number of the places and one more: one above the place, or 0 and a literal
abbrev pub indexed_bits : Align → ℕ → List ℕ → Option ℕ → List Bool
indexed_bits a count x (Some place) = number (width_for (count + 1)) a (place + 1)
indexed_bits a count x None = number (width_for (count + 1)) a 0 ++ literal_bits a x

-- the tables, or these others where the text is missed
abbrev pub unless_found : Option ℕ → Partitions → Partitions → Partitions
unless_found (Some place) old new = old
unless_found None old new = new

-- ---- names
abbrev pub uri_bits : Align → Partitions → List ℕ → List Bool
uri_bits a p x = indexed_bits a (length (uris p)) x (least_place (uris p) x)

abbrev pub after_uri : Partitions → List ℕ → Partitions
after_uri p x = unless_found (least_place (uris p) x) p (with_uri p x)

-- the least place of a URI that is written
abbrev pub space_for : Partitions → List ℕ → ℕ
space_for p x = place_in (uris (after_uri p x)) x

abbrev pub listed_bits : Align → ℕ → List ℕ → Option ℕ → List Bool
listed_bits a count x (Some place) = bits (shortest 0) ++ number (width_for count) a place
listed_bits a count x None = spelled_bits None a 1 x

abbrev pub local_bits : Align → Partitions → ℕ → List ℕ → List Bool
local_bits a p uri x = listed_bits a (length (locals p uri)) x (least_place (locals p uri) x)

abbrev pub after_local : Partitions → ℕ → List ℕ → Partitions
after_local p uri x = unless_found (least_place (locals p uri) x) p (with_local p uri x)

abbrev pub placed_bits : Align → ℕ → Option ℕ → List Bool
placed_bits a count None = []
placed_bits a count (Some place) = number (width_for count) a place

abbrev pub some_prefix_bits : Align → List (List ℕ) → Option (List ℕ) → List Bool
some_prefix_bits a texts None = []
some_prefix_bits a texts (Some x) = placed_bits a (length texts) (least_place texts x)

-- the prefix of a name, where prefixes are kept
abbrev pub prefix_bits_of : Bool → Align → List (List ℕ) → Option (List ℕ) → List Bool
prefix_bits_of false a texts prefix = []
prefix_bits_of true a texts prefix = some_prefix_bits a texts prefix

abbrev pub prefix_bits : Bool → Align → Partitions → ℕ → Option (List ℕ) → List Bool
prefix_bits keep a p uri prefix = prefix_bits_of keep a (prefixes p uri) prefix

-- the local name of a name under a URI, and its prefix
abbrev pub under_bits : Bool → Align → Partitions → ℕ → List ℕ → Option (List ℕ) → List Bool
under_bits keep a p uri local prefix = local_bits a p uri local ++ prefix_bits keep a p uri prefix

abbrev pub name_bits : Bool → Align → Partitions → QName → List Bool
name_bits keep a p n = uri_bits a p n.uri ++ under_bits keep a (after_uri p n.uri) (space_for p n.uri) n.local n.prefix

abbrev pub after_name : Partitions → QName → Partitions
after_name p n = after_local (after_uri p n.uri) (space_for p n.uri) n.local

-- ---- namespace declarations
abbrev pub flag_number : Bool → ℕ
flag_number element = if element then 1 else 0

abbrev pub declared_bits : Align → Partitions → ℕ → List ℕ → Bool → List Bool
declared_bits a p uri prefix element = indexed_bits a (length (prefixes p uri)) prefix (least_place (prefixes p uri) prefix) ++ number 1 a (flag_number element)

abbrev pub declaration_bits : Align → Partitions → Declaration → List Bool
declaration_bits a p d = uri_bits a p d.uri ++ declared_bits a (after_uri p d.uri) (space_for p d.uri) d.prefix d.element

abbrev pub after_prefix : Partitions → ℕ → List ℕ → Partitions
after_prefix p uri x = unless_found (least_place (prefixes p uri) x) p (with_prefix p uri x)

abbrev pub after_declaration : Partitions → Declaration → Partitions
after_declaration p d = after_prefix (after_uri p d.uri) (space_for p d.uri) d.prefix

-- ---- values
-- among its name's own values, among all, or spelled out
abbrev pub string_bits_by : Option (List ℕ) → Align → ℕ → ℕ → List ℕ → Option ℕ → Option ℕ → List Bool
string_bits_by set a own all x (Some place) other = bits (shortest 0) ++ number (width_for own) a place
string_bits_by set a own all x None (Some place) = bits (shortest 1) ++ number (width_for all) a place
string_bits_by set a own all x None None = spelled_bits set a 2 x

abbrev pub below_count : ℕ → Option ℕ → Option ℕ
below_count count None = None
below_count count (Some place) = if nat_lt place count then Some place else None

-- the least place of a text among the values of its name, which is below their count in all tables that grew from the
-- first ones
abbrev pub own_place : Partitions → NameId → List ℕ → Option ℕ
own_place p name x = below_count (name_values p name) (name_value_place p name x)

-- the place where a text stands is among those of its partition
abbrev pub IsWithin : Partitions → NameId → Standing → Type 0
IsWithin p name (stands.Own place) = place < name_values p name
IsWithin p name (stands.Global place) = place < length (values p)
IsWithin p name stands.Missing = Unit

abbrev pub string_bits : Option (List ℕ) → Align → Partitions → NameId → List ℕ → List Bool
string_bits set a p name x = string_bits_by set a (name_values p name) (length (values p)) x (own_place p name x) (least_place (values p) x)

abbrev pub after_string : Partitions → NameId → List ℕ → Partitions
after_string p name x = unless_found (own_place p name x) p (unless_found (least_place (values p) x) p (with_value p name x))

-- an item of a datatype whose items go through the tables
abbrev pub item_bits : Representation → Align → Partitions → NameId → Value → List Bool
item_bits kind.text a p name (value.text x) = string_bits None a p name x
item_bits (kind.name keep) a p name (value.name n) = name_bits keep a p n
item_bits k a p name v = []

abbrev pub after_item : Representation → Partitions → NameId → Value → Partitions
after_item kind.text p name (value.text x) = after_string p name x
after_item (kind.name keep) p name (value.name n) = after_name p n
after_item k p name v = p

-- its texts are of XML characters
abbrev pub is_xml_value : Value → Bool
is_xml_value (value.text x) = all_xml x
is_xml_value (value.name n) = all_xml n.uri && all_xml n.local
is_xml_value v = true
