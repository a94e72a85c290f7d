-- What is written is spelled so, charges its texts in turn, and leaves the tables that its reading leaves: the laws between
-- what is written and what is spelled.
use Rattle.std.specs.Prelude.{◌≡◌, ◌<◌, ◌^◌, ◌++◌, ℕ, Bool, true, false, List, [], ◌∷◌, length, Option, Some, None, Ok}
use Rattle.exi_bits.specs.declared.align.Align.{Align}
use Rattle.exi_bits.specs.Bits.{IsAligned, IsBytes, Spot, moved, rest}
use Rattle.exi_meter.specs.Metering.{Metering}
use Rattle.exi_names.specs.declared.names.NameId.{NameId}
use Rattle.exi_names.specs.declared.names.QName.{QName}
use Rattle.exi_tables.specs.Growth.{IsSound}
use Rattle.exi_tables.specs.Partitions.{Partitions, least_place, locals, prefixes}
use Rattle.exi_text.specs.Literals.{all_xml}
use Rattle.exi_typed.specs.Charging.{Charge, charging, units_of}
use Rattle.exi_typed.specs.ReadStates.{ContextReader, read_state}
use Rattle.exi_typed.specs.Spelled.{OneSpelling, SpellsDeclaration, SpellsLiteral, SpellsLocal, SpellsName, SpellsPrefix, SpellsUri, SpellsValue}
use Rattle.exi_typed.specs.Strings.{Declaration, Named, declaration_at, literal_at, name_at, no_growth, place_in, value_at}
use Rattle.exi_typed.specs.Written.{after_declaration, after_local, after_name, after_string, after_uri, declaration_bits, literal_bits, local_bits, name_bits, prefix_bits, space_for, string_bits, uri_bits}

-- these are the bits of it, and so many units are charged in turn
pub record IsWritten (Spells : OneSpelling) (units : List ℕ) (p q : Partitions) (text : List Bool) : Type 0 where
  pub charges : List Charge
  pub are : units_of charges ≡ units
  pub spelled : Spells p q charges text

-- a text of XML characters, whose length can be told
pub record CanWrite (x : List ℕ) : Type 0 where
  pub xml : all_xml x ≡ true
  pub short : length x < 2 ^ 64

-- ---- one text
abbrev pub LiteralIsWritten : Type 0
LiteralIsWritten = (a : Align) (x : List ℕ) (p : Partitions) → CanWrite x → IsWritten (SpellsLiteral a no_growth x) (length x ∷ []) p p (literal_bits a x)

abbrev pub UriIsWritten : Type 0
UriIsWritten = (a : Align) (x : List ℕ) (p : Partitions) → CanWrite x → IsWritten (SpellsUri a x) (length x ∷ []) p (after_uri p x) (uri_bits a p x)

abbrev pub LocalIsWritten : Type 0
LocalIsWritten = (a : Align) (uri : ℕ) (x : List ℕ) (p : Partitions) → CanWrite x → IsWritten (SpellsLocal a uri x) (length x ∷ []) p (after_local p uri x) (local_bits a p uri x)

-- in tables that grew from the first ones, a value stands at one place of its name
abbrev pub StringIsWritten : Type 0
StringIsWritten = (set : Option (List ℕ)) (a : Align) (name : NameId) (x : List ℕ) (p : Partitions) → IsSound p.values → CanWrite x → IsWritten (SpellsValue set a name x) (length x ∷ []) p (after_string p name x) (string_bits set a p name x)

-- ---- names
-- where prefixes are kept, the prefix is one of these, or there are none and it is none
abbrev pub CanTell : Bool → List (List ℕ) → Option (List ℕ) → Type 0
CanTell false texts None = Unit {0}
CanTell false texts (Some x) = ⊥
CanTell true texts None = texts ≡ []
CanTell true texts (Some x) = (place : ℕ) × (least_place texts x ≡ Some place)

abbrev pub prefix_units : Option (List ℕ) → List ℕ
prefix_units None = []
prefix_units (Some x) = length x ∷ []

abbrev pub PrefixIsWritten : Type 0
PrefixIsWritten = (keep : Bool) (a : Align) (uri : ℕ) (x : Option (List ℕ)) (p : Partitions) → CanTell keep (prefixes p uri) x → IsWritten (SpellsPrefix keep a uri x) (prefix_units x) p p (prefix_bits keep a p uri x)

pub record CanWriteName (keep : Bool) (p : Partitions) (n : QName) : Type 0 where
  pub uri : CanWrite n.uri
  pub local : CanWrite n.local
  pub prefix : CanTell keep (prefixes (after_uri p n.uri) (space_for p n.uri)) n.prefix

-- a name, and the places that it has once it is written
abbrev pub named_for : Partitions → QName → Named
named_for p n = record { id = record { uri = space_for p n.uri; local = place_in (locals (after_name p n) (space_for p n.uri)) n.local }; name = n }

abbrev pub name_units : QName → List ℕ
name_units n = length n.uri ∷ length n.local ∷ prefix_units n.prefix

abbrev pub NameIsWritten : Type 0
NameIsWritten = (keep : Bool) (a : Align) (n : QName) (p : Partitions) → CanWriteName keep p n → IsWritten (SpellsName keep a (named_for p n)) (name_units n) p (after_name p n) (name_bits keep a p n)

-- ---- namespace declarations
pub record CanWriteDeclaration (d : Declaration) : Type 0 where
  pub uri : CanWrite d.uri
  pub prefix : CanWrite d.prefix

abbrev pub declaration_units : Declaration → List ℕ
declaration_units d = length d.uri ∷ length d.prefix ∷ []

abbrev pub DeclarationIsWritten : Type 0
DeclarationIsWritten = (a : Align) (d : Declaration) (p : Partitions) → CanWriteDeclaration d → IsWritten (SpellsDeclaration a d) (declaration_units d) p (after_declaration p d) (declaration_bits a p d)

-- ---- it is read back, whatever follows: reading leaves the same tables where the meter takes these units in turn, and where it
-- does not, the first that passes is the limit's fault
pub record IsReadBack {X : Type 0} (read : ContextReader X) (x : X) (units : List ℕ) (p q : Partitions) (text : List Bool) (s : Spot) : Type 0 where
  pub charges : List Charge
  pub are : units_of charges ≡ units
  pub is : (m : Metering) → read (read_state s m p) ≡ charging charges m (Ok (x, (moved s (length text), q)))

abbrev pub ReadsBack : {X : Type 0} → Align → ContextReader X → X → List ℕ → Partitions → Partitions → List Bool → Type 0
ReadsBack a read x units p q text = (s : Spot) (more : List Bool) → IsBytes s.bytes → IsAligned a s → rest s ≡ text ++ more → IsReadBack read x units p q text s

pub record WrittenIsRead : Type 0 where
  pub literal : (a : Align) (x : List ℕ) (p : Partitions) → CanWrite x → ReadsBack a (literal_at a no_growth) x (length x ∷ []) p p (literal_bits a x)
  pub string : (set : Option (List ℕ)) (a : Align) (name : NameId) (x : List ℕ) (p : Partitions) → IsSound p.values → CanWrite x → ReadsBack a (value_at set a name) x (length x ∷ []) p (after_string p name x) (string_bits set a p name x)
  pub name : (keep : Bool) (a : Align) (n : QName) (p : Partitions) → CanWriteName keep p n → ReadsBack a (name_at keep a) (named_for p n) (name_units n) p (after_name p n) (name_bits keep a p n)
  pub declaration : (a : Align) (d : Declaration) (p : Partitions) → CanWriteDeclaration d → ReadsBack a (declaration_at a) d (declaration_units d) p (after_declaration p d) (declaration_bits a p d)
