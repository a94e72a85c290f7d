-- How names and strings are read, as hits and misses in the string tables (EXI 1.0, sections 7.1.7, 7.1.10 and
-- 7.3). A text that stands in a partition is told by its place there, any other by its length and its characters,
-- and is then added at the partition's end.
--
-- Each text charges its number of characters as soon as its length is known: one that is spelled out before its
-- first character, one that is told by a place once the place is read (own). A text that is spelled out though it
-- stands there already is added once more. Its second place raises the counts alone: whatever is read goes on as
-- the least place of its text (own).
--
-- Where the limit of text is passed, the fault's bit is where the text was charged: the first character, or behind
-- the place (own). A reader of events puts the event's bit in its place.
--
-- Where values are bounded (valueMaxLength, valuePartitionCapacity: EXI 1.0, section 7.3.3), a place under a name may be live
-- no longer: it still counts, and tells no text.
use Rattle.std.specs.Prelude.{ℕ, ◌+◌, ◌-◌, ◌==◌, Bool, true, false, List, [], length, Option, Some, None, unwrap_or, Ok, if◌then◌else◌}
use Rattle.exi_bits.specs.declared.align.Align.{Align}
use Rattle.exi_bits.specs.declared.fault.Kind.TheVariants as kind
use Rattle.exi_bits.specs.Bits.{Spot}
use Rattle.exi_bits.specs.Unsigned.{◌>>=◌, fault_at, below_at, unsigned_at}
use Rattle.exi_items.specs.Charges.{after_text, text_charge}
use Rattle.exi_names.specs.declared.names.NameId.{NameId}
use Rattle.exi_names.specs.declared.names.QName.{QName}
use Rattle.exi_tables.specs.Partitions.{Partitions, least_place, live_at, locals, name_value_at, name_values, prefixes, uris, values, with_local, with_prefix, with_uri, with_value}
use Rattle.exi_text.specs.Literals.{chars_at}
use Rattle.exi_typed.specs.ReadStates.{ContextReader, at_spot_of, failing}

-- ---- one text
-- what a partition of the string tables tells: how many places were given, and the text of each that is live
pub record Partition : Type 0 where
  pub count : ℕ
  pub text_at : ℕ → Option (List ℕ)

-- a list of texts, in which each place is live
abbrev pub listed : List (List ℕ) → Partition
listed texts = record { count = length texts; text_at = live_at texts }

-- the values of a name
abbrev pub own_values : Partitions → NameId → Partition
own_values p name = record { count = name_values p name; text_at = name_value_at p name }

-- how a missed text is added
abbrev pub Growth : Type 0
Growth = Partitions → List ℕ → Partitions

-- not at all
abbrev pub no_growth : Growth
no_growth p text = p

-- a text that stands in the tables, charged
unfoldable pub charged_at : List ℕ → ContextReader (List ℕ)
charged_at text c = do
  meter ← failing c.context.meter (text_charge (length text) c.spot.place c.context.meter)
  Ok (text, record { spot = c.spot; context = record { meter = meter; tables = c.context.tables } })

-- the text that a place tells; BadPlace at the place's first bit where it tells none
abbrev pub placed_at : Spot → Option (List ℕ) → ContextReader (List ℕ)
placed_at s (Some text) c = charged_at text c
placed_at s None c = failing c.context.meter (fault_at kind.BadPlace s)

-- a hit: the place in the partition, in the fewest bits that tell its places apart
unfoldable pub hit_at : Align → Partition → ContextReader (List ℕ)
hit_at a partition c = do
  place ← failing c.context.meter (below_at partition.count a kind.BadPlace c.spot)
  placed_at c.spot (partition.text_at place.0) (at_spot_of c place.1)

-- a miss of so many characters
unfoldable pub missed_at : Option (List ℕ) → Align → Growth → ℕ → ContextReader (List ℕ)
missed_at set a grow count c = do
  text ← failing (after_text c.context.meter count) (chars_at set a count (record { spot = c.spot; meter = c.context.meter }))
  Ok (text.0, record { spot = text.1.spot; context = record { meter = text.1.meter; tables = grow c.context.tables text.0 } })

-- a literal: its length in characters, and its characters (EXI 1.0, section 7.1.10)
unfoldable pub literal_at : Align → Growth → ContextReader (List ℕ)
literal_at a grow c = do
  count ← failing c.context.meter (unsigned_at c.spot)
  missed_at None a grow count.0 (at_spot_of c count.1)

-- a place or a literal, told apart by one number: 0 is a miss, and a literal follows; k is a hit at place k - 1
unfoldable pub indexed_at : Align → List (List ℕ) → Growth → ContextReader (List ℕ)
indexed_at a texts grow c = do
  code ← failing c.context.meter (below_at (length texts + 1) a kind.BadPlace c.spot)
  if code.0 == 0 then literal_at a grow (at_spot_of c code.1) else placed_at c.spot (live_at texts (code.0 - 1)) (at_spot_of c code.1)

-- ---- names
-- a URI (EXI 1.0, section 7.3.2)
abbrev pub uri_at : Align → ContextReader (List ℕ)
uri_at a c = indexed_at a (uris c.context.tables) with_uri c

-- a local name under a URI: 0 is a hit, and the place follows; n is a miss of n - 1 characters (EXI 1.0, section 7.3.3)
unfoldable pub local_at : Align → ℕ → ContextReader (List ℕ)
local_at a uri c = do
  code ← failing c.context.meter (unsigned_at c.spot)
  if code.0 == 0 then hit_at a (listed (locals c.context.tables uri)) (at_spot_of c code.1) else missed_at None a (λ p. with_local p uri) (code.0 - 1) (at_spot_of c code.1)

abbrev pub told_prefix : Align → List (List ℕ) → ContextReader (Option (List ℕ))
told_prefix a [] c = Ok (None, c)
told_prefix a texts c = do
  text ← hit_at a (listed texts) c
  Ok (Some text.0, text.1)

-- the prefix of a name under a URI, where prefixes are kept: a place among the URI's prefixes. Where it has
-- none, nothing is coded and the name has no prefix (EXI 1.0, section 7.1.7)
abbrev pub prefix_at : Bool → Align → ℕ → ContextReader (Option (List ℕ))
prefix_at true a uri c = told_prefix a (prefixes c.context.tables uri) c
prefix_at false a uri c = Ok (None, c)

-- the least place of a text that stands in the list
abbrev pub place_in : List (List ℕ) → List ℕ → ℕ
place_in texts text = unwrap_or (least_place texts text) 0

-- a name, and its places in the tables
pub record Named : Type 0 where
  pub id : NameId
  pub name : QName

abbrev named : ℕ → List ℕ → List ℕ → Option (List ℕ) → Partitions → Named
named uri text local prefix p = record {
  id = record { uri = uri; local = place_in (locals p uri) local };
  name = record { uri = text; local = local; prefix = prefix };
}

-- the local name and the prefix of a name under a URI
unfoldable pub name_under : Bool → Align → ℕ → List ℕ → ContextReader Named
name_under keep a uri text c = do
  local ← local_at a uri c
  prefix ← prefix_at keep a uri local.1
  Ok (named uri text local.0 prefix.0 prefix.1.context.tables, prefix.1)

-- a qualified name: its URI, its local name and, where prefixes are kept, its prefix (EXI 1.0, section 7.1.7)
unfoldable pub name_at : Bool → Align → ContextReader Named
name_at keep a c = do
  uri ← uri_at a c
  name_under keep a (place_in (uris uri.1.context.tables) uri.0) uri.0 uri.1

-- the texts of a name that the event code tells, charged as if they were coded (own), and its prefix
unfoldable pub known_at : Bool → Align → NameId → ContextReader Named
known_at keep a id c = do
  uri ← placed_at c.spot (live_at (uris c.context.tables) id.uri) c
  local ← placed_at c.spot (live_at (locals uri.1.context.tables id.uri) id.local) uri.1
  prefix ← prefix_at keep a id.uri local.1
  Ok (record { id = id; name = record { uri = uri.0; local = local.0; prefix = prefix.0 } }, prefix.1)

-- a namespace declaration
pub record Declaration : Type 0 where
  pub uri : List ℕ
  pub prefix : List ℕ
  -- whether the prefix is that of the element itself
  pub element : Bool

abbrev is_one : ℕ → Bool
is_one n = n == 1

-- the prefix of a declaration under a URI, told as a URI is, and one bit
unfoldable pub declared_under : Align → ℕ → List ℕ → ContextReader Declaration
declared_under a uri text c = do
  prefix ← indexed_at a (prefixes c.context.tables uri) (λ p. with_prefix p uri) c
  flag ← failing prefix.1.context.meter (below_at 2 a kind.BadPlace prefix.1.spot)
  Ok (record { uri = text; prefix = prefix.0; element = is_one flag.0 }, at_spot_of prefix.1 flag.1)

-- a URI, a prefix in that URI's partition, and one bit (EXI 1.0, sections 4 and 7.1.7)
unfoldable pub declaration_at : Align → ContextReader Declaration
declaration_at a c = do
  uri ← uri_at a c
  declared_under a (place_in (uris uri.1.context.tables) uri.0) uri.0 uri.1

-- ---- values
-- a string value under a name: 0 is a hit among the name's own values and 1 a hit among all, each with its place;
-- n is a miss of n - 2 characters, with a set of characters or without (EXI 1.0, sections 7.1.10 and 7.3.3)
unfoldable pub value_at : Option (List ℕ) → Align → NameId → ContextReader (List ℕ)
value_at set a name c = do
  code ← failing c.context.meter (unsigned_at c.spot)
  if code.0 == 0 then hit_at a (own_values c.context.tables name) (at_spot_of c code.1) else (if code.0 == 1 then hit_at a (listed (values c.context.tables)) (at_spot_of c code.1) else missed_at set a (λ p. with_value p name) (code.0 - 2) (at_spot_of c code.1))
