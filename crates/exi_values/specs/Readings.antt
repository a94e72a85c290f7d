-- How values are read that do not go through the string tables, or are made of several values (EXI 1.0, section 7.1). Each
-- charges text (own): a list its length and then each item as a value of its own, octets their number, an enumerated text or
-- octets as much once its place is read, and any other value one unit before its first item.
use Rattle.std.specs.Prelude.{ℕ, zero, suc, Bool, true, false, if◌then◌else◌, nat_le, List, [], ◌∷◌, length, get_or, Option, Ok, ℤ, pos, negsuc, ◌+ℤ◌}
use Rattle.exi_bits.specs.declared.align.Align.{Align}
use Rattle.exi_bits.specs.declared.fault.Kind.TheVariants as kind
use Rattle.exi_bits.specs.Repeat.{Reader}
use Rattle.exi_bits.specs.Unsigned.{◌>>=◌, below_at, fault_at, unsigned_at}
use Rattle.exi_items.specs.Charges.{text_charge}
use Rattle.exi_moment.specs.Reading.{moment_at}
use Rattle.exi_names.specs.Seen.{Value, values_of}
use Rattle.exi_names.specs.Seen as value
use Rattle.exi_names.specs.Wholes.{Number}
use Rattle.exi_names.specs.declared.moment.MomentKind.{MomentKind}
use Rattle.exi_names.specs.declared.names.NameId.{NameId}
use Rattle.exi_names.specs.declared.val.TheConstants.{MOST_ITEMS}
use Rattle.exi_scalar.specs.Scalars.{after_count, binary_at, integer_at}
use Rattle.exi_typed.specs.ReadStates.{ContextReader, failing, read_state}
use Rattle.exi_typed.specs.Strings.{value_at}

-- ---- whole numbers
-- by sign and magnitude
abbrev pub number_of : ℤ → Number
number_of (pos n) = record { minus = false; size = n }
number_of (negsuc n) = record { minus = true; size = suc n }

abbrev pub natural : ℕ → Value
natural n = value.integer (record { minus = false; size = n })

-- the value at a place, from the least one on
abbrev pub from_least : ℤ → ℕ → Value
from_least least place = value.integer (number_of (least +ℤ pos place))

-- ---- values of bits alone
-- an integer of a bounded range, by its place in it (EXI 1.0, section 7.1.5)
unfoldable pub small_at : ℤ → ℕ → Align → Reader Value
small_at least count a s = do
  place ← below_at count a kind.BadPlace s
  Ok (from_least least place.0, place.1)

unfoldable pub natural_at : Reader Value
natural_at s = do
  size ← unsigned_at s
  Ok (natural size.0, size.1)

unfoldable pub whole_at : Align → Reader Value
whole_at a s = do
  found ← integer_at a s
  Ok (value.integer found.0, found.1)

unfoldable pub dated_at : MomentKind → Align → Reader Value
dated_at k a s = do
  found ← moment_at k a s
  Ok (value.moment found.0, found.1)

-- the value at a place
abbrev pub enumerated : List Value → ℕ → Value
enumerated vs place = get_or vs place (value.text [])

-- one of these values, by its place (EXI 1.0, section 7.2)
unfoldable pub enumerated_at : List Value → Align → Reader Value
enumerated_at vs a s = do
  place ← below_at (length vs) a kind.BadPlace s
  Ok (enumerated vs place.0, place.1)

-- one unit is charged before the first item
unfoldable pub charged_first : Reader Value → ContextReader Value
charged_first read c = do
  meter ← failing c.context.meter (text_charge 1 c.spot.place c.context.meter)
  found ← failing meter (read c.spot)
  Ok (found.0, read_state found.1 meter c.context.tables)

-- ---- octets
-- their number, which is charged at its first bit, and they (EXI 1.0, section 7.1.1)
unfoldable pub octets_value_at : Bool → ContextReader Value
octets_value_at hex c = do
  found ← failing (after_count c.context.meter (unsigned_at c.spot)) (binary_at hex (record { spot = c.spot; meter = c.context.meter }))
  Ok (found.0, read_state found.1.spot found.1.meter c.context.tables)

-- ---- enumerations
-- how much a text or octets are charged
abbrev pub units_in : Value → ℕ
units_in (value.text t) = length t
units_in (value.binary hex octets) = length octets
units_in v = 1

-- an enumerated text or octets: charged by their length, behind the place
unfoldable pub measured_at : List Value → Align → ContextReader Value
measured_at vs a c = do
  found ← failing c.context.meter (enumerated_at vs a c.spot)
  meter ← failing c.context.meter (text_charge (units_in found.0) found.1.place c.context.meter)
  Ok (found.0, read_state found.1 meter c.context.tables)

-- one of these values, which are texts or octets, or others
abbrev pub choice_at : Bool → List Value → Align → ContextReader Value
choice_at true vs a c = measured_at vs a c
choice_at false vs a c = charged_first (enumerated_at vs a) c

-- ---- lists
-- a number of items, of which there are not too many (own)
unfoldable pub count_at : Reader ℕ
count_at s = do
  count ← unsigned_at s
  if nat_le count.0 MOST_ITEMS then Ok count else fault_at kind.ListTooLong s

-- the number is charged at its first bit
unfoldable pub charged_count_at : ContextReader ℕ
charged_count_at c = do
  count ← failing c.context.meter (count_at c.spot)
  meter ← failing c.context.meter (text_charge count.0 c.spot.place c.context.meter)
  Ok (count.0, read_state count.1 meter c.context.tables)

-- so many, one after another
unfoldable pub each_at : {X : Type 0} → ContextReader X → ℕ → ContextReader (List X)
each_at read zero c = Ok ([], c)
each_at read (suc n) c = do
  first ← read c
  others ← each_at read n first.1
  Ok (first.0 ∷ others.0, others.1)

-- the number of items, and they (EXI 1.0, section 7.1.11)
unfoldable pub list_at : ContextReader Value → ContextReader Value
list_at item c = do
  count ← charged_count_at c
  found ← each_at item count.0 count.1
  Ok (value.items (values_of found.0), found.1)

-- ---- strings
-- a string of which a miss tells its characters by their places in a set (EXI 1.0, section 7.1.10.1)
unfoldable pub string_in : List ℕ → Align → NameId → ContextReader Value
string_in set a name c = do
  text ← value_at (Option.Some set) a name c
  Ok (value.text text.0, text.1)
