-- Which of its spellings a value is written as, and the string tables afterwards: an Unsigned Integer is the shortest, and a
-- text, a name or an enumerated value is told by its least place (own). Both are functions of the value and of the tables.
use Rattle.std.specs.Prelude.{ℕ, suc, ◌+◌, ◌-◌, ◌&&◌, Bool, true, if◌then◌else◌, List, [], ◌++◌, length, Option, Some, None, ℤ, pos, negsuc}
use Rattle.exi_bits.specs.declared.align.Align.{Align}
use Rattle.exi_bits.specs.Bits.{bits, number}
use Rattle.exi_bits.specs.Unsigned.{shortest}
use Rattle.exi_bits.specs.Widths.{width_for}
use Rattle.exi_moment.specs.Spelling.{spelling}
use Rattle.exi_names.specs.Datatypes.{Representation}
use Rattle.exi_names.specs.Datatypes as datatype
use Rattle.exi_names.specs.Equality.{place_among}
use Rattle.exi_names.specs.Forms.{length_of}
use Rattle.exi_names.specs.Seen.{Value, Values, and, no_more}
use Rattle.exi_names.specs.Seen as value
use Rattle.exi_names.specs.Wholes.{Number}
use Rattle.exi_names.specs.declared.names.NameId.{NameId}
use Rattle.exi_scalar.specs.Scalars.{binary_bits, boolean_bits, decimal_bits, float_bits, integer_bits}
use Rattle.exi_tables.specs.Partitions.{Partitions}
use Rattle.exi_text.specs.Literals.{all_xml}
use Rattle.exi_typed.specs.Written.{after_item, after_string, item_bits, string_bits}

-- ---- values of bits alone
-- how far a number is from the least one
abbrev pub place_from : ℤ → Number → ℕ
place_from (pos l) n = n.size - l
place_from (negsuc l) n = if n.minus then suc l - n.size else n.size + suc l

abbrev pub small_bits : ℤ → ℕ → Align → Value → List Bool
small_bits least count a (value.integer n) = number (width_for count) a (place_from least n)
small_bits least count a v = []

abbrev pub natural_bits : Value → List Bool
natural_bits (value.integer n) = bits (shortest n.size)
natural_bits v = []

abbrev pub whole_bits : Align → Value → List Bool
whole_bits a (value.integer n) = integer_bits a n
whole_bits a v = []

abbrev pub dated_bits : Align → Value → List Bool
dated_bits a (value.moment m) = spelling a m
dated_bits a v = []

-- ---- enumerations
abbrev pub chosen_bits : ℕ → Align → Option ℕ → List Bool
chosen_bits count a (Some place) = number (width_for count) a place
chosen_bits count a None = []

abbrev pub choice_bits : List Value → Align → Value → List Bool
choice_bits vs a v = chosen_bits (length vs) a (place_among v vs)

-- ---- strings with a set of characters
abbrev pub set_bits : List ℕ → Align → Partitions → NameId → Value → List Bool
set_bits set a p name (value.text x) = string_bits (Some set) a p name x
set_bits set a p name v = []

abbrev pub after_set : Partitions → NameId → Value → Partitions
after_set p name (value.text x) = after_string p name x
after_set p name v = p

-- ---- lists
-- the tables behind several values
abbrev pub after_row : (Partitions → Value → Partitions) → Partitions → Values → Partitions
after_row after p no_more = p
after_row after p (and v vs) = after_row after (after p v) vs

abbrev pub after_list : (Partitions → Value → Partitions) → Partitions → Value → Partitions
after_list after p (value.items vs) = after_row after p vs
after_list after p v = p

-- one behind the other, each under the tables that the one before left
abbrev pub row_bits : (Partitions → Value → List Bool) → (Partitions → Value → Partitions) → Partitions → Values → List Bool
row_bits one after p no_more = []
row_bits one after p (and v vs) = one p v ++ row_bits one after (after p v) vs

abbrev pub list_bits : (Partitions → Value → List Bool) → (Partitions → Value → Partitions) → Partitions → Value → List Bool
list_bits one after p (value.items vs) = bits (shortest (length_of vs)) ++ row_bits one after p vs
list_bits one after p v = []

-- ---- every datatype
-- the tables once the value is written
unfoldable pub after_valued : Representation → NameId → Partitions → Value → Partitions
after_valued (datatype.small least count) name p v = p
after_valued datatype.unsigned name p v = p
after_valued datatype.integer name p v = p
after_valued (datatype.boolean pattern) name p v = p
after_valued (datatype.binary hex) name p v = p
after_valued datatype.decimal name p v = p
after_valued datatype.float name p v = p
after_valued (datatype.moment kind) name p v = p
after_valued (datatype.list item) name p v = after_list (after_valued item name) p v
after_valued (datatype.choice base values) name p v = p
after_valued datatype.text name p v = after_item datatype.text p name v
after_valued (datatype.chars set) name p v = after_set p name v
after_valued (datatype.name keep) name p v = after_item (datatype.name keep) p name v

unfoldable pub valued_bits : Representation → Align → NameId → Partitions → Value → List Bool
valued_bits (datatype.small least count) a name p v = small_bits least count a v
valued_bits datatype.unsigned a name p v = natural_bits v
valued_bits datatype.integer a name p v = whole_bits a v
valued_bits (datatype.boolean pattern) a name p v = boolean_bits pattern a v
valued_bits (datatype.binary hex) a name p v = binary_bits v
valued_bits datatype.decimal a name p v = decimal_bits a v
valued_bits datatype.float a name p v = float_bits a v
valued_bits (datatype.moment kind) a name p v = dated_bits a v
valued_bits (datatype.list item) a name p v = list_bits (valued_bits item a name) (after_valued item name) p v
valued_bits (datatype.choice base values) a name p v = choice_bits values a v
valued_bits datatype.text a name p v = item_bits datatype.text a p name v
valued_bits (datatype.chars set) a name p v = set_bits set a p name v
valued_bits (datatype.name keep) a name p v = item_bits (datatype.name keep) a p name v

-- ---- what is asked
abbrev mutual
  -- all its texts are of XML characters
  pub has_xml : Value → Bool
  has_xml (value.text x) = all_xml x
  has_xml (value.name n) = all_xml n.uri && all_xml n.local
  has_xml (value.items vs) = have_xml vs
  has_xml v = true

  pub have_xml : Values → Bool
  have_xml no_more = true
  have_xml (and v vs) = has_xml v && have_xml vs

-- how many values the lists of a value have in them, by its datatype
abbrev pub items_among : (Value → ℕ) → Values → ℕ
items_among one no_more = 0
items_among one (and v vs) = suc (one v) + items_among one vs

abbrev pub items_listed : (Value → ℕ) → Value → ℕ
items_listed one (value.items vs) = items_among one vs
items_listed one v = 0

abbrev pub items_in : Representation → Value → ℕ
items_in (datatype.small least count) v = 0
items_in datatype.unsigned v = 0
items_in datatype.integer v = 0
items_in (datatype.boolean pattern) v = 0
items_in (datatype.binary hex) v = 0
items_in datatype.decimal v = 0
items_in datatype.float v = 0
items_in (datatype.moment kind) v = 0
items_in (datatype.list item) v = items_listed (items_in item) v
items_in (datatype.choice base values) v = 0
items_in datatype.text v = 0
items_in (datatype.chars set) v = 0
items_in (datatype.name keep) v = 0
