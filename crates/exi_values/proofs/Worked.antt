-- The definitions on small streams, with the first tables and nothing charged.
use Rattle.std.proofs.Common.{◌≡◌, ℕ, true, false, List, [], ◌∷◌, ◌++◌, None, Ok, Err, refl, pos, negsuc}
use Rattle.exi_bits.specs.declared.align.Align.TheVariants as align
use Rattle.exi_bits.specs.declared.fault.Kind.{Kind}
use Rattle.exi_bits.specs.declared.fault.Kind.TheVariants as kind
use Rattle.exi_bits.specs.Bits.{bits, number_at, number_bits, value_of}
use Rattle.exi_bits.specs.Repeat.{times}
use Rattle.exi_bits.specs.Unsigned.{below_at, field_at, groups, groups_at, narrow_groups_at, unsigned_at}
use Rattle.exi_bits.specs.Widths.{width_from}
use Rattle.exi_items.specs.Charges.{text_charge}
use Rattle.exi_meter.specs.Metering.{nothing_used, stream_bounds, with_text}
use Rattle.exi_names.specs.Characters.{is_xml_char}
use Rattle.exi_names.specs.Datatypes.{Representation}
use Rattle.exi_names.specs.Datatypes as datatype
use Rattle.exi_names.specs.Seen.{Value, values_of}
use Rattle.exi_names.specs.Seen as value
use Rattle.exi_names.specs.StartTables.{first_names}
use Rattle.exi_names.specs.declared.names.NameId.{NameId}
use Rattle.exi_scalar.specs.Scalars.{binary_at}
use Rattle.exi_tables.specs.Partitions.{Partitions, first_partitions, with_value}
use Rattle.exi_text.specs.Literals.{chars_at, chars_bits, code_at, in_set_at}
use Rattle.exi_typed.specs.Items.{item_at}
use Rattle.exi_typed.specs.ReadStates.{Context, Failure, ReadState}
use Rattle.exi_typed.specs.Strings.{charged_at, hit_at, missed_at, value_at}
use Rattle.exi_values.specs.Readings.{charged_count_at, charged_first, count_at, each_at, enumerated_at, list_at, measured_at, natural, octets_value_at, small_at, string_in}
use Rattle.exi_values.specs.Valued.{valued_at}
use Rattle.exi_values.specs.Written.{after_valued, valued_bits}

abbrev at_bit : List ℕ → ℕ → Context → ReadState
at_bit bytes place w = record { spot = record { bytes = bytes; place = place }; context = w }

abbrev fresh : Partitions
fresh = first_partitions first_names None None

-- so many units were charged
abbrev after : ℕ → Partitions → Context
after units tables = record { meter = with_text (nothing_used stream_bounds) units; tables = tables }

abbrev fault : Kind → ℕ → ℕ → Failure
fault what bit units = record { fault = record { kind = what; bit = bit }; meter = with_text (nothing_used stream_bounds) units }

abbrev id : NameId
id = record { uri = 0; local = 0 }

-- ---- the list `1 2 3` of bytes: its number and each item are charged
abbrev unsigned_byte : Representation
unsigned_byte = datatype.small (pos 0) 256

abbrev three : Value
three = value.items (values_of (natural 1 ∷ natural 2 ∷ natural 3 ∷ []))

abbrev three_bytes : List ℕ
three_bytes = 3 ∷ 1 ∷ 2 ∷ 3 ∷ []

three_read : valued_at (datatype.list unsigned_byte) align.Bits id (at_bit three_bytes 0 (after 0 fresh)) ≡ Ok (three, at_bit three_bytes 32 (after 6 fresh))
unfolding valued_at list_at each_at charged_count_at count_at charged_first small_at below_at field_at unsigned_at narrow_groups_at groups_at number_at value_of bits number_bits width_from text_charge
three_read = refl

three_written : valued_bits (datatype.list unsigned_byte) align.Bits id fresh three ≡ bits three_bytes
unfolding valued_bits after_valued bits number_bits width_from groups
three_written = refl

-- the bits end in the second item, which is charged before
cut_read : valued_at (datatype.list unsigned_byte) align.Bits id (at_bit (3 ∷ 1 ∷ []) 0 (after 0 fresh)) ≡ Err (fault kind.Short 16 5)
unfolding valued_at list_at each_at charged_count_at count_at charged_first small_at below_at field_at unsigned_at narrow_groups_at groups_at number_at value_of bits number_bits width_from text_charge
cut_read = refl

-- 65,537 items are too many, and nothing is charged
many_read : valued_at (datatype.list unsigned_byte) align.Bits id (at_bit (0x81 ∷ 0x80 ∷ 0x04 ∷ []) 0 (after 0 fresh)) ≡ Err (fault kind.ListTooLong 0 0)
unfolding valued_at list_at charged_count_at count_at unsigned_at narrow_groups_at groups_at number_at value_of bits number_bits
many_read = refl

-- ---- integers from -1 on, of which there are three
few_read : valued_at (datatype.small (negsuc 0) 3) align.Bits id (at_bit (0x80 ∷ []) 0 (after 0 fresh)) ≡ Ok (natural 1, at_bit (0x80 ∷ []) 2 (after 1 fresh))
unfolding valued_at charged_first small_at below_at field_at number_at value_of bits number_bits width_from text_charge
few_read = refl

over_read : valued_at (datatype.small (negsuc 0) 3) align.Bits id (at_bit (0xC0 ∷ []) 0 (after 0 fresh)) ≡ Err (fault kind.BadPlace 0 1)
unfolding valued_at charged_first small_at below_at field_at number_at value_of bits number_bits width_from text_charge
over_read = refl

-- ---- an enumerated text is charged by its characters, and the unit of another value comes before its place
abbrev words : Representation
words = datatype.choice datatype.text (value.text (0x61 ∷ []) ∷ value.text (0x62 ∷ 0x63 ∷ []) ∷ [])

word_read : valued_at words align.Bits id (at_bit (0x80 ∷ []) 0 (after 0 fresh)) ≡ Ok (value.text (0x62 ∷ 0x63 ∷ []), at_bit (0x80 ∷ []) 1 (after 2 fresh))
unfolding valued_at measured_at enumerated_at below_at field_at number_at value_of bits number_bits width_from text_charge
word_read = refl

abbrev numbers : Representation
numbers = datatype.choice datatype.unsigned (natural 7 ∷ natural 9 ∷ natural 7 ∷ [])

number_read : valued_at numbers align.Bits id (at_bit (0x80 ∷ []) 0 (after 0 fresh)) ≡ Ok (natural 7, at_bit (0x80 ∷ []) 2 (after 1 fresh))
unfolding valued_at charged_first enumerated_at below_at field_at number_at value_of bits number_bits width_from text_charge
number_read = refl

number_short : valued_at numbers align.Bits id (at_bit [] 0 (after 0 fresh)) ≡ Err (fault kind.Short 0 1)
unfolding valued_at charged_first enumerated_at below_at field_at number_at value_of bits number_bits width_from text_charge
number_short = refl

-- it is written by its least place
number_written : valued_bits numbers align.Bits id fresh (natural 7) ≡ false ∷ false ∷ []
unfolding valued_bits number_bits width_from
number_written = refl

-- ---- octets
octets_read : valued_at (datatype.binary true) align.Bits id (at_bit (2 ∷ 0 ∷ 0xFF ∷ []) 0 (after 0 fresh)) ≡ Ok (value.binary true (0 ∷ 0xFF ∷ []), at_bit (2 ∷ 0 ∷ 0xFF ∷ []) 24 (after 2 fresh))
unfolding valued_at octets_value_at binary_at times field_at unsigned_at narrow_groups_at groups_at number_at value_of bits number_bits text_charge
octets_read = refl

-- ---- `407` with the ten digits as its set
abbrev digits : List ℕ
digits = 48 ∷ 49 ∷ 50 ∷ 51 ∷ 52 ∷ 53 ∷ 54 ∷ 55 ∷ 56 ∷ 57 ∷ []

abbrev number_text : List ℕ
number_text = 52 ∷ 48 ∷ 55 ∷ []

digits_read : valued_at (datatype.chars digits) align.Bits id (at_bit (0x05 ∷ 0x40 ∷ 0x70 ∷ []) 0 (after 0 fresh)) ≡ Ok (value.text number_text, at_bit (0x05 ∷ 0x40 ∷ 0x70 ∷ []) 20 (after 3 (with_value fresh id number_text)))
unfolding valued_at string_in value_at missed_at chars_at times in_set_at code_at is_xml_char field_at unsigned_at narrow_groups_at groups_at number_at value_of bits number_bits width_from text_charge
digits_read = refl

digits_written : valued_bits (datatype.chars digits) align.Bits id fresh (value.text number_text) ++ false ∷ false ∷ false ∷ false ∷ [] ≡ bits (0x05 ∷ 0x40 ∷ 0x70 ∷ [])
unfolding valued_bits chars_bits bits number_bits width_from groups
digits_written = refl

-- ---- the list of the strings `a a`: a miss, and a hit under the tables that it left
abbrev a_text : List ℕ
a_text = 0x61 ∷ []

abbrev two_texts : Value
two_texts = value.items (values_of (value.text a_text ∷ value.text a_text ∷ []))

texts_read : valued_at (datatype.list datatype.text) align.Bits id (at_bit (2 ∷ 3 ∷ 0x61 ∷ 0 ∷ []) 0 (after 0 fresh)) ≡ Ok (two_texts, at_bit (2 ∷ 3 ∷ 0x61 ∷ 0 ∷ []) 32 (after 4 (with_value fresh id a_text)))
unfolding valued_at list_at each_at charged_count_at count_at item_at value_at missed_at hit_at charged_at chars_at times code_at is_xml_char below_at field_at unsigned_at narrow_groups_at groups_at number_at value_of bits number_bits width_from text_charge
texts_read = refl

texts_written : valued_bits (datatype.list datatype.text) align.Bits id fresh two_texts ≡ bits (2 ∷ 3 ∷ 0x61 ∷ 0 ∷ [])
unfolding valued_bits after_valued chars_bits bits number_bits width_from groups
texts_written = refl
