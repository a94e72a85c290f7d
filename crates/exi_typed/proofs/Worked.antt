-- The definitions on small streams, with the first tables and nothing charged.
use Rattle.std.proofs.Common.{◌≡◌, ℕ, true, false, List, [], ◌∷◌, Option, Some, None, Ok, Err, refl}
use Rattle.exi_bits.specs.declared.align.Align.TheVariants as align
use Rattle.exi_bits.specs.declared.fault.Kind.{Kind}
use Rattle.exi_bits.specs.declared.fault.Kind.TheVariants as kind
use Rattle.exi_bits.specs.Bits.{bits, le_value, number_at, number_bits, value_of}
use Rattle.exi_bits.specs.Repeat.{times}
use Rattle.exi_bits.specs.Unsigned.{field_at, groups_at, narrow_groups_at, below_at, unsigned_at}
use Rattle.exi_bits.specs.Widths.{width_from}
use Rattle.exi_items.specs.Charges.{text_charge}
use Rattle.exi_meter.specs.Metering.{Metering, nothing_used, stream_bounds, with_text}
use Rattle.exi_names.specs.Characters.{is_xml_char}
use Rattle.exi_names.specs.StartTables.{first_names}
use Rattle.exi_names.specs.declared.names.NameId.{NameId}
use Rattle.exi_tables.specs.Partitions.{Partitions, first_partitions, locals, name_value_at, prefixes, values, with_local, with_prefix, with_uri, with_value}
use Rattle.exi_text.specs.Literals.{chars_at, code_at}
use Rattle.exi_typed.specs.ReadStates.{Context, ReadState, Failure}
use Rattle.exi_typed.specs.Strings.{Named, charged_at, declaration_at, declared_under, hit_at, indexed_at, known_at, literal_at, local_at, missed_at, name_at, name_under, value_at}

abbrev at_bit : List ℕ → ℕ → Context → ReadState
at_bit bytes place w = record { spot = record { bytes = bytes; place = place }; context = w }

abbrev fresh : Partitions
fresh = first_partitions first_names None None

-- so many characters were charged
abbrev after : ℕ → Partitions → Context
after units tables = record { meter = with_text (nothing_used stream_bounds) units; tables = tables }

-- a fault at a bit, where so many characters were charged
abbrev fault : Kind → ℕ → ℕ → Failure
fault what bit units = record { fault = record { kind = what; bit = bit }; meter = with_text (nothing_used stream_bounds) units }

abbrev named : ℕ → ℕ → List ℕ → List ℕ → Named
named uri local space text = record { id = record { uri = uri; local = local }; name = record { uri = space; local = text; prefix = None } }

abbrev a_text : List ℕ
a_text = 0x61 ∷ []

abbrev p_text : List ℕ
p_text = 0x70 ∷ []

abbrev u_text : List ℕ
u_text = 0x75 ∷ []

abbrev x_text : List ℕ
x_text = 0x78 ∷ []

-- ---- an element `a` in no namespace: 01 is the place 0 of the URIs, and 02 61 spells the local name out
abbrev one_name : List ℕ
one_name = 0x80 ∷ 0x40 ∷ 0x98 ∷ 0x40 ∷ []

-- the tables with the name
abbrev with_a : Partitions
with_a = with_local fresh 0 a_text

a_stands : locals with_a 0 ≡ a_text ∷ []
a_stands = refl

name_read : name_at false align.Bits (at_bit one_name 8 (after 0 fresh)) ≡ Ok (named 0 0 [] a_text, at_bit one_name 26 (after 1 with_a))
unfolding name_at name_under local_at hit_at missed_at literal_at indexed_at charged_at below_at field_at unsigned_at narrow_groups_at groups_at number_at value_of bits number_bits width_from text_charge chars_at times code_at is_xml_char
name_read = refl

-- spelled out once more it stands at the places 0 and 1, and goes on as place 0
name_again : name_at false align.Bits (at_bit one_name 8 (after 1 with_a)) ≡ Ok (named 0 0 [] a_text, at_bit one_name 26 (after 2 (with_local with_a 0 a_text)))
unfolding name_at name_under local_at hit_at missed_at literal_at indexed_at charged_at below_at field_at unsigned_at narrow_groups_at groups_at number_at value_of bits number_bits width_from text_charge chars_at times code_at is_xml_char
name_again = refl

a_stands_twice : locals (with_local with_a 0 a_text) 0 ≡ a_text ∷ a_text ∷ []
a_stands_twice = refl

-- where three characters may be charged and three were, a fourth is too many, at the bit behind its length
abbrev full : Metering
full = with_text (nothing_used (record stream_bounds { text = 3 })) 3

name_too_long : name_at false align.Bits (at_bit one_name 8 (record { meter = full; tables = fresh })) ≡ Err (record { fault = record { kind = kind.TextLimit; bit = 18 }; meter = full })
unfolding name_at name_under local_at hit_at missed_at literal_at indexed_at charged_at below_at field_at unsigned_at narrow_groups_at groups_at number_at value_of bits number_bits width_from text_charge chars_at times code_at is_xml_char
name_too_long = refl

-- 02 00: the character 0 is none of XML, the fault is at it, and the text stays charged
no_character : name_at false align.Bits (at_bit (0x80 ∷ 0x40 ∷ 0x80 ∷ 0x00 ∷ []) 8 (after 0 fresh)) ≡ Err (fault kind.BadChar 18 1)
unfolding name_at name_under local_at hit_at missed_at literal_at indexed_at charged_at below_at field_at unsigned_at narrow_groups_at groups_at number_at value_of bits number_bits width_from text_charge chars_at times code_at is_xml_char
no_character = refl

-- ---- the text of that element
-- 03 78 spells it out, and it is added
abbrev one_value : List ℕ
one_value = 0x80 ∷ 0x40 ∷ 0x98 ∷ 0x70 ∷ 0x37 ∷ 0x80 ∷ []

abbrev a_name : NameId
a_name = record { uri = 0; local = 0 }

value_read : value_at None align.Bits a_name (at_bit one_value 28 (after 1 with_a)) ≡ Ok (x_text, at_bit one_value 44 (after 2 (with_value with_a a_name x_text)))
unfolding value_at hit_at missed_at charged_at below_at field_at unsigned_at narrow_groups_at groups_at number_at value_of bits number_bits width_from text_charge chars_at times code_at is_xml_char
value_read = refl

x_stands : values (with_value with_a a_name x_text) ≡ x_text ∷ []
x_stands = refl

x_stands_under : name_value_at (with_value with_a a_name x_text) a_name 0 ≡ Some x_text
x_stands_under = refl

-- 02 spells the empty text, which is not added
empty_read : value_at None align.Bits a_name (at_bit (0x02 ∷ []) 0 (after 1 with_a)) ≡ Ok ([], at_bit (0x02 ∷ []) 8 (after 1 with_a))
unfolding value_at hit_at missed_at charged_at below_at field_at unsigned_at narrow_groups_at groups_at number_at value_of bits number_bits width_from text_charge chars_at times code_at is_xml_char
empty_read = refl

-- 00 tells a place among the values of the name, which has one: the place takes no bits, and its text is charged
value_hit : value_at None align.Bits a_name (at_bit (0x00 ∷ []) 0 (after 2 (with_value with_a a_name x_text))) ≡ Ok (x_text, at_bit (0x00 ∷ []) 8 (after 3 (with_value with_a a_name x_text)))
unfolding value_at hit_at missed_at charged_at below_at field_at unsigned_at narrow_groups_at groups_at number_at value_of bits number_bits width_from text_charge chars_at times code_at is_xml_char
value_hit = refl

-- where it has none the place is a fault, behind the code
abbrev no_value : List ℕ
no_value = 0x80 ∷ 0x40 ∷ 0x98 ∷ 0x70 ∷ 0x00 ∷ []

value_missing : value_at None align.Bits a_name (at_bit no_value 28 (after 1 with_a)) ≡ Err (fault kind.BadPlace 36 1)
unfolding value_at hit_at missed_at charged_at below_at field_at unsigned_at narrow_groups_at groups_at number_at value_of bits number_bits width_from text_charge chars_at times code_at is_xml_char
value_missing = refl

-- ---- the same where two values are live at most, once x, y and z were added
abbrev y_text : List ℕ
y_text = 0x79 ∷ []

abbrev z_text : List ℕ
z_text = 0x7A ∷ []

abbrev bounded : Option ℕ → Option ℕ → Partitions
bounded most capacity = with_local (first_partitions first_names most capacity) 0 a_text

abbrev with_three : Partitions
with_three = with_value (with_value (with_value (bounded None (Some 2)) a_name x_text) a_name y_text) a_name z_text

-- 00 00: the place 0 of three under the name is live no longer
pushed_out : value_at None align.Bits a_name (at_bit (0x00 ∷ 0x00 ∷ []) 0 (after 0 with_three)) ≡ Err (fault kind.BadPlace 8 0)
unfolding value_at hit_at missed_at charged_at below_at field_at unsigned_at narrow_groups_at groups_at number_at value_of bits number_bits width_from text_charge chars_at times code_at is_xml_char
pushed_out = refl

-- 00 01 is the place 1 of three under the name
still_live : value_at None align.Bits a_name (at_bit (0x00 ∷ 0x40 ∷ []) 0 (after 0 with_three)) ≡ Ok (y_text, at_bit (0x00 ∷ 0x40 ∷ []) 10 (after 1 with_three))
unfolding value_at hit_at missed_at charged_at below_at field_at unsigned_at narrow_groups_at groups_at number_at value_of bits number_bits width_from text_charge chars_at times code_at is_xml_char
still_live = refl

-- 01 0 is the place 0 of two among all values, which went round
gone_round : value_at None align.Bits a_name (at_bit (0x01 ∷ 0x00 ∷ []) 0 (after 0 with_three)) ≡ Ok (z_text, at_bit (0x01 ∷ 0x00 ∷ []) 9 (after 1 with_three))
unfolding value_at hit_at missed_at charged_at below_at field_at unsigned_at narrow_groups_at groups_at number_at value_of bits number_bits width_from text_charge chars_at times code_at is_xml_char
gone_round = refl

-- 04 78 79 spells "xy" out, which is not added where no value may be longer than one character
too_long : value_at None align.Bits a_name (at_bit (0x04 ∷ 0x78 ∷ 0x79 ∷ []) 0 (after 0 (bounded (Some 1) None))) ≡ Ok (0x78 ∷ 0x79 ∷ [], at_bit (0x04 ∷ 0x78 ∷ 0x79 ∷ []) 24 (after 2 (bounded (Some 1) None)))
unfolding value_at hit_at missed_at charged_at below_at field_at unsigned_at narrow_groups_at groups_at number_at value_of bits number_bits width_from text_charge chars_at times code_at is_xml_char
too_long = refl

-- ---- an element `a` in the namespace `u`, which it declares with the prefix `p`
abbrev one_declaration : List ℕ
one_declaration = 0x80 ∷ 0x00 ∷ 0x5D ∷ 0x40 ∷ 0x98 ∷ 0x54 ∷ 0x01 ∷ 0x70 ∷ 0x80 ∷ []

abbrev with_u : Partitions
with_u = with_local (with_uri fresh u_text) 3 a_text

-- 00, 01 75 spells the URI out, and 02 61 the local name; the URI has no prefix, so the name has none
name_in_u : name_at true align.Bits (at_bit one_declaration 8 (after 0 fresh)) ≡ Ok (named 3 0 u_text a_text, at_bit one_declaration 42 (after 2 with_u))
unfolding name_at name_under local_at hit_at missed_at literal_at indexed_at charged_at below_at field_at unsigned_at narrow_groups_at groups_at number_at value_of bits number_bits width_from text_charge chars_at times code_at is_xml_char
name_in_u = refl

-- 100 is the place 3 of the URIs, 01 70 spells the prefix out where there is none yet, and 1 says that it is that of the element
declared : declaration_at align.Bits (at_bit one_declaration 45 (after 2 with_u)) ≡ Ok (record { uri = u_text; prefix = p_text; element = true }, at_bit one_declaration 65 (after 4 (with_prefix with_u 3 p_text)))
unfolding declaration_at declared_under missed_at literal_at indexed_at charged_at below_at field_at unsigned_at narrow_groups_at groups_at number_at value_of bits number_bits width_from text_charge chars_at times code_at is_xml_char
declared = refl

p_stands : prefixes (with_prefix with_u 3 p_text) 3 ≡ p_text ∷ []
p_stands = refl

-- from then on the name, where the event code tells it, has that prefix, in no bits
known_read : known_at true align.Bits (record { uri = 3; local = 0 }) (at_bit [] 0 (after 4 (with_prefix with_u 3 p_text))) ≡ Ok (record { id = record { uri = 3; local = 0 }; name = record { uri = u_text; local = a_text; prefix = Some p_text } }, at_bit [] 0 (after 7 (with_prefix with_u 3 p_text)))
unfolding known_at hit_at charged_at below_at field_at number_at value_of bits number_bits width_from text_charge
known_read = refl

-- ---- in whole bytes
-- 00 is a byte, 01 75 spells the URI out, and 02 61 the local name
name_in_bytes : name_at false align.Bytes (at_bit (0x00 ∷ 0x01 ∷ 0x75 ∷ 0x02 ∷ 0x61 ∷ []) 0 (after 0 fresh)) ≡ Ok (named 3 0 u_text a_text, at_bit (0x00 ∷ 0x01 ∷ 0x75 ∷ 0x02 ∷ 0x61 ∷ []) 40 (after 2 with_u))
unfolding name_at name_under local_at hit_at missed_at literal_at indexed_at charged_at below_at field_at unsigned_at narrow_groups_at groups_at number_at value_of bits number_bits width_from text_charge chars_at times code_at is_xml_char le_value
name_in_bytes = refl

-- 4 is above the three URIs: no such place, in a byte that is wide enough for it
no_such_uri : name_at false align.Bytes (at_bit (0x04 ∷ []) 0 (after 0 fresh)) ≡ Err (fault kind.BadPlace 0 0)
unfolding name_at name_under local_at hit_at missed_at literal_at indexed_at charged_at below_at field_at unsigned_at narrow_groups_at groups_at number_at value_of bits number_bits width_from text_charge chars_at times code_at is_xml_char le_value
no_such_uri = refl
