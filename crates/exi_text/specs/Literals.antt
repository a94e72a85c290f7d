-- The characters of strings (EXI 1.0, sections 7.1.10 and 7.1.10.1): each is an Unsigned Integer, its code
-- point. Where a pattern leaves a set of N characters, each is a number of as many bits as tell N + 1 values
-- apart: below N it is the place of the character in the sorted set, N says that the code point follows.
-- A number above N, and a code point that is no character of XML, are faults.
use Rattle.std.specs.Prelude.{◌==◌, ℕ, ◌+◌, Bool, true, ◌&&◌, ◌||◌, Option, Some, None, Result, Ok, nat_lt, if◌then◌else◌, List, [], ◌∷◌, ◌++◌, length, get_or}
use Rattle.exi_bits.specs.declared.align.Align.{Align}
use Rattle.exi_bits.specs.declared.fault.Fault.{Fault}
use Rattle.exi_bits.specs.declared.fault.Kind.TheVariants as kind
use Rattle.exi_bits.specs.Bits.{bits, number}
use Rattle.exi_bits.specs.Repeat.{Reader, times}
use Rattle.exi_bits.specs.Unsigned.{◌>>=◌, fault_at, field_at, shortest, unsigned_at}
use Rattle.exi_bits.specs.Widths.{width_for}
use Rattle.exi_items.specs.Charges.{Charged, text_charge}
use Rattle.exi_names.specs.Alphabets.{place_of}
use Rattle.exi_names.specs.Characters.{between, is_xml_char}

-- how many bits the place in a set takes, or the escape
abbrev pub width_in : List ℕ → ℕ
width_in set = width_for (length set + 1)

-- ---- the reading
-- a code point that is an XML character
unfoldable pub code_at : Reader ℕ
code_at s = do
  code ← unsigned_at s
  if is_xml_char code.0 then Ok code else fault_at kind.BadChar s

-- a character that is one octet: tab, line feed, carriage return, and 20 to 7F
abbrev pub is_plain : ℕ → Bool
is_plain c = between 0x9 0xA c || between 0xD 0xD c || between 0x20 0x7F c

-- a character by its place in the set, or by its code point behind the escape
unfoldable pub in_set_at : List ℕ → Align → Reader ℕ
in_set_at set a s = do
  place ← field_at (width_in set) a s
  if nat_lt place.0 (length set) then Ok (get_or set place.0 0, place.1) else (if place.0 == length set then code_at place.1 else fault_at kind.BadChar s)

-- a character, with a set or without
abbrev pub char_at : Option (List ℕ) → Align → Reader ℕ
char_at None a = code_at
char_at (Some set) a = in_set_at set a

-- so many characters, whose number is charged before the first
unfoldable pub chars_at : Option (List ℕ) → Align → ℕ → Charged → Result (List ℕ × Charged) Fault
chars_at set a count c = do
  meter ← text_charge count c.spot.place c.meter
  text ← times (char_at set a) count c.spot
  Ok (text.0, record { spot = text.1; meter = meter })

-- ---- what is written
-- the place of a character, or the escape and its code point
abbrev pub placed_bits : List ℕ → Align → ℕ → Option ℕ → List Bool
placed_bits set a c (Some i) = number (width_in set) a i
placed_bits set a c None = number (width_in set) a (length set) ++ bits (shortest c)

-- a character, with a set or without
abbrev pub char_bits : Option (List ℕ) → Align → ℕ → List Bool
char_bits None a c = bits (shortest c)
char_bits (Some set) a c = placed_bits set a c (place_of c set)

-- characters, one after another
unfoldable pub chars_bits : Option (List ℕ) → Align → List ℕ → List Bool
chars_bits set a [] = []
chars_bits set a (c ∷ cs) = char_bits set a c ++ chars_bits set a cs

-- each is an XML character
abbrev pub all_xml : List ℕ → Bool
all_xml [] = true
all_xml (c ∷ cs) = is_xml_char c && all_xml cs
