-- Which bits spell characters (EXI 1.0, sections 7.1.10 and 7.1.10.1), and the laws between what is spelled
-- and what is read. A character of a set has two kinds of spelling: its place, and the escape with its code
-- point.
use Rattle.std.specs.Prelude.{◌≡◌, ℕ, ◌<◌, ◌⊎◌, Bool, true, Option, Some, None, Ok, List, [], ◌++◌, length, get_or}
use Rattle.exi_bits.specs.declared.align.Align.{Align}
use Rattle.exi_bits.specs.Bits.{Front, IsAligned, IsBytes, moved, number, rest}
use Rattle.exi_items.specs.Charges.{Charged, text_charge}
use Rattle.exi_items.specs.Spellings.{Each, SpellsUnsigned, Then}
use Rattle.exi_meter.specs.Metering.{Metering}
use Rattle.exi_names.specs.Characters.{is_xml_char}
use Rattle.exi_text.specs.Literals.{all_xml, chars_at, chars_bits, width_in}

-- the code point of an XML character
abbrev pub SpellsCode : ℕ → List Bool → Type 0
SpellsCode c text = (is_xml_char c ≡ true) × SpellsUnsigned c text

-- the place of the character in the set
pub record IsPlaced (set : List ℕ) (a : Align) (c : ℕ) (text : List Bool) : Type 0 where
  pub place : ℕ
  pub within : place < length set
  pub stands : get_or set place 0 ≡ c
  pub bits : text ≡ number (width_in set) a place

-- the escape, and the code point
abbrev pub IsEscaped : List ℕ → Align → ℕ → List Bool → Type 0
IsEscaped set a c text = Then (λ escape. escape ≡ number (width_in set) a (length set)) (SpellsCode c) text

-- a character, with a set or without
abbrev pub SpellsChar : Option (List ℕ) → Align → ℕ → List Bool → Type 0
SpellsChar None a c text = SpellsCode c text
SpellsChar (Some set) a c text = IsPlaced set a c text ⊎ IsEscaped set a c text

-- characters, one behind the other
abbrev pub SpellsChars : Option (List ℕ) → Align → List ℕ → List Bool → Type 0
SpellsChars set a cs text = Each (SpellsChar set a) cs text

-- ---- the laws
-- what is read is spelled so, and has as many characters as were asked for
abbrev pub CharsAreSpelled : Type 0
CharsAreSpelled = (set : Option (List ℕ)) (a : Align) (count : ℕ) (cs : List ℕ) (c d : Charged) → IsBytes c.spot.bytes → IsAligned a c.spot → chars_at set a count c ≡ Ok (cs, d) → (text : List Bool) × (length cs ≡ count) × SpellsChars set a cs text × Front c.spot text d.spot

-- what is spelled so is read, whatever follows, where the meter takes so many characters
abbrev pub CharsAreRead : Type 0
CharsAreRead = (set : Option (List ℕ)) (a : Align) (cs : List ℕ) (m : Metering) (text : List Bool) (c : Charged) (more : List Bool) → IsBytes c.spot.bytes → IsAligned a c.spot → text_charge (length cs) c.spot.place c.meter ≡ Ok m → SpellsChars set a cs text → rest c.spot ≡ text ++ more
    → chars_at set a (length cs) c ≡ Ok (cs, record { spot = moved c.spot (length text); meter = m })

-- no spelling is a proper prefix of another of as many characters, and each spells one list of characters
abbrev pub CharsAreNoPrefix : Type 0
CharsAreNoPrefix = (set : Option (List ℕ)) (a : Align) (cs ds : List ℕ) (text other more : List Bool) → length cs ≡ length ds → SpellsChars set a cs text → SpellsChars set a ds other → text ≡ other ++ more → (cs ≡ ds) × (more ≡ [])

-- what is written for XML characters is one of the spellings
abbrev pub CharsAreWritten : Type 0
CharsAreWritten = (set : Option (List ℕ)) (a : Align) (cs : List ℕ) → all_xml cs ≡ true → SpellsChars set a cs (chars_bits set a cs)
