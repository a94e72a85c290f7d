-- Which code points are characters of XML 1.0 (XML 1.0, section 2.2).
use Rattle.std.specs.Prelude.{ℕ, Bool, true, not, List, [], ◌∷◌, ◌||◌, ◌&&◌, ◌==◌, nat_le}

-- from `least` to `most`, both included
abbrev pub between : ℕ → ℕ → ℕ → Bool
between least most code = nat_le least code && nat_le code most

-- tab, line feed, carriage return, and all from 20 on but the surrogates, FFFE and FFFF
unfoldable pub is_xml_char : ℕ → Bool
is_xml_char code =
    between 0x9 0xA code
    || between 0xD 0xD code
    || between 0x20 0xD7FF code
    || between 0xE000 0xFFFD code
    || between 0x1_0000 0x10_FFFF code

-- a byte that is a character of its own and is printed as it is, between quotes too: from 20 to 7E, but for the quote and the
-- backslash
abbrev pub is_plain : ℕ → Bool
is_plain b = between 0x20 0x7E b && not (b == 0x22) && not (b == 0x5C)

abbrev pub are_plain : List ℕ → Bool
are_plain [] = true
are_plain (b ∷ bs) = is_plain b && are_plain bs
