-- Which lists of characters are an alphabet, as a pattern gives one (EXI 1.0, section 7.1.10.1).
use Rattle.std.specs.Prelude.{ℕ, suc, ◌+◌, ◌==◌, Bool, true, ◌&&◌, nat_le, List, [], ◌∷◌, Option, Some, None, if◌then◌else◌}
use Rattle.exi_names.specs.Characters.{is_xml_char}

-- XML characters from `least` on, each above the one before it
abbrev pub rises_from : ℕ → List ℕ → Bool
rises_from least [] = true
rises_from least (c ∷ cs) = nat_le least c && is_xml_char c && rises_from (c + 1) cs

-- sorted, without repeats, and of XML characters
abbrev pub is_alphabet : List ℕ → Bool
is_alphabet cs = rises_from 0 cs

abbrev pub one_more : Option ℕ → Option ℕ
one_more None = None
one_more (Some i) = Some (suc i)

-- the place of the character among these, where it is one of them
abbrev pub place_of : ℕ → List ℕ → Option ℕ
place_of c [] = None
place_of c (x ∷ xs) = if c == x then Some 0 else one_more (place_of c xs)
