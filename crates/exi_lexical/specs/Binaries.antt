-- The texts of octets (XML Schema 1.0 Part 2, sections 3.2.15 and 3.2.16; RFC 4648, section 4 for base64): what
-- they spell, and the canonical one. A text is the list of its code points.
use Rattle.std.specs.Prelude.{ℕ, ◌+◌, ◌-◌, ◌*◌, ◌/◌, ◌%◌, ◌==◌, ◌&&◌, not, nat_lt, nat_le, Bool, if◌then◌else◌, List, [], ◌∷◌, ◌++◌, Option, Some, None}
use Rattle.exi_lexical.specs.Spaces.{is_some_text}

-- ---- hexBinary
-- a digit of either case: `0` to `9`, `A` to `F`, `a` to `f`
abbrev pub hex_digit : ℕ → Option ℕ
hex_digit c =
    if nat_le 48 c && nat_le c 57 then Some (c - 48)
    else if nat_le 65 c && nat_le c 70 then Some (c - 55)
    else if nat_le 97 c && nat_le c 102 then Some (c - 87)
    else None

-- an octet of two digits, before others
abbrev pub octet_before : Option ℕ → Option ℕ → Option (List ℕ) → Option (List ℕ)
octet_before (Some high) (Some low) (Some octets) = Some ((high * 16 + low) ∷ octets)
octet_before high low octets = None

-- pairs of digits
unfoldable pub hex_octets : List ℕ → Option (List ℕ)
hex_octets [] = Some []
hex_octets (high ∷ []) = None
hex_octets (high ∷ low ∷ more) = octet_before (hex_digit high) (hex_digit low) (hex_octets more)

-- the digit in upper case
abbrev pub hex_sign : ℕ → ℕ
hex_sign d = if nat_lt d 10 then 48 + d else 55 + d

-- each octet as two digits in upper case
unfoldable pub hex_text : List ℕ → List ℕ
hex_text [] = []
hex_text (octet ∷ octets) = hex_sign (octet / 16) ∷ hex_sign (octet % 16) ∷ hex_text octets

-- ---- base64Binary
-- the six bits of a digit: `A` to `Z`, `a` to `z`, `0` to `9`, `+`, `/`
abbrev pub base64_digit : ℕ → Option ℕ
base64_digit c =
    if nat_le 65 c && nat_le c 90 then Some (c - 65)
    else if nat_le 97 c && nat_le c 122 then Some (c - 71)
    else if nat_le 48 c && nat_le c 57 then Some (c + 4)
    else if c == 43 then Some 62
    else if c == 47 then Some 63
    else None

-- `=`, which fills up the last group
abbrev pub filler : ℕ
filler = 61

-- one octet of two digits; the last four bits are 0
abbrev pub one_octet : Option ℕ → Option ℕ → Option (List ℕ)
one_octet (Some a) (Some b) = if b % 16 == 0 then Some ((a * 4 + b / 16) ∷ []) else None
one_octet a b = None

-- two octets of three digits; the last two bits are 0
abbrev pub two_octets : Option ℕ → Option ℕ → Option ℕ → Option (List ℕ)
two_octets (Some a) (Some b) (Some c) = if c % 4 == 0 then Some ((a * 4 + b / 16) ∷ (b % 16 * 16 + c / 4) ∷ []) else None
two_octets a b c = None

-- three octets of four digits
abbrev pub three_octets : Option ℕ → Option ℕ → Option ℕ → Option ℕ → Option (List ℕ)
three_octets (Some a) (Some b) (Some c) (Some d) = Some ((a * 4 + b / 16) ∷ (b % 16 * 16 + c / 4) ∷ (c % 4 * 64 + d) ∷ [])
three_octets a b c d = None

-- a group of four characters; only the last may have one or two fillers at its end
abbrev pub group_octets : Bool → ℕ → ℕ → ℕ → ℕ → Option (List ℕ)
group_octets others a b c d =
    if not others && (d == filler) then
    (if c == filler then one_octet (base64_digit a) (base64_digit b)
    else two_octets (base64_digit a) (base64_digit b) (base64_digit c))
    else three_octets (base64_digit a) (base64_digit b) (base64_digit c) (base64_digit d)

-- octets before others
abbrev pub octets_before : Option (List ℕ) → Option (List ℕ) → Option (List ℕ)
octets_before (Some first) (Some more) = Some (first ++ more)
octets_before first more = None

-- groups of four characters
unfoldable pub base64_octets : List ℕ → Option (List ℕ)
base64_octets [] = Some []
base64_octets (a ∷ b ∷ c ∷ d ∷ more) = octets_before (group_octets (is_some_text more) a b c d) (base64_octets more)
base64_octets other = None

-- the digit of six bits
abbrev pub base64_sign : ℕ → ℕ
base64_sign n =
    if nat_lt n 26 then 65 + n
    else if nat_lt n 52 then 71 + n
    else if nat_lt n 62 then n - 4
    else if n == 62 then 43
    else 47

-- three octets as four digits; at the end one octet as two digits and two fillers, two as three and one
unfoldable pub base64_text : List ℕ → List ℕ
base64_text [] = []
base64_text (a ∷ []) = base64_sign (a / 4) ∷ base64_sign (a % 4 * 16) ∷ filler ∷ filler ∷ []
base64_text (a ∷ b ∷ []) = base64_sign (a / 4) ∷ base64_sign (a % 4 * 16 + b / 16) ∷ base64_sign (b % 16 * 4) ∷ filler ∷ []
base64_text (a ∷ b ∷ c ∷ more) = base64_sign (a / 4) ∷ base64_sign (a % 4 * 16 + b / 16) ∷ base64_sign (b % 16 * 4 + c / 64) ∷ base64_sign (c % 64) ∷ base64_text more
