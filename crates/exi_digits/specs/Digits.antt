-- Decimal digits (XML Schema Part 2, section 3.3.13.1 and the like: "a finite-length sequence of decimal
-- digits (#x30-#x39)"). A text is the list of its code points.
use Rattle.std.specs.Prelude.{ℕ, ◌+◌, ◌-◌, ◌*◌, ◌^◌, Bool, true, false, ◌&&◌, nat_le, nat_lt, List, [], ◌∷◌, ◌++◌, length, reverse, replicate, decimal, Option, Some, None, if◌then◌else◌}

-- the characters 0 to 9
abbrev pub is_digit : ℕ → Bool
is_digit c = nat_le 48 c && nat_le c 57

-- each is a digit
abbrev pub all_digits : List ℕ → Bool
all_digits [] = true
all_digits (c ∷ cs) = is_digit c && all_digits cs

-- there is one character at least
abbrev pub has_any : List ℕ → Bool
has_any [] = false
has_any (c ∷ cs) = true

-- one digit at least, and nothing but digits
abbrev pub is_numeral : List ℕ → Bool
is_numeral text = has_any text && all_digits text

-- the number that digits spell: each stands for itself times 10 to the number of digits behind it
abbrev pub number_of : List ℕ → ℕ
number_of [] = 0
number_of (c ∷ cs) = (c - 48) * 10 ^ length cs + number_of cs

-- the number that a fraction's digits spell when read backwards. Zeros at the end of the fraction are then
-- zeros in front, which change no number: whether they are dropped before makes no difference.
abbrev pub back_of : List ℕ → ℕ
back_of digits = number_of (reverse digits)

-- a number that 128 bits hold (our own bound)
abbrev pub kept : ℕ → Option ℕ
kept n = if nat_lt n (2 ^ 128) then Some n else None

-- the number of digits, perhaps none, that stand behind others of that number: all have to be digits, and the
-- number below 2 ^ 128
abbrev pub number_behind : ℕ → List ℕ → Option ℕ
number_behind before text = if all_digits text then kept (before * 10 ^ length text + number_of text) else None

-- the number of one more digit behind others
abbrev pub digit_behind : ℕ → ℕ → Option ℕ
digit_behind before c = if is_digit c then kept (before * 10 + (c - 48)) else None

-- the number of digits, one at least
abbrev pub number_in : List ℕ → Option ℕ
number_in text = if is_numeral text then kept (number_of text) else None

-- the number of a fraction's digits, perhaps none, when read backwards
abbrev pub back_in : List ℕ → Option ℕ
back_in text = if all_digits text then kept (back_of text) else None

-- ---- the digits of a number
-- The shortest digits of a number below 10 ^ 64 are `decimal` of it.

-- at least so many digits, with zeros in front where there are fewer
abbrev pub padded : ℕ → ℕ → List ℕ
padded width n = replicate (width - length (decimal n)) 48 ++ decimal n

-- the digits of a fraction, of which this is the number when they are read backwards; without zeros at the
-- end, but one digit at least
abbrev pub fraction_of : ℕ → List ℕ
fraction_of n = reverse (decimal n)
