-- Integers as text (XML Schema Part 2, section 3.3.13): "a finite-length sequence of decimal digits with an
-- optional leading sign". A text is the list of its code points, without white space around it.
use Rattle.std.specs.Prelude.{ℕ, Bool, false, ◌||◌, ◌==◌, List, [], ◌∷◌, ◌++◌, decimal, Option, Some, None, if◌then◌else◌}
use Rattle.exi_digits.specs.Digits.{is_numeral, number_of}
use Rattle.exi_names.specs.Wholes.{Number, number}

-- ---- the sign
-- the text begins with `-`
abbrev pub has_minus : List ℕ → Bool
has_minus [] = false
has_minus (c ∷ cs) = c == 45

-- the text behind its sign `-` or `+`; all of it where it has none
abbrev pub behind_sign : List ℕ → List ℕ
behind_sign [] = []
behind_sign (c ∷ cs) = if c == 45 || c == 43 then cs else c ∷ cs

-- ---- the value of a text
-- an optional sign and digits, one at least
abbrev pub is_integer_text : List ℕ → Bool
is_integer_text text = is_numeral (behind_sign text)

-- the number of such a text: that of its digits, below zero where the sign is `-`; `-0` is 0
abbrev pub integer_of : List ℕ → Number
integer_of text = number (has_minus text) (number_of (behind_sign text))

abbrev pub integer_value : List ℕ → Option Number
integer_value text = if is_integer_text text then Some (integer_of text) else None

-- ---- in the range of an integer datatype
-- the number, where it is in the range
abbrev pub in_range : (Number → Bool) → Option Number → Option Number
in_range range None = None
in_range range (Some n) = if range n then Some n else None

-- the value that a text has under an integer datatype of that range
abbrev pub integer_in : (Number → Bool) → List ℕ → Option Number
integer_in range text = in_range range (integer_value text)

-- ---- the canonical text
abbrev pub sign_text : Bool → List ℕ
sign_text minus = if minus then 45 ∷ [] else []

-- the shortest digits, behind `-` where the number is below zero
abbrev pub integer_text : Number → List ℕ
integer_text n = sign_text n.minus ++ decimal n.size
