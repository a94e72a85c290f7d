-- How the values of a simple type are represented without an enumeration (EXI 1.0, section 7.1).
use Rattle.std.specs.Prelude.{ℕ, ◌^◌, Bool, true, false, ◌&&◌, Option, Some, None, List, ℤ, pos, negsuc, ◌+ℤ◌, ◌-ℤ◌, int_le, int_lt, if◌then◌else◌}
use Rattle.exi_names.specs.Datatypes.{Representation, small, unsigned, integer, boolean, binary, decimal, float, moment, text, chars}
use Rattle.xsd_builtins.specs.declared.family.Family.{Family}
use Rattle.xsd_builtins.specs.declared.family.Family.TheVariants as family

-- so many integers, none where the least is above the greatest
abbrev pub size_of : ℤ → ℕ
size_of (pos n) = n
size_of (negsuc n) = 0

abbrev pub how_many : ℤ → ℤ → ℕ
how_many least most = size_of (most -ℤ least +ℤ pos 1)

abbrev pub whole_form : Option ℤ → Representation
whole_form None = integer
whole_form (Some least) = if int_le (pos 0) least then unsigned else integer

-- from -2^127 to 2^127 - 1
abbrev pub is_narrow : ℤ → Bool
is_narrow (pos n) = int_lt (pos n) (pos (2 ^ 127))
is_narrow (negsuc n) = int_lt (pos n) (pos (2 ^ 127))

-- at most 4,096 of them
abbrev pub are_few : ℤ → ℤ → Bool
are_few least most = int_lt (most -ℤ least) (pos 4096)

-- at most 4,096 of them, where the least has 128 bits with a sign (our own bound), go by their places; else what is never
-- negative goes without a sign
abbrev pub integer_form : Option ℤ → Option ℤ → Representation
integer_form (Some least) (Some most) = if are_few least most && is_narrow least then small least (how_many least most) else whole_form (Some least)
integer_form least most = whole_form least

-- characters alone where a pattern leaves a set of them
abbrev pub string_form : Bool → Option (List ℕ) → Representation
string_form true (Some letters) = chars letters
string_form patterned letters = text

-- by the least and the greatest integer, whether there is a pattern, and the characters that it leaves
abbrev pub family_form : Option ℤ → Option ℤ → Bool → Option (List ℕ) → Family → Representation
family_form least most patterned letters (family.Integers first last) = integer_form least most
family_form least most patterned letters family.Booleans = boolean patterned
family_form least most patterned letters family.Base64 = binary false
family_form least most patterned letters family.Hex = binary true
family_form least most patterned letters family.Decimals = decimal
family_form least most patterned letters family.Reals = float
family_form least most patterned letters (family.Moments kind) = moment kind
family_form least most patterned letters family.Strings = string_form patterned letters
family_form least most patterned letters f = text

-- the bounds of a built-in type
abbrev pub least_of : Family → Option ℤ
least_of (family.Integers least most) = least
least_of f = None

abbrev pub most_of : Family → Option ℤ
most_of (family.Integers least most) = most
most_of f = None
