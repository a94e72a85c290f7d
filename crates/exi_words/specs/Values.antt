-- What the values that words give mean, one by one.
use Rattle.std.specs.Prelude.{◌&&◌, ℕ, zero, suc, Bool, true, false, List, [], ◌∷◌, length, nat_le, Option, Some, None, option_map, codes, if◌then◌else◌}
use Rattle.std.specs.Int.RustNames.{bit_or}
use Rattle.std.specs.Str.{bytes_eq, chars}
use Rattle.clap.specs.Words.{Row, Text, first_of}
use Rattle.exi_digits.specs.Digits.{number_in}
use Rattle.exi_gram.specs.declared.options.OptionFlags.{OptionFlags}
use Rattle.exi_names.specs.Characters.{is_xml_char}
use Rattle.exi_words.specs.declared.values.TheConstants.{MOST_CHARACTERS, MOST_DIGITS}

infixl 10 ◌>>=◌
abbrev pub ◌>>=◌ : {A B : Type 0} → Option A → (A → Option B) → Option B
None >>= f = None
(Some x) >>= f = f x

-- ---- flags
-- a flag whose value is this stands among the words
abbrev pub is_true : Option Text → Bool
is_true None = false
is_true (Some t) = bytes_eq t (codes "true")

abbrev pub stands : Text → List Row → Bool
stands name rows = is_true (first_of name rows)

-- with the bit of an option of the stream, where its flag stands
abbrev pub with_bit : List Row → Text → ℕ → ℕ → ℕ
with_bit rows name bit bits = if stands name rows then bit_or bits bit else bits

-- the options that are on
abbrev pub bits_of : List Row → ℕ
bits_of rows =
    with_bit rows (codes "prefixes") 128 (with_bit rows (codes "dtd") 64 (with_bit rows (codes "pis") 32 (with_bit rows (codes "comments") 16
    (with_bit rows (codes "byte-aligned") 8 (with_bit rows (codes "self-contained") 4 (with_bit rows (codes "fragment") 2 (with_bit rows (codes "strict") 1 0)))))))

abbrev pub flags_of : List Row → OptionFlags
flags_of rows = record { 0 = bits_of rows }

-- ---- numbers
abbrev pub most_digits : ℕ
most_digits = MOST_DIGITS

-- 1 to 10 decimal digits
abbrev pub number_told : Text → Option ℕ
number_told t = if nat_le (length t) most_digits then number_in t else None

-- from `least` to `most`
abbrev pub within : ℕ → ℕ → ℕ → Option ℕ
within least most n = if nat_le least n && nat_le n most then Some n else None

abbrev pub number_within : ℕ → ℕ → Text → Option ℕ
number_within least most t = number_told t >>= within least most

-- a number up to `most`, and `usual` where none is given
abbrev pub number_or : ℕ → ℕ → Option Text → Option ℕ
number_or usual most None = Some usual
number_or usual most (Some t) = number_within 0 most t

-- any number, or none
abbrev pub number_if : Option Text → Option (Option ℕ)
number_if None = Some None
number_if (Some t) = option_map (λ n. Some n) (number_told t)

-- ---- a schema's name
abbrev pub most_characters : ℕ
most_characters = MOST_CHARACTERS

-- no more characters than that, and each of XML
abbrev pub are_few_xml : ℕ → List ℕ → Bool
are_few_xml n [] = true
are_few_xml zero (c ∷ cs) = false
are_few_xml (suc n) (c ∷ cs) = is_xml_char c && are_few_xml n cs

abbrev pub is_schema_name : Text → Bool
is_schema_name t = are_few_xml most_characters (chars t)

abbrev pub name_if : Option Text → Option (Option Text)
name_if None = Some None
name_if (Some t) = if is_schema_name t then Some (Some t) else None
