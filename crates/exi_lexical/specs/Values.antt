-- The value of a text under a datatype, and the canonical text of a value (XML Schema 1.0 Part 2, section 3, for the
-- forms; which of its texts is the canonical one is our own where a datatype has several texts for one value).
use Rattle.std.specs.Prelude.{ℕ, ℤ, ◌&&◌, nat_le, Bool, true, false, if◌then◌else◌, List, [], ◌∷◌, length, codes, Option, Some, None, option_map}
use Rattle.std.specs.Str.{bytes_eq}
use Rattle.std.specs.List.{join_with_byte}
use Rattle.std.specs.Option.{is_some}
use Rattle.exi_names.specs.Wholes.{Number}
use Rattle.exi_names.specs.declared.val.TheConstants.{MOST_ITEMS}
use Rattle.exi_names.specs.Seen.{Value, Values, boolean, integer, decimal, float, moment, binary, items, no_more, and, values_of}
use Rattle.exi_names.specs.Seen as shape
use Rattle.exi_names.specs.Datatypes.{Representation, small, unsigned, list, choice, chars}
use Rattle.exi_names.specs.Datatypes as form
use Rattle.exi_lexical.specs.Spaces.{all_ascii, squeezed, trimmed, words}
use Rattle.exi_lexical.specs.Binaries.{base64_octets, base64_text, hex_octets, hex_text}
use Rattle.exi_names.specs.Equality.{place_among}
use Rattle.exi_calendar.specs.Forms.{moment_text}
use Rattle.exi_calendar.specs.Reading.{moment_value}
use Rattle.exi_numerals.specs.Decimals.{decimal_text, decimal_value}
use Rattle.exi_numerals.specs.Floats.{float_text, float_value}
use Rattle.exi_names.specs.Forms.{is_integer, is_unsigned, is_within}
use Rattle.exi_numerals.specs.Integers.{integer_in, integer_text}
use Rattle.exi_numerals.specs.declared.decimal.Decimal.{Decimal}
use Rattle.exi_numerals.specs.declared.float.Float.{Float}

-- ---- Boolean
-- one of four texts; only with a pattern a digit is told from a word
unfoldable pub boolean_value : Bool → List ℕ → Option Value
boolean_value pattern t =
    if bytes_eq t (codes "true") then Some (boolean true false)
    else if bytes_eq t (codes "false") then Some (boolean false false)
    else if bytes_eq t (codes "1") then Some (boolean true pattern)
    else if bytes_eq t (codes "0") then Some (boolean false pattern)
    else None

abbrev pub boolean_text : Bool → Bool → List ℕ
boolean_text true false = codes "true"
boolean_text false false = codes "false"
boolean_text true true = codes "1"
boolean_text false true = codes "0"

-- ---- Binary
-- in hexadecimal, or in base64 with white space dropped
abbrev pub binary_value : Bool → List ℕ → Option Value
binary_value true t = option_map (binary true) (hex_octets t)
binary_value false t = option_map (binary false) (base64_octets (squeezed t))

abbrev pub binary_text : Bool → List ℕ → List ℕ
binary_text true octets = hex_text octets
binary_text false octets = base64_text octets

-- ---- Integers, Decimal, Float
abbrev pub of_decimal : Decimal → Value
of_decimal d = decimal d.minus d.whole d.back

abbrev pub of_float : Float → Value
of_float f = float f.mantissa f.exponent

-- ---- the datatypes whose values are neither strings, lists, names nor enumerated
abbrev pub form_value : Representation → List ℕ → Option Value
form_value (small least count) t = option_map integer (integer_in (is_within least count) t)
form_value unsigned t = option_map integer (integer_in is_unsigned t)
form_value form.integer t = option_map integer (integer_in is_integer t)
form_value (form.boolean pattern) t = boolean_value pattern t
form_value (form.binary hex) t = binary_value hex t
form_value form.decimal t = option_map of_decimal (decimal_value t)
form_value form.float t = option_map of_float (float_value t)
form_value (form.moment kind) t = option_map moment (moment_value kind t)
form_value (list item) t = None
form_value (choice base values) t = None
form_value form.text t = None
form_value (chars alphabet) t = None
form_value (form.name prefixes) t = None

-- each of these forms has ASCII characters alone
unfoldable pub scalar_value : Representation → List ℕ → Option Value
scalar_value r t = if all_ascii t then form_value r t else None

-- ---- lists
abbrev pub value_before : Option Value → Option (List Value) → Option (List Value)
value_before (Some v) (Some vs) = Some (v ∷ vs)
value_before v vs = None

-- the values of several texts, where each has one
abbrev pub each_value : (List ℕ → Option Value) → List (List ℕ) → Option (List Value)
each_value item [] = Some []
each_value item (t ∷ ts) = value_before (item t) (each_value item ts)

-- one item for each word, at most MOST_ITEMS (our own bound)
unfoldable pub list_value : (List ℕ → Option Value) → List ℕ → Option Value
list_value item t = if nat_le (length (words t)) MOST_ITEMS then option_map (λ vs. items (values_of vs)) (each_value item (words t)) else None

-- ---- enumerations
-- the value under the base, where it is one of the enumerated ones
abbrev pub chosen : List Value → Option Value → Option Value
chosen values None = None
chosen values (Some v) = if is_some (place_among v values) then Some v else None

-- ---- the value of a text
-- White space at either end is dropped but where the text is itself the value. No text has a name as its value: that
-- takes the namespaces in scope.
unfoldable pub value : Representation → List ℕ → Option Value
value form.text t = Some (shape.text t)
value (chars alphabet) t = Some (shape.text t)
value (form.name prefixes) t = None
value (list item) t = list_value (λ w. value item w) t
value (choice base values) t = chosen values (value base (trimmed t))
value (small least count) t = scalar_value (small least count) (trimmed t)
value unsigned t = scalar_value unsigned (trimmed t)
value form.integer t = scalar_value form.integer (trimmed t)
value (form.boolean pattern) t = scalar_value (form.boolean pattern) (trimmed t)
value (form.binary hex) t = scalar_value (form.binary hex) (trimmed t)
value form.decimal t = scalar_value form.decimal (trimmed t)
value form.float t = scalar_value form.float (trimmed t)
value (form.moment kind) t = scalar_value (form.moment kind) (trimmed t)

-- ---- the canonical text of a value; a name has none
abbrev mutual
  pub canonical : Value → List ℕ
  canonical (shape.text t) = t
  canonical (boolean truth digit) = boolean_text truth digit
  canonical (integer n) = integer_text n
  canonical (decimal minus whole back) = decimal_text (record { minus = minus; whole = whole; back = back })
  canonical (float mantissa exponent) = float_text (record { mantissa = mantissa; exponent = exponent })
  canonical (moment m) = moment_text m
  canonical (binary hex octets) = binary_text hex octets
  -- with one space between
  canonical (items vs) = join_with_byte 32 (texts vs)
  canonical (shape.name n) = []

  pub texts : Values → List (List ℕ)
  texts no_more = []
  texts (and v vs) = canonical v ∷ texts vs
