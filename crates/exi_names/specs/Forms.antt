-- Which values are of a datatype's form (EXI 1.0, section 7.1): what its values may be as data, whatever bits or text
-- they came from. The bounds of 128 and 64 bits and the length of a list are our own.
use Rattle.std.specs.Prelude.{◌≡◌, IsTrue, IfSome, ℕ, zero, suc, ◌<◌, ◌≤◌, ◌^◌, ◌==◌, Bool, true, false, ◌&&◌, ◌||◌, not, nat_lt, nat_le, if◌then◌else◌, List, None, ℤ, pos, negsuc, neg_ℤ, ◌+ℤ◌, int_le, int_lt, slice_index}
use Rattle.std.specs.Option.{is_some}
use Rattle.exi_names.specs.Datatypes.{Representation}
use Rattle.exi_names.specs.Datatypes as kind
use Rattle.exi_names.specs.Equality.{place_among}
use Rattle.exi_names.specs.Moments.{IsMoment, is_year}
use Rattle.exi_names.specs.Seen.{Value, Values, text, boolean, integer, decimal, float, moment, binary, items, name, no_more, and}
use Rattle.exi_names.specs.Wholes.{Number}
use Rattle.exi_names.specs.declared.val.TheConstants.{MOST_ITEMS}

-- ---- integers
-- the number on the number line
abbrev pub int_of : Number → ℤ
int_of n = if n.minus then neg_ℤ (pos n.size) else pos n.size

-- a zero has no sign
abbrev pub HasNoMinusZero : Number → Type 0
HasNoMinusZero n = n.size ≡ 0 → n.minus ≡ false

-- less than 2^128 away from zero
abbrev pub is_wide : Number → Bool
is_wide n = nat_lt n.size (2 ^ 128)

-- so many numbers from the least one on
abbrev pub is_small : ℤ → ℕ → Number → Bool
is_small least count n = int_le least (int_of n) && int_lt (int_of n) (least +ℤ pos count)

-- the same in the 128 bits and the sign that a value has
abbrev pub is_within : ℤ → ℕ → Number → Bool
is_within least count n = is_wide n && is_small least count n

-- 0 to 2^128 - 1
abbrev pub is_unsigned : Number → Bool
is_unsigned n = not n.minus && nat_lt n.size (2 ^ 128)

-- -2^127 to 2^127 - 1
abbrev pub is_integer : Number → Bool
is_integer n = if n.minus then nat_le n.size (2 ^ 127) else nat_lt n.size (2 ^ 127)

-- ---- floats
-- a mantissa fits 64 bits with a sign
abbrev pub is_mantissa : ℤ → Bool
is_mantissa (pos n) = nat_lt n (2 ^ 63)
is_mantissa (negsuc n) = nat_lt n (2 ^ 63)

-- an exponent of a number is from -16383 to 16383
abbrev pub is_exponent : ℤ → Bool
is_exponent e = int_le (negsuc 16382) e && int_le e (pos 16383)

-- the exponent of what is no number, -16384
abbrev pub no_number : ℤ
no_number = negsuc 16383

-- whether the exponent is that
abbrev pub is_special : ℤ → Bool
is_special (pos n) = false
is_special (negsuc n) = n == 16383

-- 1 for infinity, -1 for minus infinity, 0 for what is not a number
abbrev pub is_word : ℤ → Bool
is_word (pos n) = nat_le n 1
is_word (negsuc n) = n == 0

-- a number, or one of the three that are none
abbrev pub is_float : ℤ → ℤ → Bool
is_float mantissa exponent = (is_mantissa mantissa && is_exponent exponent) || (is_word mantissa && is_special exponent)

-- ---- octets
-- each is an octet
abbrev pub AreOctets : List ℕ → Type 0
AreOctets xs = (i : ℕ) → slice_index xs i < 256

-- ---- lists
abbrev pub length_of : Values → ℕ
length_of no_more = zero
length_of (and v vs) = suc (length_of vs)

-- ---- the form
abbrev mutual
  pub IsOf : Representation → Value → Type 0
  IsOf (kind.small least count) (integer n) = HasNoMinusZero n × (is_within least count n ≡ true)
  IsOf kind.unsigned (integer n) = HasNoMinusZero n × (is_unsigned n ≡ true)
  IsOf kind.integer (integer n) = HasNoMinusZero n × (is_integer n ≡ true)
  -- a digit is told only where there is a pattern
  IsOf (kind.boolean pattern) (boolean truth digit) = pattern ≡ false → digit ≡ false
  IsOf (kind.binary hex) (binary spelled octets) = (spelled ≡ hex) × AreOctets octets
  IsOf kind.decimal (decimal minus whole back) = (whole < 2 ^ 128) × (back < 2 ^ 128)
  IsOf kind.float (float mantissa exponent) = is_float mantissa exponent ≡ true
  IsOf (kind.moment which) (moment m) = (m.kind ≡ which) × IsMoment m × IsTrue (is_year m.year) × IfSome m.fraction (λ digits. digits < 2 ^ 128)
  IsOf (kind.list item) (items vs) = (length_of vs ≤ MOST_ITEMS) × AreOf item vs
  -- one of the enumerated values
  IsOf (kind.choice base values) v = is_some (place_among v values) ≡ true
  -- any string: a pattern's characters are asked by what writes them
  IsOf kind.text (text t) = Unit {0}
  IsOf (kind.chars set) (text t) = Unit {0}
  -- a prefix only where prefixes are kept
  IsOf (kind.name prefixes) (name n) = prefixes ≡ false → n.prefix ≡ None
  IsOf k v = ⊥

  -- each of them
  pub AreOf : Representation → Values → Type 0
  AreOf k no_more = Unit {0}
  AreOf k (and v vs) = IsOf k v × AreOf k vs
