-- The bytes that spell an event on a tape: its kind, and what it holds, part by part.
use Rattle.std.specs.Prelude.{ℕ, ℤ, ◌+◌, ◌%◌, ◌/◌, ◌^◌, List, [], ◌∷◌, ◌++◌, length, nat_lt, if◌then◌else◌, Bool, true, false, Option, Some, None, encode_utf8_all}
use Rattle.std.specs.Int.{w16, w64, to_le_bytes, cast_unsigned}
use Rattle.exi_names.specs.Wholes.{Number}
use Rattle.exi_names.specs.Seen.{Value, Values, text, boolean, integer, decimal, float, moment, binary, items, name, no_more, and}
use Rattle.exi_names.specs.Events as event
use Rattle.exi_names.specs.declared.names.QName.{QName}
use Rattle.exi_names.specs.declared.moment.Moment.{Moment}
use Rattle.exi_names.specs.declared.moment.MomentKind.{MomentKind}
use Rattle.exi_names.specs.declared.moment.MomentKind.TheVariants as moment_kind

-- a number below 2 ^ 64: itself where it is below 255, else 255 and its eight bytes, the lowest first
unfoldable pub number_spelled : ℕ → List ℕ
number_spelled n = if nat_lt n 255 then n ∷ [] else 255 ∷ to_le_bytes w64 n

-- a number below 2 ^ 128: its low half and its high half
unfoldable pub wide_spelled : ℕ → List ℕ
wide_spelled n = number_spelled (n % 2 ^ 64) ++ number_spelled (n / 2 ^ 64)

-- 0 or 1
abbrev pub flag_spelled : Bool → List ℕ
flag_spelled false = 0 ∷ []
flag_spelled true = 1 ∷ []

-- a number with a sign, of 64 or of 16 bits: its two's complement
unfoldable pub signed_spelled : ℤ → List ℕ
signed_spelled z = number_spelled (cast_unsigned w64 z)

unfoldable pub short_spelled : ℤ → List ℕ
short_spelled z = number_spelled (cast_unsigned w16 z)

-- how many bytes there are, and the bytes
unfoldable pub octets_spelled : List ℕ → List ℕ
octets_spelled octets = number_spelled (length octets) ++ octets

-- a text by its UTF-8
unfoldable pub text_spelled : List ℕ → List ℕ
text_spelled t = octets_spelled (encode_utf8_all t)

unfoldable pub prefix_spelled : Option (List ℕ) → List ℕ
prefix_spelled None = 0 ∷ []
prefix_spelled (Some t) = 1 ∷ text_spelled t

-- URI, local name, prefix
unfoldable pub name_spelled : QName → List ℕ
name_spelled n = text_spelled n.uri ++ (text_spelled n.local ++ prefix_spelled n.prefix)

abbrev pub kind_byte : MomentKind → ℕ
kind_byte moment_kind.GYear = 0
kind_byte moment_kind.GYearMonth = 1
kind_byte moment_kind.Date = 2
kind_byte moment_kind.DateTime = 3
kind_byte moment_kind.GMonth = 4
kind_byte moment_kind.GMonthDay = 5
kind_byte moment_kind.GDay = 6
kind_byte moment_kind.Time = 7

unfoldable pub fraction_spelled : Option ℕ → List ℕ
fraction_spelled None = 0 ∷ []
fraction_spelled (Some n) = 1 ∷ wide_spelled n

unfoldable pub zone_spelled : Option ℤ → List ℕ
zone_spelled None = 0 ∷ []
zone_spelled (Some z) = 1 ∷ short_spelled z

-- a date or time: its kind, then its fields in order
unfoldable pub moment_spelled : Moment → List ℕ
moment_spelled m = kind_byte m.kind ∷ (signed_spelled m.year ++ (m.month ∷ m.day ∷ m.hour ∷ m.minute ∷ m.second ∷ (fraction_spelled m.fraction ++ zone_spelled m.zone)))

-- whether it is negative, and its magnitude
unfoldable pub integer_spelled : Number → List ℕ
integer_spelled n = flag_spelled n.minus ++ wide_spelled n.size

-- how many values there are
abbrev pub count_of : Values → ℕ
count_of no_more = 0
count_of (and v vs) = 1 + count_of vs

-- a value: its kind, and what it holds; of a list its items' number and the items
unfoldable mutual
  pub value_spelled : Value → List ℕ
  value_spelled (text t) = 0 ∷ text_spelled t
  value_spelled (boolean truth digit) = 1 ∷ (flag_spelled truth ++ flag_spelled digit)
  value_spelled (integer n) = 2 ∷ integer_spelled n
  value_spelled (decimal minus whole back) = 3 ∷ (flag_spelled minus ++ (wide_spelled whole ++ wide_spelled back))
  value_spelled (float mantissa exponent) = 4 ∷ (signed_spelled mantissa ++ short_spelled exponent)
  value_spelled (moment m) = 5 ∷ moment_spelled m
  value_spelled (binary hex octets) = 6 ∷ (flag_spelled hex ++ octets_spelled octets)
  value_spelled (items vs) = 7 ∷ (number_spelled (count_of vs) ++ values_spelled vs)
  value_spelled (name n) = 8 ∷ name_spelled n

  pub values_spelled : Values → List ℕ
  values_spelled no_more = []
  values_spelled (and v vs) = value_spelled v ++ values_spelled vs

-- the values of a list, after their number
abbrev pub list_spelled : Values → List ℕ
list_spelled vs = number_spelled (count_of vs) ++ values_spelled vs

-- a value that is no text, after its length: no list in it is nested deeper than it is long
unfoldable pub any_spelled : Value → List ℕ
any_spelled v = 1 ∷ (number_spelled (length (value_spelled v)) ++ value_spelled v)

-- the value of an event
unfoldable pub held_spelled : Value → List ℕ
held_spelled (text t) = 0 ∷ text_spelled t
held_spelled (boolean truth digit) = any_spelled (boolean truth digit)
held_spelled (integer n) = any_spelled (integer n)
held_spelled (decimal minus whole back) = any_spelled (decimal minus whole back)
held_spelled (float mantissa exponent) = any_spelled (float mantissa exponent)
held_spelled (moment m) = any_spelled (moment m)
held_spelled (binary hex octets) = any_spelled (binary hex octets)
held_spelled (items vs) = any_spelled (items vs)
held_spelled (name n) = any_spelled (name n)

-- an event: its kind, and what it holds
unfoldable pub spelled : event.Happening → List ℕ
spelled event.sd = 0 ∷ []
spelled event.ed = 1 ∷ []
spelled (event.se n) = 2 ∷ name_spelled n
spelled event.ee = 3 ∷ []
spelled (event.at n v) = 4 ∷ (name_spelled n ++ held_spelled v)
spelled (event.ch v) = 5 ∷ held_spelled v
spelled (event.ns uri prefix element) = 6 ∷ (flag_spelled element ++ (text_spelled uri ++ text_spelled prefix))
spelled (event.sc place) = 7 ∷ number_spelled place
spelled (event.cm t) = 8 ∷ text_spelled t
spelled (event.pi target t) = 9 ∷ (text_spelled target ++ text_spelled t)
spelled (event.dt n public system t) = 10 ∷ (text_spelled n ++ (text_spelled public ++ (text_spelled system ++ text_spelled t)))
spelled (event.er n) = 11 ∷ text_spelled n

-- events one after another
abbrev pub spelled_all : List event.Happening → List ℕ
spelled_all [] = []
spelled_all (e ∷ es) = spelled e ++ spelled_all es
