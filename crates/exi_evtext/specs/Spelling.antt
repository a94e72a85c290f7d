-- Which lines say an event: the one that is printed, and of a fragment at byte 0 also `SC` alone. Only an event whose
-- values some datatype can spell has such a line.
use Rattle.std.specs.Prelude.{◌≡◌, ℕ, ◌^◌, ◌==◌, ◌<◌, ◌&&◌, nat_lt, ◌⊎◌, Bool, true, if◌then◌else◌, List, [], ◌∷◌, codes, IfSome, Option, Some, ℤ, pos, negsuc, slice_index}
use Rattle.std.specs.Str.{all_scalars}
use Rattle.exi_names.specs.declared.names.QName.{QName}
use Rattle.exi_names.specs.Wholes.{Number, number}
use Rattle.exi_names.specs.Seen.{Value, Values, text, boolean, integer, float, moment, binary, items, name, no_more, and}
use Rattle.exi_names.specs.Seen as shape
use Rattle.exi_names.specs.Events as event
use Rattle.exi_names.specs.Events.{Happening}
use Rattle.exi_digits.specs.Splits.{before, behind, is_mark}
use Rattle.exi_names.specs.Forms.{is_exponent, is_mantissa, is_special}
use Rattle.exi_calendar.specs.Parts.{IsInRanges}
use Rattle.exi_evtext.specs.Lines.{count, words}
use Rattle.exi_evtext.specs.Reading.{is_spelled}

-- ---- what can be said
-- characters of Unicode, so that UTF-8 can spell them
abbrev pub IsText : List ℕ → Type 0
IsText t = all_scalars t ≡ true

abbrev pub IsName : QName → Type 0
IsName n = IsText n.uri × IsText n.local × IfSome n.prefix IsText

-- zero without a sign, and in the range
abbrev pub IsInteger : Number → Type 0
IsInteger n = (n ≡ number n.minus n.size) × (is_spelled n ≡ true)

-- 1, -1 or 0: infinity, minus infinity, or what is no number
abbrev pub is_sign : ℤ → Bool
is_sign (pos n) = nat_lt n 2
is_sign (negsuc n) = n == 0

-- a number, or with the exponent -16384 one of three that are none
abbrev pub is_float : ℤ → ℤ → Bool
is_float mantissa exponent = if is_special exponent then is_sign mantissa else (is_mantissa mantissa && is_exponent exponent)

abbrev pub AreOctets : List ℕ → Type 0
AreOctets octets = (i : ℕ) → slice_index octets i < 256

-- a value that some datatype can spell, but for names and lists
abbrev pub IsItem : Value → Type 0
IsItem (text t) = IsText t
IsItem (boolean truth digit) = Unit {0}
IsItem (integer n) = IsInteger n
IsItem (shape.decimal minus whole back) = (whole < 2 ^ 128) × (back < 2 ^ 128)
IsItem (float mantissa exponent) = is_float mantissa exponent ≡ true
IsItem (moment m) = IsInRanges m
IsItem (binary hex octets) = AreOctets octets
IsItem (items vs) = ⊥
IsItem (name n) = ⊥

abbrev pub AreItems : Values → Type 0
AreItems no_more = Unit {0}
AreItems (and v vs) = IsItem v × AreItems vs

-- such a value, a name, or a list of such values, of which a number of 128 bits tells the count
abbrev pub IsValue : Value → Type 0
IsValue (text t) = IsText t
IsValue (boolean truth digit) = Unit {0}
IsValue (integer n) = IsInteger n
IsValue (shape.decimal minus whole back) = (whole < 2 ^ 128) × (back < 2 ^ 128)
IsValue (float mantissa exponent) = is_float mantissa exponent ≡ true
IsValue (moment m) = IsInRanges m
IsValue (binary hex octets) = AreOctets octets
IsValue (items vs) = (count vs < 2 ^ 128) × AreItems vs
IsValue (name n) = IsName n

abbrev pub IsEvent : Happening → Type 0
IsEvent event.sd = Unit {0}
IsEvent event.ed = Unit {0}
IsEvent (event.se n) = IsName n
IsEvent event.ee = Unit {0}
IsEvent (event.at n v) = IsName n × IsValue v
IsEvent (event.ch v) = IsValue v
IsEvent (event.ns uri prefix element) = IsText uri × IsText prefix
IsEvent (event.sc place) = place < 2 ^ 64
IsEvent (event.cm t) = IsText t
IsEvent (event.pi target t) = IsText target × IsText t
IsEvent (event.dt n public system t) = IsText n × IsText public × IsText system × IsText t
IsEvent (event.er n) = IsText n

-- ---- lines
-- the line says the event
abbrev pub Says : List ℕ → Happening → Type 0
Says line e = (IsEvent e × (line ≡ words e)) ⊎ ((line ≡ codes "SC") × (e ≡ event.sc 0))

-- the first line, which is what stands before the first line feed, and what stands behind that
abbrev pub first_line : List ℕ → List ℕ
first_line bytes = before (is_mark 10) bytes

abbrev pub other_lines : List ℕ → Option (List ℕ)
other_lines bytes = behind (is_mark 10) bytes

-- each line says its event, and a line feed ends it
abbrev pub SaysAll : List ℕ → List Happening → Type 0
SaysAll bytes [] = bytes ≡ []
SaysAll bytes (e ∷ es) = Says (first_line bytes) e × ((rest : List ℕ) × (other_lines bytes ≡ Some rest) × SaysAll rest es)
