-- The texts of a date or a time (XML Schema 1.0 Part 2, sections 3.2.7 to 3.2.14): its fields one after another,
-- as its form writes them; and the one of these texts that is written.
use Rattle.std.specs.Prelude.{◌≡◌, IsTrue, ℕ, zero, suc, ◌/◌, ◌%◌, Bool, true, false, List, [], ◌∷◌, ◌++◌, Option, Some, None, ℤ, pos, negsuc, neg_ℤ, ◌&&◌, nat_lt}
use Rattle.exi_names.specs.declared.moment.Moment.{Moment}
use Rattle.exi_digits.specs.Digits.{back_of, fraction_of, is_numeral, padded}
use Rattle.exi_calendar.specs.Parts.{colon, hyphen, layout, letter_z, plus, point}

-- ---- fields that every text writes alike
-- at least four digits; more have no 0 in front; a year before the year 0 has a hyphen (so `-0000` is no year)
abbrev pub year_text : Bool → ℤ → List ℕ
year_text true (pos n) = padded 4 n
year_text true (negsuc n) = hyphen ∷ padded 4 (suc n)
year_text false year = []

-- the marks and two digits
abbrev pub field_text : Option (List ℕ) → ℕ → List ℕ
field_text (Some marks) n = marks ++ padded 2 n
field_text None n = []

-- year, month and day
abbrev pub date_text : Moment → List ℕ
date_text m = year_text (layout m.kind).year m.year ++ field_text (layout m.kind).month m.month ++ field_text (layout m.kind).day m.day

-- hour, minute and second
abbrev pub time_text : Moment → List ℕ
time_text m = field_text (layout m.kind).hour m.hour ++ field_text (layout m.kind).minute m.minute ++ field_text (layout m.kind).second m.second

-- `hh:mm`
abbrev pub offset_text : ℕ → List ℕ
offset_text minutes = padded 2 (minutes / 60) ++ colon ∷ padded 2 (minutes % 60)

-- ---- fields with several texts
-- a point and one digit at least; zeros at the end tell nothing
abbrev pub SpellsFraction : Option ℕ → List ℕ → Type 0
SpellsFraction None text = text ≡ []
SpellsFraction (Some back) text = (digits : List ℕ) × (text ≡ point ∷ digits) × IsTrue (is_numeral digits) × (back_of digits ≡ back)

-- UTC is `Z`, `+00:00` or `-00:00`
pub data SpellsZone : Option ℤ → List ℕ → Type 0 where
  absent : SpellsZone None []
  utc : SpellsZone (Some (pos 0)) (letter_z ∷ [])
  east : (minutes : ℕ) → SpellsZone (Some (pos minutes)) (plus ∷ offset_text minutes)
  west : (minutes : ℕ) → SpellsZone (Some (neg_ℤ (pos minutes))) (hyphen ∷ offset_text minutes)

-- ---- all texts of a date or a time
pub record Spells (m : Moment) (text : List ℕ) : Type 0 where
  pub fraction : List ℕ
  pub zone : List ℕ
  pub fraction_is : SpellsFraction m.fraction fraction
  pub zone_is : SpellsZone m.zone zone
  pub text_is : text ≡ date_text m ++ time_text m ++ fraction ++ zone

-- ---- the canonical text: a fraction without zeros at its end, and UTC as `Z`
abbrev pub fraction_text : Option ℕ → List ℕ
fraction_text None = []
fraction_text (Some back) = point ∷ fraction_of back

abbrev pub zone_text : Option ℤ → List ℕ
zone_text None = []
zone_text (Some (pos zero)) = letter_z ∷ []
zone_text (Some (pos (suc n))) = plus ∷ offset_text (suc n)
zone_text (Some (negsuc n)) = hyphen ∷ offset_text (suc n)

unfoldable pub moment_text : Moment → List ℕ
moment_text m = date_text m ++ time_text m ++ fraction_text m.fraction ++ zone_text m.zone

-- each is a character that can be seen, from 33 to 126: neither white space nor beyond ASCII
abbrev pub all_visible : List ℕ → Bool
all_visible [] = true
all_visible (c ∷ text) = nat_lt 32 c && nat_lt c 127 && all_visible text
