-- How the value of a text follows from its form: field by field, each behind the one before it. Nothing where the
-- text has not the form, or where a field is out of its range (XML Schema 1.0 Part 2, sections 3.2.7 to 3.2.14).
use Rattle.std.specs.Prelude.{◌≡◌, Option, Some, None, option_and_then, option_map, ℕ, suc, ◌+◌, ◌-◌, ◌*◌, ◌^◌, ◌==◌, ◌&&◌, ◌||◌, nat_lt, nat_le, if◌then◌else◌, Bool, true, false, List, [], ◌∷◌, length, take, drop, slice_index, not, ℤ, pos, neg_ℤ}
use Rattle.std.specs.Borrow.{Bor}
use Rattle.exi_names.specs.declared.moment.Moment.{Moment}
use Rattle.exi_names.specs.declared.moment.MomentKind.{MomentKind}
use Rattle.exi_names.specs.declared.moment.MomentKind.TheVariants as form
use Rattle.exi_digits.specs.Digits.{back_in, has_any, is_digit, number_in}
use Rattle.exi_calendar.specs.Parts.{colon, hyphen, layout, letter_t, letter_z, no_mark, one_mark, plus, point}

-- one after another, as far as there is something
infixl 10 ◌>>=◌
abbrev pub ◌>>=◌ : {A B : Type 0} → Option A → (A → Option B) → Option B
o >>= f = option_and_then f o

-- what was answered, with the text that is left, is what the reading gives
abbrev pub Reads : {X : Type 0} → Option (X × Bor (List ℕ)) → Option (X × List ℕ) → Type 0
Reads None read = read ≡ None
Reads (Some found) read = read ≡ Some (found.0, found.1.now)

-- ---- pieces of a text
-- what stands behind these marks, where the text begins with them
unfoldable pub past : List ℕ → List ℕ → Option (List ℕ)
past [] text = Some text
past (m ∷ marks) [] = None
past (m ∷ marks) (c ∷ text) = if c == m then past marks text else None

-- how many digits a text begins with
abbrev pub lead_width : List ℕ → ℕ
lead_width [] = 0
lead_width (c ∷ text) = if is_digit c then suc (lead_width text) else 0

-- those digits, and what stands behind them
abbrev pub lead : List ℕ → List ℕ
lead text = take (lead_width text) text

abbrev pub after_lead : List ℕ → List ℕ
after_lead text = drop (lead_width text) text

-- the number of two digits, within these bounds
abbrev pub within : ℕ → ℕ → ℕ → Option ℕ
within least most n = if nat_le least n && nat_le n most then Some n else None

unfoldable pub two_digits_of : ℕ → ℕ → ℕ → ℕ → Option ℕ
two_digits_of least most tens ones = if is_digit tens && is_digit ones then within least most ((tens - 48) * 10 + (ones - 48)) else None

-- a number of two digits within these bounds, and what stands behind it
abbrev pub two_digits_at : ℕ → ℕ → List ℕ → Option (ℕ × List ℕ)
two_digits_at least most [] = None
two_digits_at least most (tens ∷ []) = None
two_digits_at least most (tens ∷ ones ∷ text) = option_map (λ n. (n, text)) (two_digits_of least most tens ones)

-- ---- the year
-- four digits, or more without a 0 in front
abbrev pub is_long_enough : List ℕ → Bool
is_long_enough digits = (length digits == 4) || (nat_lt 4 (length digits) && not (slice_index digits 0 == 48))

-- a year of 64 bits with a sign; there is no year -0
abbrev pub signed_year : Bool → ℕ → Option ℤ
signed_year false n = if nat_lt n (2 ^ 63) then Some (pos n) else None
signed_year true n = if nat_lt 0 n && nat_le n (2 ^ 63) then Some (neg_ℤ (pos n)) else None

unfoldable pub year_of : Bool → List ℕ → Option ℤ
year_of minus digits = if is_long_enough digits then (number_in digits >>= signed_year minus) else None

unfoldable pub digits_year_at : Bool → List ℕ → Option (ℤ × List ℕ)
digits_year_at minus text = option_map (λ year. (year, after_lead text)) (year_of minus (lead text))

abbrev pub signed_year_at : List ℕ → Option (List ℕ) → Option (ℤ × List ℕ)
signed_year_at text None = digits_year_at false text
signed_year_at text (Some digits) = digits_year_at true digits

-- 0 where the form has no year
unfoldable pub year_at : Bool → List ℕ → Option (ℤ × List ℕ)
year_at true text = signed_year_at text (past (hyphen ∷ []) text)
year_at false text = Some (pos 0, text)

-- ---- a field of two digits behind its marks; 0 where the form does not have it
unfoldable pub field_at : Option (List ℕ) → ℕ → ℕ → List ℕ → Option (ℕ × List ℕ)
field_at (Some marks) least most text = past marks text >>= two_digits_at least most
field_at None least most text = Some (0, text)

-- ---- the fraction of a second: perhaps none; behind a point there is a digit at least
unfoldable pub fraction_digits_at : List ℕ → Option (Option ℕ × List ℕ)
fraction_digits_at text = if has_any (lead text) then option_map (λ back. (Some back, after_lead text)) (back_in (lead text)) else None

abbrev pub optional_fraction_at : List ℕ → Option (List ℕ) → Option (Option ℕ × List ℕ)
optional_fraction_at text None = Some (None, text)
optional_fraction_at text (Some digits) = fraction_digits_at digits

-- only behind seconds
unfoldable pub fraction_at : Option (List ℕ) → List ℕ → Option (Option ℕ × List ℕ)
fraction_at (Some marks) text = optional_fraction_at text (past (point ∷ []) text)
fraction_at None text = Some (None, text)

-- ---- the zone, which is all that is left
-- the minutes that `hh:mm` stands for: at most 14 hours
unfoldable pub offset_of : List ℕ → Option ℕ
offset_of text = do
  hours ← field_at no_mark 0 14 text
  minutes ← field_at (one_mark colon) 0 59 hours.1
  if not (has_any minutes.1) && nat_le (hours.0 * 60 + minutes.0) 840 then Some (hours.0 * 60 + minutes.0) else None

unfoldable pub zone_of : List ℕ → Option (Option ℤ)
zone_of [] = Some None
zone_of (c ∷ text) =
    if c == plus then option_map (λ minutes. Some (pos minutes)) (offset_of text)
    else if c == hyphen then option_map (λ minutes. Some (neg_ℤ (pos minutes))) (offset_of text)
    else if (c == letter_z) && not (has_any text) then Some (Some (pos 0))
    else None

-- ---- the date or the time
unfoldable pub moment_value : MomentKind → List ℕ → Option Moment
moment_value k text = do
  year ← year_at (layout k).year text
  month ← field_at (layout k).month 1 12 year.1
  day ← field_at (layout k).day 1 31 month.1
  hour ← field_at (layout k).hour 0 24 day.1
  minute ← field_at (layout k).minute 0 59 hour.1
  second ← field_at (layout k).second 0 60 minute.1
  fraction ← fraction_at (layout k).second second.1
  zone ← zone_of fraction.1
  Some (record { kind = k; year = year.0; month = month.0; day = day.0; hour = hour.0; minute = minute.0; second = second.0; fraction = fraction.0; zone = zone })

-- ---- dates with a time at their most frequent
-- the marks of `YYYY-MM-DDThh:mm:ssZ`, at their places
pub record HasMarks (text : List ℕ) : Type 0 where
  pub month : slice_index text 4 ≡ hyphen
  pub day : slice_index text 7 ≡ hyphen
  pub hour : slice_index text 10 ≡ letter_t
  pub minute : slice_index text 13 ≡ colon
  pub second : slice_index text 16 ≡ colon
  pub zone : slice_index text 19 ≡ letter_z

-- the date with a time, of whole seconds and UTC, that has these fields
abbrev pub date_time : ℤ → ℕ → ℕ → ℕ → ℕ → ℕ → Moment
date_time year month day hour minute second = record { kind = form.DateTime; year = year; month = month; day = day; hour = hour; minute = minute; second = second; fraction = None; zone = Some (pos 0) }
