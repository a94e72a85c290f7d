-- The fields of dates and times, the characters in front of each, and their ranges (XML Schema 1.0 Part 2,
-- sections 3.2.7 to 3.2.14). A text is the list of its code points.
use Rattle.std.specs.Prelude.{◌≡◌, IfSome, ℕ, ◌<◌, ◌≤◌, ◌^◌, ◌*◌, Bool, true, false, List, [], ◌∷◌, Option, Some, None, ℤ, pos, negsuc, unsigned_abs}
use Rattle.exi_names.specs.declared.moment.Moment.{Moment}
use Rattle.exi_names.specs.declared.moment.MomentKind.{MomentKind}
use Rattle.exi_names.specs.declared.moment.MomentKind.TheVariants as form

-- ---- characters
abbrev pub plus : ℕ
plus = 43

abbrev pub hyphen : ℕ
hyphen = 45

abbrev pub point : ℕ
point = 46

abbrev pub colon : ℕ
colon = 58

abbrev pub letter_t : ℕ
letter_t = 84

abbrev pub letter_z : ℕ
letter_z = 90

-- ---- fields
-- whether a form has a year, and the marks that stand in front of each other field that it has
pub record Layout : Type 0 where
  pub year : Bool
  pub month : Option (List ℕ)
  pub day : Option (List ℕ)
  pub hour : Option (List ℕ)
  pub minute : Option (List ℕ)
  pub second : Option (List ℕ)

abbrev pub no_mark : Option (List ℕ)
no_mark = Some []

abbrev pub one_mark : ℕ → Option (List ℕ)
one_mark mark = Some (mark ∷ [])

abbrev pub layout : MomentKind → Layout
-- YYYY
layout form.GYear = record { year = true; month = None; day = None; hour = None; minute = None; second = None }
-- YYYY-MM
layout form.GYearMonth = record { year = true; month = one_mark hyphen; day = None; hour = None; minute = None; second = None }
-- YYYY-MM-DD
layout form.Date = record { year = true; month = one_mark hyphen; day = one_mark hyphen; hour = None; minute = None; second = None }
-- YYYY-MM-DDThh:mm:ss
layout form.DateTime = record { year = true; month = one_mark hyphen; day = one_mark hyphen; hour = one_mark letter_t; minute = one_mark colon; second = one_mark colon }
-- --MM
layout form.GMonth = record { year = false; month = Some (hyphen ∷ hyphen ∷ []); day = None; hour = None; minute = None; second = None }
-- --MM-DD
layout form.GMonthDay = record { year = false; month = Some (hyphen ∷ hyphen ∷ []); day = one_mark hyphen; hour = None; minute = None; second = None }
-- ---DD
layout form.GDay = record { year = false; month = None; day = Some (hyphen ∷ hyphen ∷ hyphen ∷ []); hour = None; minute = None; second = None }
-- hh:mm:ss
layout form.Time = record { year = false; month = None; day = None; hour = no_mark; minute = one_mark colon; second = one_mark colon }

-- ---- ranges (our own where they are wider than XML Schema's: day 31 of any month, any minute of hour 24, the
-- leap second, the year 0)
-- a field that the kind has is in its range, and one that it does not have is 0
abbrev pub IsIn : Option (List ℕ) → ℕ → ℕ → ℕ → Type 0
IsIn (Some marks) least most field = (least ≤ field) × (field ≤ most)
IsIn None least most field = field ≡ 0

-- a year fits 64 bits with a sign
abbrev pub IsYear : Bool → ℤ → Type 0
IsYear true (pos n) = n < 2 ^ 63
IsYear true (negsuc n) = n < 2 ^ 63
IsYear false year = year ≡ pos 0

-- the digits of a fraction, read backwards, are a number below 2 ^ 128
abbrev pub IsFraction : Option (List ℕ) → Option ℕ → Type 0
IsFraction (Some marks) fraction = IfSome fraction (λ back. back < 2 ^ 128)
IsFraction None fraction = fraction ≡ None

pub record IsInRanges (m : Moment) : Type 0 where
  pub year : IsYear (layout m.kind).year m.year
  pub month : IsIn (layout m.kind).month 1 12 m.month
  pub day : IsIn (layout m.kind).day 1 31 m.day
  pub hour : IsIn (layout m.kind).hour 0 24 m.hour
  pub minute : IsIn (layout m.kind).minute 0 59 m.minute
  pub second : IsIn (layout m.kind).second 0 60 m.second
  -- only behind seconds
  pub fraction : IsFraction (layout m.kind).second m.fraction
  -- at most 14 hours east or west
  pub zone : IfSome m.zone (λ z. unsigned_abs z ≤ 14 * 60)
