-- Which fields each kind of date or time has, and the ranges of the fields (EXI 1.0, section 7.1.8).
use Rattle.std.specs.Prelude.{◌≡◌, IsTrue, IfSome, None, ℕ, ◌≤◌, ◌^◌, ◌*◌, ◌==◌, ◌&&◌, ◌||◌, nat_le, nat_lt, Bool, true, false, ℤ, pos, negsuc, unsigned_abs}
use Rattle.exi_names.specs.declared.moment.Moment.{Moment}
use Rattle.exi_names.specs.declared.moment.MomentKind.{MomentKind}
use Rattle.exi_names.specs.declared.moment.MomentKind.TheVariants as form

-- which of its fields count; hour, minute, second and fraction count together
pub record Fields : Type 0 where
  pub year : Bool
  pub month : Bool
  pub day : Bool
  pub time : Bool

abbrev pub fields : MomentKind → Fields
fields form.GYear = record { year = true; month = false; day = false; time = false }
fields form.GYearMonth = record { year = true; month = true; day = false; time = false }
fields form.Date = record { year = true; month = true; day = true; time = false }
fields form.DateTime = record { year = true; month = true; day = true; time = true }
fields form.GMonth = record { year = false; month = true; day = false; time = false }
fields form.GMonthDay = record { year = false; month = true; day = true; time = false }
fields form.GDay = record { year = false; month = false; day = true; time = false }
fields form.Time = record { year = false; month = false; day = false; time = true }

-- whether month and day are spelled: where one of them counts
abbrev pub has_month_day : MomentKind → Bool
has_month_day k = (fields k).month || (fields k).day

-- a field that counts is in its range, and one that does not is 0
abbrev pub is_in : Bool → ℕ → ℕ → ℕ → Bool
is_in true least most field = nat_le least field && nat_le field most
is_in false least most field = field == 0

abbrev pub is_month_day : MomentKind → ℕ → ℕ → Bool
is_month_day k month day = is_in (fields k).month 1 12 month && is_in (fields k).day 1 31 day

-- any minute of the hour 24 and the leap second 60 are in range
abbrev pub is_time : Bool → ℕ → ℕ → ℕ → Bool
is_time counts hour minute second = is_in counts 0 24 hour && is_in counts 0 59 minute && is_in counts 0 60 second

-- a year fits 64 bits with a sign
abbrev pub is_year : ℤ → Bool
is_year (pos n) = nat_lt n (2 ^ 63)
is_year (negsuc n) = nat_lt n (2 ^ 63)

-- the fields are in their ranges, and those that do not count are 0 or absent
pub record IsMoment (m : Moment) : Type 0 where
  pub year : (fields m.kind).year ≡ false → m.year ≡ pos 0
  pub month_day : IsTrue (is_month_day m.kind m.month m.day)
  pub time : IsTrue (is_time (fields m.kind).time m.hour m.minute m.second)
  pub fraction : (fields m.kind).time ≡ false → m.fraction ≡ None
  -- at most 14 hours east or west
  pub zone : IfSome m.zone (λ z. unsigned_abs z ≤ 14 * 60)
