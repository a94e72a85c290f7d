-- How a date or a time is read: item by item, or the fault at the first bit of the item that shows it (EXI 1.0, section 7.1.8).
use Rattle.std.specs.Prelude.{Option, Some, None, option_map, Result, Ok, ℕ, ◌+◌, ◌-◌, ◌*◌, ◌/◌, ◌%◌, ◌^◌, ◌==◌, ◌&&◌, nat_lt, nat_le, if◌then◌else◌, Bool, true, false, ℤ, pos, negsuc, ◌+ℤ◌, neg_ℤ}
use Rattle.exi_bits.specs.declared.align.Align.{Align}
use Rattle.exi_bits.specs.declared.fault.Fault.{Fault}
use Rattle.exi_bits.specs.declared.fault.Kind.TheVariants as fault
use Rattle.exi_bits.specs.Bits.{Spot}
use Rattle.exi_bits.specs.Repeat.{Reader}
use Rattle.exi_bits.specs.Unsigned.{◌>>=◌, fault_at, field_at, below_at, unsigned_at}
use Rattle.exi_names.specs.declared.moment.Moment.{Moment}
use Rattle.exi_names.specs.declared.moment.MomentKind.{MomentKind}
use Rattle.exi_names.specs.Moments.{fields, has_month_day, is_month_day, is_time, is_year}

-- ---- fields from numbers: nothing where one is out of its range
-- the integer with this sign and this magnitude, of which a negative number has one less
abbrev pub signed : Bool → ℕ → ℤ
signed false size = pos size
signed true size = negsuc size

unfoldable pub year_of : Bool → ℕ → Option ℤ
year_of minus size = if is_year (signed minus size +ℤ pos 2000) then Some (signed minus size +ℤ pos 2000) else None

unfoldable pub month_day_of : MomentKind → ℕ → Option (ℕ × ℕ)
month_day_of k n = if is_month_day k (n / 32) (n % 32) then Some (n / 32, n % 32) else None

unfoldable pub time_of : ℕ → Option (ℕ × ℕ × ℕ)
time_of n = if is_time true (n / 4096) (n / 64 % 64) (n % 64) then Some (n / 4096, n / 64 % 64, n % 64) else None

-- how many minutes the hours and minutes are that stand side by side: at most 14 hours
unfoldable pub minutes_of : ℕ → Option ℕ
minutes_of n = if nat_lt (n % 64) 60 && nat_le (n / 64 * 60 + n % 64) (14 * 60) then Some (n / 64 * 60 + n % 64) else None

-- 896 is UTC; west of it hours and minutes are both negative
unfoldable pub zone_of : ℕ → Option ℤ
zone_of n = if nat_lt n 896 then option_map (λ m. neg_ℤ (pos m)) (minutes_of (896 - n)) else option_map pos (minutes_of (n - 896))

-- ---- items
-- what a number at the first spot gives, with the spot behind it, or BadMoment at the number
abbrev pub in_range : {X : Type 0} → Spot → Spot → Option X → Result (X × Spot) Fault
in_range at behind None = fault_at fault.BadMoment at
in_range at behind (Some x) = Ok (x, behind)

-- what is read where it counts, and else what stands for it
abbrev pub where_it_counts : {X : Type 0} → Bool → X → Reader X → Reader X
where_it_counts true none read = read
where_it_counts false none read = λ s. Ok (none, s)

-- an Integer with the year's distance from 2000: its own faults come first
unfoldable pub year_at : Align → Spot → Result (ℤ × Spot) Fault
year_at a s = do
  sign ← below_at 2 a fault.BadPlace s
  size ← unsigned_at sign.1
  if nat_lt size.0 (2 ^ 127) then in_range sign.1 size.1 (year_of (sign.0 == 1) size.0) else fault_at fault.TooWide sign.1

unfoldable pub month_day_at : MomentKind → Align → Spot → Result ((ℕ × ℕ) × Spot) Fault
month_day_at k a s = do
  found ← field_at 9 a s
  in_range s found.1 (month_day_of k found.0)

unfoldable pub time_at : Align → Spot → Result ((ℕ × ℕ × ℕ) × Spot) Fault
time_at a s = do
  found ← field_at 17 a s
  in_range s found.1 (time_of found.0)

abbrev pub optional : {X : Type 0} → ℕ × Spot → Reader X → Result (Option X × Spot) Fault
optional told read = if told.0 == 0 then Ok (None, told.1) else (read told.1 >>= λ x. Ok (Some x.0, x.1))

-- the digits in reverse
unfoldable pub fraction_at : Align → Spot → Result (Option ℕ × Spot) Fault
fraction_at a s = do
  told ← below_at 2 a fault.BadPlace s
  optional told unsigned_at

unfoldable pub offset_at : Align → Spot → Result (ℤ × Spot) Fault
offset_at a s = do
  found ← field_at 11 a s
  in_range s found.1 (zone_of found.0)

unfoldable pub zone_at : Align → Spot → Result (Option ℤ × Spot) Fault
zone_at a s = do
  told ← below_at 2 a fault.BadPlace s
  optional told (offset_at a)

-- ---- the moment
unfoldable pub moment_at : MomentKind → Align → Spot → Result (Moment × Spot) Fault
moment_at k a s = do
  year ← where_it_counts (fields k).year (pos 0) (year_at a) s
  date ← where_it_counts (has_month_day k) (0, 0) (month_day_at k a) year.1
  time ← where_it_counts (fields k).time (0, 0, 0) (time_at a) date.1
  fraction ← where_it_counts (fields k).time None (fraction_at a) time.1
  zone ← zone_at a fraction.1
  Ok (record { kind = k; year = year.0; month = date.0.0; day = date.0.1; hour = time.0.0; minute = time.0.1; second = time.0.2; fraction = fraction.0; zone = zone.0 }, zone.1)
