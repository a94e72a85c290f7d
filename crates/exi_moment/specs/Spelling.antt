-- The bits of a date or a time (EXI 1.0, section 7.1.8): year, month and day, time, fraction, zone, as far as the kind has them.
use Rattle.std.specs.Prelude.{◌≡◌, Option, Some, None, ℕ, suc, ◌+◌, ◌-◌, ◌*◌, ◌/◌, ◌%◌, Bool, true, false, List, [], ◌++◌, ℤ, pos, negsuc, ◌-ℤ◌}
use Rattle.exi_bits.specs.declared.align.Align.{Align}
use Rattle.exi_bits.specs.Bits.{bits, number}
use Rattle.exi_bits.specs.Unsigned.{shortest}
use Rattle.exi_items.specs.Spellings.{SpellsUnsigned, Then}
use Rattle.exi_names.specs.declared.moment.Moment.{Moment}
use Rattle.exi_names.specs.Moments.{fields, has_month_day}

-- ---- the numbers
-- hours and minutes side by side
abbrev pub hours_minutes : ℕ → ℕ
hours_minutes minutes = minutes / 60 * 64 + minutes % 60

-- 896 is UTC; west of it hours and minutes are both negative
abbrev pub zone_number : ℤ → ℕ
zone_number (pos n) = 896 + hours_minutes n
zone_number (negsuc n) = 896 - hours_minutes (suc n)

abbrev pub month_day_number : Moment → ℕ
month_day_number m = m.month * 32 + m.day

abbrev pub time_number : Moment → ℕ
time_number m = (m.hour * 64 + m.minute) * 64 + m.second

-- the year counts from 2000
abbrev pub year_offset : Moment → ℤ
year_offset m = m.year -ℤ pos 2000

-- ---- all spellings: an Unsigned Integer may have more octets than it needs
-- nothing where it does not count
abbrev pub Where : Bool → (List Bool → Type 0) → List Bool → Type 0
Where true P text = P text
Where false P text = text ≡ []

abbrev pub SpellsNumber : Align → ℕ → ℕ → List Bool → Type 0
SpellsNumber a n v text = text ≡ number n a v

-- the sign, and the magnitude, of which a negative number has one less
abbrev pub SpellsInteger : Align → ℤ → List Bool → Type 0
SpellsInteger a (pos n) = Then (SpellsNumber a 1 0) (SpellsUnsigned n)
SpellsInteger a (negsuc n) = Then (SpellsNumber a 1 1) (SpellsUnsigned n)

-- whether there is one, and it
abbrev pub SpellsOptional : {X : Type 0} → Align → (X → List Bool → Type 0) → Option X → List Bool → Type 0
SpellsOptional a P None = SpellsNumber a 1 0
SpellsOptional a P (Some x) = Then (SpellsNumber a 1 1) (P x)

-- the number of its digits in reverse
abbrev pub SpellsFraction : Align → Option ℕ → List Bool → Type 0
SpellsFraction a fraction = SpellsOptional a SpellsUnsigned fraction

abbrev pub SpellsZone : Align → Option ℤ → List Bool → Type 0
SpellsZone a zone = SpellsOptional a (λ z. SpellsNumber a 11 (zone_number z)) zone

abbrev pub Spells : Align → Moment → List Bool → Type 0
Spells a m =
    Then (Where (fields m.kind).year (SpellsInteger a (year_offset m)))
    (Then (Where (has_month_day m.kind) (SpellsNumber a 9 (month_day_number m)))
    (Then (Where (fields m.kind).time (SpellsNumber a 17 (time_number m)))
    (Then (Where (fields m.kind).time (SpellsFraction a m.fraction))
    (SpellsZone a m.zone))))

-- ---- the spelling that is written, with the shortest Unsigned Integers
abbrev pub text_where : Bool → List Bool → List Bool
text_where true text = text
text_where false text = []

abbrev pub integer_text : Align → ℤ → List Bool
integer_text a (pos n) = number 1 a 0 ++ bits (shortest n)
integer_text a (negsuc n) = number 1 a 1 ++ bits (shortest n)

abbrev pub fraction_text : Align → Option ℕ → List Bool
fraction_text a None = number 1 a 0
fraction_text a (Some digits) = number 1 a 1 ++ bits (shortest digits)

abbrev pub zone_text : Align → Option ℤ → List Bool
zone_text a None = number 1 a 0
zone_text a (Some zone) = number 1 a 1 ++ number 11 a (zone_number zone)

abbrev pub year_text : Align → Moment → List Bool
year_text a m = text_where (fields m.kind).year (integer_text a (year_offset m))

abbrev pub month_day_text : Align → Moment → List Bool
month_day_text a m = text_where (has_month_day m.kind) (number 9 a (month_day_number m))

abbrev pub time_text : Align → Moment → List Bool
time_text a m = text_where (fields m.kind).time (number 17 a (time_number m) ++ fraction_text a m.fraction)

unfoldable pub spelling : Align → Moment → List Bool
spelling a m = year_text a m ++ month_day_text a m ++ time_text a m ++ zone_text a m.zone
