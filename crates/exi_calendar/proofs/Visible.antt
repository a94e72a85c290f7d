-- Texts without white space and within ASCII.
use Rattle.std.proofs.Common.{◌≡◌, ℕ, zero, suc, ◌*◌, ◌/◌, ◌%◌, ◌^◌, ◌<◌, ◌≤◌, Bool, true, false, ◌&&◌, ltb, List, [], ◌∷◌, ◌++◌, Option, Some, None, refl, arith}
use Rattle.std.proofs.lemmas.Bool.{and_from, and_parts, lt-ltb}
use Rattle.std.specs.Prelude.{ℤ, pos, negsuc, unsigned_abs, IfSome}
use Rattle.exi_digits.specs.Digits.{all_digits, fraction_of, is_digit, padded}
use Rattle.exi_digits.proofs.Decimals.{all_digits-fraction_of, all_digits-padded}
use Rattle.exi_names.specs.declared.moment.Moment.{Moment}
use Rattle.exi_names.specs.declared.moment.MomentKind.{MomentKind}
use Rattle.exi_names.specs.declared.moment.MomentKind.TheVariants as form
use Rattle.exi_calendar.specs.Parts.{IsFraction, IsIn, IsInRanges, IsYear, layout}
use Rattle.exi_calendar.specs.Forms.{all_visible, date_text, field_text, fraction_text, moment_text, offset_text, time_text, year_text, zone_text}
use Rattle.exi_calendar.proofs.Fields.{digit_bounds}

pub visible_append : (a b : List ℕ) → all_visible a ≡ true → all_visible b ≡ true → all_visible (a ++ b) ≡ true
visible_append [] b va vb = vb
visible_append (c ∷ a) b va vb =
    let p = and_parts (ltb 32 c && ltb c 127) (all_visible a) va in
    and_from (ltb 32 c && ltb c 127) (all_visible (a ++ b)) p.0 (visible_append a b p.1 vb)

visible_digits : (ds : List ℕ) → all_digits ds ≡ true → all_visible ds ≡ true
visible_digits [] all = refl
visible_digits (c ∷ ds) all =
    let p = and_parts (is_digit c) (all_digits ds) all in
    let b = digit_bounds c p.0 in
    let low : 32 < c = omega arith in
    let high : c < 127 = omega arith in
    let rest = visible_digits ds p.1 in
    and_from (ltb 32 c && ltb c 127) (all_visible ds) (and_from (ltb 32 c) (ltb c 127) (lt-ltb 32 c low) (lt-ltb c 127 high)) rest

visible_padded : (w n : ℕ) → n < 2 ^ 128 → all_visible (padded w n) ≡ true
visible_padded w n low = visible_digits (padded w n) (all_digits-padded w n low)

pub visible_year : (b : Bool) (y : ℤ) → unsigned_abs y ≤ 2 ^ 63 → all_visible (year_text b y) ≡ true
visible_year true (pos n) low = visible_padded 4 n (omega arith)
visible_year true (negsuc n) low = visible_padded 4 (suc n) (omega arith)
visible_year false y low = refl

pub visible_field : (marks : Option (List ℕ)) (n : ℕ) → IfSome marks (λ m. all_visible m ≡ true) → n < 2 ^ 8 → all_visible (field_text marks n) ≡ true
visible_field None n seen low = refl
visible_field (Some marks) n seen low = visible_append marks (padded 2 n) seen (visible_padded 2 n (omega arith))

pub visible_fraction : (back : ℕ) → back < 2 ^ 128 → all_visible (fraction_text (Some back)) ≡ true
visible_fraction back low = visible_digits (fraction_of back) (all_digits-fraction_of back low)

pub visible_offset : (n : ℕ) → n < 2 ^ 16 → all_visible (offset_text n) ≡ true
visible_offset n low = visible_append (padded 2 (n / 60)) (58 ∷ padded 2 (n % 60)) (visible_padded 2 (n / 60) (omega arith)) (visible_padded 2 (n % 60) (omega arith))

-- ---- the whole canonical text of fields in their ranges
marks_visible : (k : MomentKind) → IfSome (layout k).month (λ m. all_visible m ≡ true) × IfSome (layout k).day (λ m. all_visible m ≡ true) × IfSome (layout k).hour (λ m. all_visible m ≡ true) × IfSome (layout k).minute (λ m. all_visible m ≡ true) × IfSome (layout k).second (λ m. all_visible m ≡ true)
marks_visible form.GYear = (tt, tt, tt, tt, tt)
marks_visible form.GYearMonth = (refl, tt, tt, tt, tt)
marks_visible form.Date = (refl, refl, tt, tt, tt)
marks_visible form.DateTime = (refl, refl, refl, refl, refl)
marks_visible form.GMonth = (refl, tt, tt, tt, tt)
marks_visible form.GMonthDay = (refl, refl, tt, tt, tt)
marks_visible form.GDay = (tt, refl, tt, tt, tt)
marks_visible form.Time = (tt, tt, refl, refl, refl)

field_visible : (marks : Option (List ℕ)) (least most n : ℕ) → IfSome marks (λ m. all_visible m ≡ true) → most < 2 ^ 8 → IsIn marks least most n → all_visible (field_text marks n) ≡ true
field_visible None least most n seen few range = refl
field_visible (Some marks) least most n seen few range =
    let high : n ≤ most = range.1 in
    visible_field (Some marks) n seen (omega arith)

year_visible : (b : Bool) (y : ℤ) → IsYear b y → all_visible (year_text b y) ≡ true
year_visible true (pos n) range = visible_year true (pos n) (omega arith)
year_visible true (negsuc n) range = visible_year true (negsuc n) (omega arith)
year_visible false y range = refl

fraction_visible : (marks : Option (List ℕ)) (fraction : Option ℕ) → IsFraction marks fraction → all_visible (fraction_text fraction) ≡ true
fraction_visible marks None range = refl
fraction_visible None (Some back) range = absurd cc
fraction_visible (Some marks) (Some back) range = visible_fraction back range

zone_visible : (z : Option ℤ) → IfSome z (λ y. unsigned_abs y ≤ 14 * 60) → all_visible (zone_text z) ≡ true
zone_visible None few = refl
zone_visible (Some (pos zero)) few = refl
zone_visible (Some (pos (suc n))) few = visible_offset (suc n) (omega arith)
zone_visible (Some (negsuc n)) few = visible_offset (suc n) (omega arith)

pub text_visible : (m : Moment) → IsInRanges m → all_visible (moment_text m) ≡ true
unfolding moment_text
text_visible m ranges =
    let l = layout m.kind in
    let marks = marks_visible m.kind in
    let date = visible_append (year_text l.year m.year ++ field_text l.month m.month) (field_text l.day m.day) (visible_append (year_text l.year m.year) (field_text l.month m.month) (year_visible l.year m.year ranges.year) (field_visible l.month 1 12 m.month marks.0 (omega arith) ranges.month)) (field_visible l.day 1 31 m.day marks.1 (omega arith) ranges.day) in
    let time = visible_append (field_text l.hour m.hour ++ field_text l.minute m.minute) (field_text l.second m.second) (visible_append (field_text l.hour m.hour) (field_text l.minute m.minute) (field_visible l.hour 0 24 m.hour marks.2 (omega arith) ranges.hour) (field_visible l.minute 0 59 m.minute marks.3 (omega arith) ranges.minute)) (field_visible l.second 0 60 m.second marks.4 (omega arith) ranges.second) in
    let both = visible_append (date_text m) (time_text m) date time in
    let more = visible_append (date_text m ++ time_text m) (fraction_text m.fraction) both (fraction_visible l.second m.fraction ranges.fraction) in
    visible_append (date_text m ++ time_text m ++ fraction_text m.fraction) (zone_text m.zone) more (zone_visible m.zone ranges.zone)
