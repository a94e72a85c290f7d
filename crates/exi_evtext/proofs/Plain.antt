-- No canonical text but that of a string has a quote or a line feed.
use Rattle.std.proofs.Common.{◌≡◌, ℕ, ℤ, pos, negsuc, zero, suc, ◌+◌, ◌*◌, ◌/◌, ◌%◌, ◌^◌, ◌<◌, ◌≤◌, Bool, true, false, ◌&&◌, leb, eqb, List, [], ◌∷◌, ◌++◌, Option, Some, None, refl, inl, inr, arith}
use Rattle.std.specs.Prelude.{decimal, not, slice_index, unsigned_abs, IfSome}
use Rattle.std.specs.Fmt.{signed_decimal}
use Rattle.std.proofs.lemmas.Bool.{and_from, and_parts, cases_Bool, leb-true, ltb-true, ne_eqb, or_from}
use Rattle.exi_names.specs.Wholes.{Number}
use Rattle.exi_names.specs.declared.moment.Moment.{Moment}
use Rattle.exi_names.specs.declared.moment.MomentKind.{MomentKind}
use Rattle.exi_names.specs.declared.moment.MomentKind.TheVariants as form
use Rattle.exi_digits.specs.Digits.{all_digits, fraction_of, is_digit, padded}
use Rattle.exi_digits.specs.Splits.{is_either, is_mark}
use Rattle.exi_digits.proofs.Decimals.{all_digits-decimal, all_digits-fraction_of, all_digits-padded}
use Rattle.exi_digits.proofs.Splitting.{digits_pass_none, none_passes, none_passes-append}
use Rattle.exi_numerals.specs.declared.decimal.Decimal.{Decimal}
use Rattle.exi_numerals.specs.Integers.{integer_text, sign_text}
use Rattle.exi_numerals.specs.Decimals.{decimal_text}
use Rattle.exi_names.specs.Forms.{is_mantissa}
use Rattle.exi_numerals.specs.Floats.{special_text}
use Rattle.exi_calendar.specs.Parts.{IsFraction, IsIn, IsInRanges, IsYear, layout}
use Rattle.exi_calendar.specs.Forms.{date_text, field_text, fraction_text, moment_text, offset_text, time_text, year_text, zone_text}
use Rattle.exi_lexical.specs.Binaries.{base64_sign, base64_text, hex_sign, hex_text}
use Rattle.exi_lexical.proofs.Tables.{all_below, at_below}

-- neither a quote nor a line feed
abbrev pub clean : List ℕ → Bool
clean t = none_passes (is_either 34 10) t

pub clean_append : (a b : List ℕ) → clean a ≡ true → clean b ≡ true → clean (a ++ b) ≡ true
clean_append a b p q = none_passes-append (is_either 34 10) a b p q

-- what passes neither test passes one of them
quoteless_step : (c : ℕ) → not (is_either 34 10 c) ≡ true → not (is_mark 34 c) ≡ true
quoteless_step c h =
    elim (cases_Bool (eqb c 34)) [
      | inl q ↦ let k : not (is_either 34 10 c) ≡ false = rw q refl in absurd (cc)
      | inr q ↦ rw q refl
    ]

feedless_step : (c : ℕ) → not (is_either 34 10 c) ≡ true → not (is_mark 10 c) ≡ true
feedless_step c h =
    elim (cases_Bool (eqb c 34)) [
      | inl q ↦ let k : not (is_either 34 10 c) ≡ false = rw q refl in absurd (cc)
      | inr q ↦ rw q at h
    ]

pub quoteless : (t : List ℕ) → clean t ≡ true → none_passes (is_mark 34) t ≡ true
quoteless [] h = refl
quoteless (c ∷ t) h =
    let p = and_parts (not (is_either 34 10 c)) (clean t) h in
    and_from (not (is_mark 34 c)) (none_passes (is_mark 34) t) (quoteless_step c p.0) (quoteless t p.1)

pub feedless : (t : List ℕ) → clean t ≡ true → none_passes (is_mark 10) t ≡ true
feedless [] h = refl
feedless (c ∷ t) h =
    let p = and_parts (not (is_either 34 10 c)) (clean t) h in
    and_from (not (is_mark 10 c)) (none_passes (is_mark 10) t) (feedless_step c p.0) (feedless t p.1)

-- ---- digits
clean_digit : (c : ℕ) → is_digit c ≡ true → is_either 34 10 c ≡ false
clean_digit c d =
    let p = and_parts (leb 48 c) (leb c 57) d in
    let low : 48 ≤ c = leb-true 48 c p.0 in
    or_from (eqb c 34) (eqb c 10) (ne_eqb c 34 (λ e. omega (arith, e))) (ne_eqb c 10 (λ e. omega (arith, e)))

pub clean_digits : (ds : List ℕ) → all_digits ds ≡ true → clean ds ≡ true
clean_digits ds all = digits_pass_none (is_either 34 10) ds clean_digit all

pub clean_decimal : (n : ℕ) → n < 2 ^ 128 → clean (decimal n) ≡ true
clean_decimal n lt = clean_digits (decimal n) (all_digits-decimal n lt)

clean_padded : (w n : ℕ) → n < 2 ^ 128 → clean (padded w n) ≡ true
clean_padded w n lt = clean_digits (padded w n) (all_digits-padded w n lt)

-- ---- numbers
clean_sign : (minus : Bool) → clean (sign_text minus) ≡ true
clean_sign true = refl
clean_sign false = refl

pub clean_integer : (n : Number) → n.size < 2 ^ 128 → clean (integer_text n) ≡ true
clean_integer n lt = clean_append (sign_text n.minus) (decimal n.size) (clean_sign n.minus) (clean_decimal n.size lt)

pub clean_decimals : (d : Decimal) → d.whole < 2 ^ 128 → d.back < 2 ^ 128 → clean (decimal_text d) ≡ true
clean_decimals d w b =
    clean_append (sign_text d.minus ++ decimal d.whole) (46 ∷ fraction_of d.back)
    (clean_append (sign_text d.minus) (decimal d.whole) (clean_sign d.minus) (clean_decimal d.whole w))
    (clean_digits (fraction_of d.back) (all_digits-fraction_of d.back b))

pub clean_signed : (z : ℤ) → is_mantissa z ≡ true → clean (signed_decimal z) ≡ true
clean_signed (pos n) h = let l : n < 2 ^ 63 = ltb-true n (2 ^ 63) h in clean_decimal n (omega arith)
clean_signed (negsuc n) h = let l : n < 2 ^ 63 = ltb-true n (2 ^ 63) h in clean_decimal (suc n) (omega arith)

pub clean_special : (m : ℤ) → clean (special_text m) ≡ true
clean_special (pos n) = elim (cases_Bool (eqb n 1)) [ inl h ↦ rw h refl | inr h ↦ rw h refl ]
clean_special (negsuc n) = elim (cases_Bool (eqb n 0)) [ inl h ↦ rw h refl | inr h ↦ rw h refl ]

-- ---- octets
hex_clean : (n : ℕ) → n < 16 → not (is_either 34 10 (hex_sign n)) ≡ true
unfolding all_below
hex_clean n lt = at_below (λ k. not (is_either 34 10 (hex_sign k))) 16 n refl lt

base64_clean : (n : ℕ) → n < 64 → not (is_either 34 10 (base64_sign n)) ≡ true
unfolding all_below
base64_clean n lt = at_below (λ k. not (is_either 34 10 (base64_sign k))) 64 n refl lt

pub clean_hex : (os : List ℕ) → ((i : ℕ) → slice_index os i < 256) → clean (hex_text os) ≡ true
unfolding hex_text
clean_hex [] fits = refl
clean_hex (o ∷ os) fits =
    let lt : o < 256 = fits 0 in
    rw (hex_clean (o / 16) (omega arith), hex_clean (o % 16) (omega arith), clean_hex os (λ i. fits (suc i))) refl

pub clean_base64 : (os : List ℕ) → ((i : ℕ) → slice_index os i < 256) → clean (base64_text os) ≡ true
unfolding base64_text
clean_base64 [] fits = refl
clean_base64 (a ∷ []) fits =
    let la : a < 256 = fits 0 in
    rw (base64_clean (a / 4) (omega arith), base64_clean (a % 4 * 16) (omega arith)) refl
clean_base64 (a ∷ b ∷ []) fits =
    let la : a < 256 = fits 0 in
    let lb : b < 256 = fits 1 in
    rw (base64_clean (a / 4) (omega arith), base64_clean (a % 4 * 16 + b / 16) (omega arith), base64_clean (b % 16 * 4) (omega arith)) refl
clean_base64 (a ∷ b ∷ c ∷ os) fits =
    let la : a < 256 = fits 0 in
    let lb : b < 256 = fits 1 in
    let lc : c < 256 = fits 2 in
    rw (
      base64_clean (a / 4) (omega arith),
      base64_clean (a % 4 * 16 + b / 16) (omega arith),
      base64_clean (b % 16 * 4 + c / 64) (omega arith),
      base64_clean (c % 64) (omega arith),
      clean_base64 os (λ i. fits (suc (suc (suc i)))),
    ) refl

-- ---- dates and times
abbrev clean_marks : Option (List ℕ) → Bool
clean_marks None = true
clean_marks (Some marks) = clean marks

layout_clean : (k : MomentKind) → (clean_marks (layout k).month && clean_marks (layout k).day && clean_marks (layout k).hour && clean_marks (layout k).minute && clean_marks (layout k).second) ≡ true
layout_clean form.GYear = refl
layout_clean form.GYearMonth = refl
layout_clean form.Date = refl
layout_clean form.DateTime = refl
layout_clean form.GMonth = refl
layout_clean form.GMonthDay = refl
layout_clean form.GDay = refl
layout_clean form.Time = refl

clean_year : (b : Bool) (y : ℤ) → IsYear b y → clean (year_text b y) ≡ true
clean_year true (pos n) h = let l : n < 2 ^ 63 = h in clean_padded 4 n (omega arith)
clean_year true (negsuc n) h = let l : n < 2 ^ 63 = h in clean_padded 4 (suc n) (omega arith)
clean_year false y h = refl

clean_field : (marks : Option (List ℕ)) (least most n : ℕ) → clean_marks marks ≡ true → IsIn marks least most n → most < 100 → clean (field_text marks n) ≡ true
clean_field None least most n h range lt = refl
clean_field (Some marks) least most n h range lt = let l : n ≤ most = range.1 in clean_append marks (padded 2 n) h (clean_padded 2 n (omega arith))

clean_fraction : (marks : Option (List ℕ)) (f : Option ℕ) → IsFraction marks f → clean (fraction_text f) ≡ true
clean_fraction marks None h = refl
clean_fraction None (Some back) h = absurd cc
clean_fraction (Some marks) (Some back) h = clean_digits (fraction_of back) (all_digits-fraction_of back h)

clean_offset : (n : ℕ) → n ≤ 840 → clean (offset_text n) ≡ true
clean_offset n le = clean_append (padded 2 (n / 60)) (58 ∷ padded 2 (n % 60)) (clean_padded 2 (n / 60) (omega arith)) (clean_padded 2 (n % 60) (omega arith))

clean_zone : (z : Option ℤ) → IfSome z (λ y. unsigned_abs y ≤ 14 * 60) → clean (zone_text z) ≡ true
clean_zone None h = refl
clean_zone (Some (pos zero)) h = refl
clean_zone (Some (pos (suc n))) h = let l : suc n ≤ 840 = h in clean_offset (suc n) l
clean_zone (Some (negsuc n)) h = let l : suc n ≤ 840 = h in clean_offset (suc n) l

pub clean_moment : (m : Moment) → IsInRanges m → clean (moment_text m) ≡ true
unfolding moment_text
clean_moment m ranges =
    let k = layout m.kind in
    let a = and_parts (clean_marks k.month && clean_marks k.day && clean_marks k.hour && clean_marks k.minute) (clean_marks k.second) (layout_clean m.kind) in
    let b = and_parts (clean_marks k.month && clean_marks k.day && clean_marks k.hour) (clean_marks k.minute) a.0 in
    let c = and_parts (clean_marks k.month && clean_marks k.day) (clean_marks k.hour) b.0 in
    let d = and_parts (clean_marks k.month) (clean_marks k.day) c.0 in
    let small : 31 < 100 = omega arith in
    let date = clean_append (year_text k.year m.year ++ field_text k.month m.month) (field_text k.day m.day)
    (clean_append (year_text k.year m.year) (field_text k.month m.month) (clean_year k.year m.year ranges.year) (clean_field k.month 1 12 m.month d.0 ranges.month (omega arith)))
    (clean_field k.day 1 31 m.day d.1 ranges.day (omega arith)) in
    let time = clean_append (field_text k.hour m.hour ++ field_text k.minute m.minute) (field_text k.second m.second)
    (clean_append (field_text k.hour m.hour) (field_text k.minute m.minute) (clean_field k.hour 0 24 m.hour c.1 ranges.hour (omega arith)) (clean_field k.minute 0 59 m.minute b.1 ranges.minute (omega arith)))
    (clean_field k.second 0 60 m.second a.1 ranges.second (omega arith)) in
    clean_append (date_text m ++ time_text m ++ fraction_text m.fraction) (zone_text m.zone)
    (clean_append (date_text m ++ time_text m) (fraction_text m.fraction) (clean_append (date_text m) (time_text m) date time) (clean_fraction k.second m.fraction ranges.fraction))
    (clean_zone m.zone ranges.zone)
