-- The canonical texts of numbers, dates and times have graphic characters of ASCII alone, and one at least.
use Rattle.std.proofs.Common.{◌≡◌, ℕ, ℤ, nat_lt, zero, suc, ◌+◌, ◌-◌, ◌/◌, ◌%◌, ◌<◌, ◌≤◌, Bool, true, false, cond, ◌&&◌, ◌==◌, List, [], ◌∷◌, ◌++◌, length, Option, Some, None, refl, ap, ◌∙◌, inl, inr, lit<, arith}
use Rattle.std.specs.Prelude.{decimal, pos, negsuc, reverse, replicate}
use Rattle.std.specs.Fmt.{digits, digits_onto, signed_decimal}
use Rattle.std.proofs.lemmas.Bool.{and_parts, cases_Bool}
use Rattle.std.proofs.lemmas.Bool.Decides.{nat_tests}
use Rattle.std.proofs.lemmas.List.{length-append, reverse-append}
use Rattle.exi_names.specs.Wholes.{Number}
use Rattle.exi_names.specs.declared.moment.Moment.{Moment}
use Rattle.exi_names.specs.declared.moment.MomentKind.{MomentKind}
use Rattle.exi_names.specs.declared.moment.MomentKind.TheVariants as form
use Rattle.exi_digits.specs.Digits.{fraction_of, padded}
use Rattle.exi_numerals.specs.declared.decimal.Decimal.{Decimal}
use Rattle.exi_numerals.specs.declared.float.Float.{Float}
use Rattle.exi_numerals.specs.Integers.{integer_text, sign_text}
use Rattle.exi_numerals.specs.Decimals.{decimal_text}
use Rattle.exi_names.specs.Forms.{is_special}
use Rattle.exi_numerals.specs.Floats.{float_text, special_text}
use Rattle.exi_calendar.specs.Parts.{layout}
use Rattle.exi_calendar.specs.Forms.{date_text, field_text, fraction_text, moment_text, offset_text, time_text, year_text, zone_text}
use Rattle.exi_calendar.specs.Reading.{digits_year_at, field_at, moment_value, past, year_at, year_of}
use Rattle.exi_lexical.proofs.Graphic.{all_graphic, graphic_append, is_graphic}

-- ---- digits
digit_graphic : (d : ℕ) → d < 10 → is_graphic (48 + d) ≡ true
digit_graphic d lt = grind (arith, nat_tests)

glyph_graphic : (n : ℕ) → is_graphic (cond (nat_lt (n % 10) 10) (48 + n % 10) (87 + n % 10)) ≡ true
glyph_graphic n =
    let lt : n % 10 < 10 = omega arith in
    let small : nat_lt (n % 10) 10 ≡ true = grind (arith, nat_tests) in
    rw small (digit_graphic (n % 10) lt)

onto_graphic : (k n : ℕ) (acc : List ℕ) → all_graphic acc ≡ true → all_graphic (digits_onto k 10 false n acc) ≡ true
onto_graphic zero n acc h = h
onto_graphic (suc k) n acc h =
    let g = glyph_graphic n in
    elim (cases_Bool (n / 10 == 0)) [
      | inl last ↦ rw (last, g, h) refl
      | inr more ↦ rw more (onto_graphic k (n / 10) (cond (nat_lt (n % 10) 10) (48 + n % 10) (87 + n % 10) ∷ acc) (rw (g, h) refl))
    ]

onto_long : (k n : ℕ) (acc : List ℕ) → length acc ≤ length (digits_onto k 10 false n acc)
onto_long zero n acc = omega arith
onto_long (suc k) n acc = elim (cases_Bool (n / 10 == 0)) [
  | inl last ↦ rw last (omega arith)
  | inr more ↦ rw more (let m = onto_long k (n / 10) (cond (nat_lt (n % 10) 10) (48 + n % 10) (87 + n % 10) ∷ acc) in omega (arith, m))
]

onto_some : (k n : ℕ) → 0 < length (digits_onto (suc k) 10 false n [])
onto_some k n = elim (cases_Bool (n / 10 == 0)) [
  | inl last ↦ rw last (omega arith)
  | inr more ↦ rw more (let m = onto_long k (n / 10) (cond (nat_lt (n % 10) 10) (48 + n % 10) (87 + n % 10) ∷ []) in omega (arith, m))
]

pub graphic_decimal : (n : ℕ) → all_graphic (decimal n) ≡ true
unfolding digits
graphic_decimal n = onto_graphic 64 n [] refl

pub long_decimal : (n : ℕ) → 0 < length (decimal n)
unfolding digits
long_decimal n = onto_some 63 n

graphic_signed : (z : ℤ) → all_graphic (signed_decimal z) ≡ true
graphic_signed (pos n) = graphic_decimal n
graphic_signed (negsuc n) = graphic_decimal (suc n)

graphic_reverse : (xs : List ℕ) → all_graphic xs ≡ true → all_graphic (reverse xs) ≡ true
graphic_reverse [] h = refl
graphic_reverse (x ∷ xs) h =
    let p = and_parts (is_graphic x) (all_graphic xs) h in
    ap (λ (ys : List ℕ). all_graphic ys) (reverse-append (x ∷ []) xs) ∙ graphic_append (reverse xs) (x ∷ []) (graphic_reverse xs p.1) (rw p.0 refl)

graphic_zeros : (k : ℕ) → all_graphic (replicate k 48) ≡ true
graphic_zeros zero = refl
graphic_zeros (suc k) = graphic_zeros k

graphic_padded : (w n : ℕ) → all_graphic (padded w n) ≡ true
graphic_padded w n = graphic_append (replicate (w - length (decimal n)) 48) (decimal n) (graphic_zeros (w - length (decimal n))) (graphic_decimal n)

graphic_fraction : (n : ℕ) → all_graphic (fraction_of n) ≡ true
graphic_fraction n = graphic_reverse (decimal n) (graphic_decimal n)

-- ---- numbers
graphic_sign : (minus : Bool) → all_graphic (sign_text minus) ≡ true
graphic_sign true = refl
graphic_sign false = refl

pub graphic_integer : (n : Number) → all_graphic (integer_text n) ≡ true
graphic_integer n = graphic_append (sign_text n.minus) (decimal n.size) (graphic_sign n.minus) (graphic_decimal n.size)

pub long_integer : (n : Number) → 0 < length (integer_text n)
long_integer n = omega (arith, length-append (sign_text n.minus) (decimal n.size), long_decimal n.size)

pub graphic_decimals : (d : Decimal) → all_graphic (decimal_text d) ≡ true
graphic_decimals d =
    graphic_append (sign_text d.minus ++ decimal d.whole) (46 ∷ fraction_of d.back)
    (graphic_append (sign_text d.minus) (decimal d.whole) (graphic_sign d.minus) (graphic_decimal d.whole)) (graphic_fraction d.back)

pub long_decimals : (d : Decimal) → 0 < length (decimal_text d)
long_decimals d = omega (arith, length-append (sign_text d.minus ++ decimal d.whole) (46 ∷ fraction_of d.back))

graphic_special : (m : ℤ) → all_graphic (special_text m) ≡ true
graphic_special (pos n) = elim (cases_Bool (n == 1)) [ inl h ↦ rw h refl | inr h ↦ rw h refl ]
graphic_special (negsuc n) = elim (cases_Bool (n == 0)) [ inl h ↦ rw h refl | inr h ↦ rw h refl ]

long_special : (m : ℤ) → 0 < length (special_text m)
long_special (pos n) = elim (cases_Bool (n == 1)) [ inl h ↦ rw h (lit< tt) | inr h ↦ rw h (lit< tt) ]
long_special (negsuc n) = elim (cases_Bool (n == 0)) [ inl h ↦ rw h (lit< tt) | inr h ↦ rw h (lit< tt) ]

pub graphic_float : (f : Float) → all_graphic (float_text f) ≡ true
graphic_float f = elim (cases_Bool (is_special f.exponent)) [
  | inl h ↦ rw h (graphic_special f.mantissa)
  | inr h ↦ rw h (graphic_append (signed_decimal f.mantissa) (69 ∷ signed_decimal f.exponent) (graphic_signed f.mantissa) (graphic_signed f.exponent))
]

pub long_float : (f : Float) → 0 < length (float_text f)
long_float f = elim (cases_Bool (is_special f.exponent)) [
  | inl h ↦ rw h (long_special f.mantissa)
  | inr h ↦ rw h (omega (arith, length-append (signed_decimal f.mantissa) (69 ∷ signed_decimal f.exponent)))
]

-- ---- dates and times
abbrev graphic_marks : Option (List ℕ) → Bool
graphic_marks None = true
graphic_marks (Some marks) = all_graphic marks

layout_graphic : (k : MomentKind) → (graphic_marks (layout k).month && graphic_marks (layout k).day && graphic_marks (layout k).hour && graphic_marks (layout k).minute && graphic_marks (layout k).second) ≡ true
layout_graphic form.GYear = refl
layout_graphic form.GYearMonth = refl
layout_graphic form.Date = refl
layout_graphic form.DateTime = refl
layout_graphic form.GMonth = refl
layout_graphic form.GMonthDay = refl
layout_graphic form.GDay = refl
layout_graphic form.Time = refl

graphic_field : (marks : Option (List ℕ)) (n : ℕ) → graphic_marks marks ≡ true → all_graphic (field_text marks n) ≡ true
graphic_field None n h = refl
graphic_field (Some marks) n h = graphic_append marks (padded 2 n) h (graphic_padded 2 n)

graphic_year : (b : Bool) (y : ℤ) → all_graphic (year_text b y) ≡ true
graphic_year true (pos n) = graphic_padded 4 n
graphic_year true (negsuc n) = graphic_padded 4 (suc n)
graphic_year false y = refl

graphic_fractions : (f : Option ℕ) → all_graphic (fraction_text f) ≡ true
graphic_fractions None = refl
graphic_fractions (Some back) = graphic_fraction back

graphic_offset : (n : ℕ) → all_graphic (offset_text n) ≡ true
graphic_offset n = graphic_append (padded 2 (n / 60)) (58 ∷ padded 2 (n % 60)) (graphic_padded 2 (n / 60)) (graphic_padded 2 (n % 60))

graphic_zone : (z : Option ℤ) → all_graphic (zone_text z) ≡ true
graphic_zone None = refl
graphic_zone (Some (pos zero)) = refl
graphic_zone (Some (pos (suc n))) = graphic_offset (suc n)
graphic_zone (Some (negsuc n)) = graphic_offset (suc n)

pub graphic_moment : (m : Moment) → all_graphic (moment_text m) ≡ true
unfolding moment_text
graphic_moment m =
    let k = layout m.kind in
    let a = and_parts (graphic_marks k.month && graphic_marks k.day && graphic_marks k.hour && graphic_marks k.minute) (graphic_marks k.second) (layout_graphic m.kind) in
    let b = and_parts (graphic_marks k.month && graphic_marks k.day && graphic_marks k.hour) (graphic_marks k.minute) a.0 in
    let c = and_parts (graphic_marks k.month && graphic_marks k.day) (graphic_marks k.hour) b.0 in
    let d = and_parts (graphic_marks k.month) (graphic_marks k.day) c.0 in
    let date = graphic_append (year_text k.year m.year ++ field_text k.month m.month) (field_text k.day m.day)
    (graphic_append (year_text k.year m.year) (field_text k.month m.month) (graphic_year k.year m.year) (graphic_field k.month m.month d.0)) (graphic_field k.day m.day d.1) in
    let time = graphic_append (field_text k.hour m.hour ++ field_text k.minute m.minute) (field_text k.second m.second)
    (graphic_append (field_text k.hour m.hour) (field_text k.minute m.minute) (graphic_field k.hour m.hour c.1) (graphic_field k.minute m.minute b.1)) (graphic_field k.second m.second a.1) in
    graphic_append (date_text m ++ time_text m ++ fraction_text m.fraction) (zone_text m.zone)
    (graphic_append (date_text m ++ time_text m) (fraction_text m.fraction) (graphic_append (date_text m) (time_text m) date time) (graphic_fractions m.fraction)) (graphic_zone m.zone)

-- no date and no time has an empty text
pub no_moment : (k : MomentKind) → moment_value k [] ≡ None
unfolding moment_value year_at field_at past digits_year_at year_of
no_moment form.GYear = refl
no_moment form.GYearMonth = refl
no_moment form.Date = refl
no_moment form.DateTime = refl
no_moment form.GMonth = refl
no_moment form.GMonthDay = refl
no_moment form.GDay = refl
no_moment form.Time = refl
