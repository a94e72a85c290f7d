-- A text has a value under one kind alone: the kind is told by the text.
use Rattle.std.proofs.Common.{◌≡◌, ℕ, zero, suc, ◌+◌, ◌*◌, ◌/◌, ◌%◌, ◌<◌, ◌≤◌, Bool, true, false, cond, eqb, List, [], ◌∷◌, ◌++◌, Option, Some, None, refl, sym, ap, ◌∙◌, subst, arith}
use Rattle.std.specs.Prelude.{ℤ, pos, neg_ℤ, IfSome, option_map, unsigned_abs, if◌then◌else◌}
use Rattle.std.proofs.lemmas.Bool.{eq-eqb, ne_eqb}
use Rattle.exi_names.specs.declared.moment.Moment.{Moment}
use Rattle.exi_names.specs.declared.moment.MomentKind.{MomentKind}
use Rattle.exi_names.specs.declared.moment.MomentKind.TheVariants as form
use Rattle.exi_names.specs.Equality.{place_of_kind}
use Rattle.exi_names.proofs.Same.{kind_is}
use Rattle.exi_digits.specs.Digits.{is_digit, padded}
use Rattle.exi_digits.proofs.Decimals.{digit_of}
use Rattle.exi_digits.proofs.Pushing.{padded_two}
use Rattle.exi_calendar.specs.Laws.{CanonicalTextHasItsKind, KindIsOne}
use Rattle.exi_calendar.specs.Parts.{IsIn, colon, hyphen, layout, letter_t, no_mark, one_mark}
use Rattle.exi_calendar.specs.Forms.{SpellsZone, moment_text, offset_text}
use Rattle.exi_calendar.specs.Forms.SpellsZone.{absent, utc, east, west}
use Rattle.exi_calendar.specs.Reading.{◌>>=◌, digits_year_at, field_at, fraction_at, moment_value, past, signed_year_at, two_digits_at, two_digits_of, year_at, year_of, zone_of}
use Rattle.exi_calendar.proofs.Fields.{field_back, size_west, some, some_is, zone_back}
use Rattle.exi_calendar.proofs.Whole.{bind_then, canonical_value}

-- ---- what a text begins with
abbrev starts_with : ℕ → List ℕ → Bool
starts_with c [] = false
starts_with c (d ∷ text) = eqb d c

-- ---- the number of the kind, by what stands behind the year, or at the front where there is none
-- a colon behind two digits: they are the hours of a zone
abbrev is_zone : Option (ℕ × List ℕ) → Bool
is_zone None = true
is_zone (Some field) = starts_with colon field.1

abbrev behind_field : Option (ℕ × List ℕ) → (List ℕ → ℕ) → ℕ
behind_field None more = 0
behind_field (Some field) more = more field.1

abbrev behind_day : List ℕ → ℕ
behind_day text = if starts_with letter_t text then 3 else 2

abbrev behind_month : List ℕ → ℕ
behind_month text = if is_zone (field_at (one_mark hyphen) 1 31 text) then 1 else behind_field (field_at (one_mark hyphen) 1 31 text) behind_day

abbrev behind_year : List ℕ → ℕ
behind_year text = if is_zone (field_at (one_mark hyphen) 1 12 text) then 0 else behind_field (field_at (one_mark hyphen) 1 12 text) behind_month

abbrev behind_lone_month : List ℕ → ℕ
behind_lone_month text = if is_zone (field_at (one_mark hyphen) 1 31 text) then 4 else 5

abbrev behind_hyphens : Option (List ℕ) → ℕ
behind_hyphens None = 7
behind_hyphens (Some text) = if starts_with hyphen text then 6 else behind_field (two_digits_at 1 12 text) behind_lone_month

abbrev kind_told : Option (ℤ × List ℕ) → List ℕ → ℕ
kind_told None text = behind_hyphens (past (hyphen ∷ hyphen ∷ []) text)
kind_told (Some year) text = behind_year year.1

-- ---- zones
record ZoneFront (text : List ℕ) : Type 0 where
  no_colon : starts_with colon text ≡ false
  no_time : starts_with letter_t text ≡ false
  no_field : (least most : ℕ) → is_zone (field_at (one_mark hyphen) least most text) ≡ true

hours_are : (o : Option ℕ) (text : List ℕ) → is_zone (option_map (λ n. (n, colon ∷ text)) o) ≡ true
hours_are None text = refl
hours_are (Some n) text = refl

west_few : (n : ℕ) → unsigned_abs (neg_ℤ (pos n)) ≤ 14 * 60 → n ≤ 840
west_few n few = let size = size_west n in omega (arith, few, size)

west_is : (minutes least most : ℕ) → minutes ≤ 840 → is_zone (field_at (one_mark hyphen) least most (hyphen ∷ offset_text minutes)) ≡ true
unfolding field_at past
west_is minutes least most few =
    rw (padded_two (minutes / 60) (omega arith))
    (hours_are (two_digits_of least most (48 + minutes / 60 / 10) (48 + minutes / 60 % 10)) (padded 2 (minutes % 60)))

spelled_front : (z : Option ℤ) (text : List ℕ) → SpellsZone z text → IfSome z (λ y. unsigned_abs y ≤ 14 * 60) → ZoneFront text
unfolding field_at past
spelled_front z text absent few = record { no_colon = refl; no_time = refl; no_field = λ l m. refl }
spelled_front z text utc few = record { no_colon = refl; no_time = refl; no_field = λ l m. refl }
spelled_front z text (east n) few = record { no_colon = refl; no_time = refl; no_field = λ l m. refl }
spelled_front z text (west n) few = record { no_colon = refl; no_time = refl; no_field = λ l m. west_is n l m (west_few n few) }

zone_front : (z : Option ℤ) (text : List ℕ) → zone_of text ≡ some z → ZoneFront text
zone_front z text e = let b = zone_back z text e in spelled_front z text b.0 b.1

-- ---- fields
field_front : (mark least most : ℕ) (text : List ℕ) (field : ℕ × List ℕ) (c : ℕ) → field_at (one_mark mark) least most text ≡ some field → starts_with c text ≡ eqb mark c
field_front mark least most text field c e =
    let b = field_back (one_mark mark) least most field.0 text field.1 e in
    rw b.0 refl

no_field : (least most : ℕ) (text : List ℕ) (field : ℕ × List ℕ) → field_at None least most text ≡ some field → field.1 ≡ text
unfolding field_at
no_field least most text field e = ap (λ (p : ℕ × List ℕ). p.1) (sym (some_is (0, text) field e))

no_fraction : (text : List ℕ) (fraction : Option ℕ × List ℕ) → fraction_at None text ≡ some fraction → fraction.1 ≡ text
unfolding fraction_at
no_fraction text fraction e = ap (λ (p : Option ℕ × List ℕ). p.1) (sym (some_is (None, text) fraction e))

-- ---- the parts of a text that has a value
record Parts (k : MomentKind) (text : List ℕ) : Type 0 where
  year : ℤ × List ℕ
  month : ℕ × List ℕ
  day : ℕ × List ℕ
  hour : ℕ × List ℕ
  year_is : year_at (layout k).year text ≡ some year
  month_is : field_at (layout k).month 1 12 year.1 ≡ some month
  day_is : field_at (layout k).day 1 31 month.1 ≡ some day
  hour_is : field_at (layout k).hour 0 24 day.1 ≡ some hour
  minute : ℕ × List ℕ
  minute_is : field_at (layout k).minute 0 59 hour.1 ≡ some minute
  -- where the kind has no time of day
  zone_is : (layout k).hour ≡ None → (layout k).minute ≡ None → (layout k).second ≡ None → ZoneFront day.1

last_is : (k : MomentKind) (day hour minute second : ℕ × List ℕ) (fraction : Option ℕ × List ℕ)
    → field_at (layout k).hour 0 24 day.1 ≡ some hour → field_at (layout k).minute 0 59 hour.1 ≡ some minute → field_at (layout k).second 0 60 minute.1 ≡ some second → fraction_at (layout k).second second.1 ≡ some fraction
    → (layout k).hour ≡ None → (layout k).minute ≡ None → (layout k).second ≡ None → fraction.1 ≡ day.1
last_is k day hour minute second fraction eh emi es ef h m s =
    let f : fraction_at None second.1 ≡ some fraction = subst (λ (o : Option (List ℕ)). fraction_at o second.1 ≡ some fraction) s ef in
    let u : field_at None 0 60 minute.1 ≡ some second = subst (λ (o : Option (List ℕ)). field_at o 0 60 minute.1 ≡ some second) s es in
    let v : field_at None 0 59 hour.1 ≡ some minute = subst (λ (o : Option (List ℕ)). field_at o 0 59 hour.1 ≡ some minute) m emi in
    let w : field_at None 0 24 day.1 ≡ some hour = subst (λ (o : Option (List ℕ)). field_at o 0 24 day.1 ≡ some hour) h eh in
    no_fraction second.1 fraction f ∙ no_field 0 60 minute.1 second u ∙ no_field 0 59 hour.1 minute v ∙ no_field 0 24 day.1 hour w

parts_of : (k : MomentKind) (text : List ℕ) (m : Moment) → moment_value k text ≡ some m → Parts k text
unfolding moment_value
parts_of k text m e =
    bind_then (year_at (layout k).year text) _ m e (λ year ey e1.
    bind_then (field_at (layout k).month 1 12 year.1) _ m e1 (λ month emo e2.
    bind_then (field_at (layout k).day 1 31 month.1) _ m e2 (λ day ed e3.
    bind_then (field_at (layout k).hour 0 24 day.1) _ m e3 (λ hour eh e4.
    bind_then (field_at (layout k).minute 0 59 hour.1) _ m e4 (λ minute emi e5.
    bind_then (field_at (layout k).second 0 60 minute.1) _ m e5 (λ second es e6.
    bind_then (fraction_at (layout k).second second.1) _ m e6 (λ fraction ef e7.
    bind_then (zone_of fraction.1) _ m e7 (λ zone ez e8.
    record {
      year = year;
      month = month;
      day = day;
      hour = hour;
      year_is = ey;
      month_is = emo;
      day_is = ed;
      hour_is = eh;
      minute = minute;
      minute_is = emi;
      zone_is = λ h mi s. subst ZoneFront (last_is k day hour minute second fraction eh emi es ef h mi s) (zone_front zone fraction.1 ez);
    }))))))))

-- ---- texts without a year
no_year : (text : List ℕ) (year : ℤ × List ℕ) → year_at false text ≡ some year → year.1 ≡ text
unfolding year_at
no_year text year e = ap (λ (p : ℤ × List ℕ). p.1) (sym (some_is (pos 0, text) year e))

tens_no_hyphen : (n : ℕ) → eqb (48 + n / 10) hyphen ≡ false
tens_no_hyphen n = ne_eqb (48 + n / 10) 45 (λ e. omega (arith, e))

lone_front : (a b : ℕ) (text : List ℕ) (month : ℕ × List ℕ) → eqb a hyphen ≡ false → field_at (Some (hyphen ∷ hyphen ∷ [])) 1 12 (hyphen ∷ hyphen ∷ a ∷ b ∷ text) ≡ some month
    → kind_told (year_at true (hyphen ∷ hyphen ∷ a ∷ b ∷ text)) (hyphen ∷ hyphen ∷ a ∷ b ∷ text) ≡ behind_lone_month month.1
unfolding field_at past year_at digits_year_at year_of
lone_front a b text month no_hyphen e = rw (no_hyphen, e) refl

lone_month : (text : List ℕ) (month : ℕ × List ℕ) → field_at (Some (hyphen ∷ hyphen ∷ [])) 1 12 text ≡ some month → kind_told (year_at true text) text ≡ behind_lone_month month.1
lone_month text month e =
    let b = field_back (Some (hyphen ∷ hyphen ∷ [])) 1 12 month.0 text month.1 e in
    let high = b.1.1 in
    let parts : text ≡ hyphen ∷ hyphen ∷ (48 + month.0 / 10) ∷ (48 + month.0 % 10) ∷ month.1 = b.0 ∙ ap (λ (t : List ℕ). hyphen ∷ hyphen ∷ (t ++ month.1)) (padded_two month.0 (omega (arith, high))) in
    let f : field_at (Some (hyphen ∷ hyphen ∷ [])) 1 12 (hyphen ∷ hyphen ∷ (48 + month.0 / 10) ∷ (48 + month.0 % 10) ∷ month.1) ≡ some month = subst (λ (t : List ℕ). field_at (Some (hyphen ∷ hyphen ∷ [])) 1 12 t ≡ some month) parts e in
    ap (λ (t : List ℕ). kind_told (year_at true t) t) parts ∙ lone_front (48 + month.0 / 10) (48 + month.0 % 10) month.1 month (tens_no_hyphen month.0) f

lone_day : (text : List ℕ) → kind_told (year_at true (hyphen ∷ hyphen ∷ hyphen ∷ text)) (hyphen ∷ hyphen ∷ hyphen ∷ text) ≡ 6
unfolding past year_at digits_year_at year_of
lone_day text = refl

time_front : (a b : ℕ) (text : List ℕ) → eqb a hyphen ≡ false → is_digit a ≡ true → is_digit b ≡ true → kind_told (year_at true (a ∷ b ∷ colon ∷ text)) (a ∷ b ∷ colon ∷ text) ≡ 7
unfolding past year_at digits_year_at year_of
time_front a b text no_hyphen tens ones = rw (no_hyphen, tens, ones, no_hyphen) refl

told_month : (text : List ℕ) → Parts form.GMonth text → kind_told (year_at true text) text ≡ 4
told_month text p =
    let year = no_year text p.year p.year_is in
    let z = subst ZoneFront (no_field 1 31 p.month.1 p.day p.day_is) (p.zone_is refl refl refl) in
    lone_month text p.month (subst (λ (t : List ℕ). field_at (Some (hyphen ∷ hyphen ∷ [])) 1 12 t ≡ some p.month) year p.month_is) ∙ rw (z.no_field 1 31) refl

told_month_day : (text : List ℕ) → Parts form.GMonthDay text → kind_told (year_at true text) text ≡ 5
told_month_day text p =
    let year = no_year text p.year p.year_is in
    let z = p.zone_is refl refl refl in
    lone_month text p.month (subst (λ (t : List ℕ). field_at (Some (hyphen ∷ hyphen ∷ [])) 1 12 t ≡ some p.month) year p.month_is) ∙ rw (p.day_is, z.no_colon) refl

told_day : (text : List ℕ) → Parts form.GDay text → kind_told (year_at true text) text ≡ 6
told_day text p =
    let text_is : p.month.1 ≡ text = no_field 1 12 p.year.1 p.month p.month_is ∙ no_year text p.year p.year_is in
    let b = field_back (Some (hyphen ∷ hyphen ∷ hyphen ∷ [])) 1 31 p.day.0 p.month.1 p.day.1 p.day_is in
    ap (λ (t : List ℕ). kind_told (year_at true t) t) (sym text_is ∙ b.0) ∙ lone_day (padded 2 p.day.0 ++ p.day.1)

told_time : (text : List ℕ) → Parts form.Time text → kind_told (year_at true text) text ≡ 7
told_time text p =
    let text_is : p.day.1 ≡ text = no_field 1 31 p.month.1 p.day p.day_is ∙ no_field 1 12 p.year.1 p.month p.month_is ∙ no_year text p.year p.year_is in
    let b = field_back no_mark 0 24 p.hour.0 p.day.1 p.hour.1 p.hour_is in
    let m = field_back (one_mark colon) 0 59 p.minute.0 p.hour.1 p.minute.1 p.minute_is in
    let high = b.1.1 in
    let digits = padded_two p.hour.0 (omega (arith, high)) in
    let parts : text ≡ (48 + p.hour.0 / 10) ∷ (48 + p.hour.0 % 10) ∷ colon ∷ (padded 2 p.minute.0 ++ p.minute.1)
    = sym text_is ∙ b.0 ∙ ap (λ (t : List ℕ). t ++ p.hour.1) digits ∙ ap (λ (t : List ℕ). (48 + p.hour.0 / 10) ∷ (48 + p.hour.0 % 10) ∷ t) m.0 in
    ap (λ (t : List ℕ). kind_told (year_at true t) t) parts
    ∙ time_front (48 + p.hour.0 / 10) (48 + p.hour.0 % 10) (padded 2 p.minute.0 ++ p.minute.1) (tens_no_hyphen p.hour.0) (digit_of (p.hour.0 / 10) (omega (arith, high))) (digit_of (p.hour.0 % 10) (omega arith))

-- ---- each kind is told
told : (k : MomentKind) (text : List ℕ) → Parts k text → kind_told (year_at true text) text ≡ place_of_kind k
told form.GYear text p =
    let day = no_field 1 31 p.month.1 p.day p.day_is in
    let month = no_field 1 12 p.year.1 p.month p.month_is in
    let z = subst ZoneFront (day ∙ month) (p.zone_is refl refl refl) in
    rw (p.year_is, z.no_field 1 12) refl
told form.GYearMonth text p =
    let z = subst ZoneFront (no_field 1 31 p.month.1 p.day p.day_is) (p.zone_is refl refl refl) in
    rw (p.year_is, p.month_is, z.no_colon, z.no_field 1 31) refl
told form.Date text p =
    let z = p.zone_is refl refl refl in
    let behind = field_front hyphen 1 31 p.month.1 p.day colon p.day_is in
    rw (p.year_is, p.month_is, behind, p.day_is, z.no_colon, z.no_time) refl
told form.DateTime text p =
    let behind = field_front hyphen 1 31 p.month.1 p.day colon p.day_is in
    let time = field_front letter_t 0 24 p.day.1 p.hour letter_t p.hour_is in
    let other = field_front letter_t 0 24 p.day.1 p.hour colon p.hour_is in
    rw (p.year_is, p.month_is, behind, p.day_is, other, time) refl
told form.GMonth text p = told_month text p
told form.GMonthDay text p = told_month_day text p
told form.GDay text p = told_day text p
told form.Time text p = told_time text p

pub one_kind : KindIsOne
one_kind k j text m n e f =
    let p = parts_of k text m e in
    let q = parts_of j text n f in
    kind_is k j (eq-eqb (place_of_kind k) (place_of_kind j) (sym (told k text p) ∙ told j text q))

pub canonical_kind : CanonicalTextHasItsKind
canonical_kind k m n ranges e = one_kind k m.kind (moment_text m) n m e (canonical_value m ranges)
