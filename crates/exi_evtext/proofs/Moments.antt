-- No canonical text is that of dates or times of two kinds: its hyphens, colons and the letter T tell the kind.
use Rattle.std.proofs.Common.{◌≡◌, ℕ, ℤ, pos, negsuc, zero, suc, ◌+◌, ◌-◌, ◌*◌, ◌/◌, ◌%◌, ◌^◌, ◌<◌, ◌≤◌, Bool, true, false, ◌||◌, cond, eqb, leb, List, [], ◌∷◌, ◌++◌, length, Option, Some, None, refl, sym, ap, ◌∙◌, inl, inr, append_assoc, arith}
use Rattle.std.specs.Prelude.{IfSome, codes, option_map, unsigned_abs}
use Rattle.std.proofs.lemmas.Bool.{and_parts, cases_Bool, eq-eqb, lt-leb, le-leb, leb-true, ne_eqb, or_from}
use Rattle.exi_names.specs.declared.moment.Moment.{Moment}
use Rattle.exi_names.specs.declared.moment.MomentKind.{MomentKind}
use Rattle.exi_names.specs.declared.moment.MomentKind.TheVariants as form
use Rattle.exi_names.specs.Seen as shape
use Rattle.exi_names.specs.Seen.{Value}
use Rattle.exi_digits.specs.Digits.{all_digits, fraction_of, is_digit, padded}
use Rattle.exi_digits.proofs.Decimals.{all_digits-fraction_of, all_digits-padded, padded_any}
use Rattle.exi_calendar.specs.Parts.{IsFraction, IsIn, IsInRanges, IsYear, layout}
use Rattle.exi_calendar.specs.Forms.{date_text, field_text, fraction_text, moment_text, offset_text, time_text, year_text, zone_text}
use Rattle.exi_calendar.specs.Reading.{moment_value}
use Rattle.exi_calendar.proofs.Fields.{map_some, some}
use Rattle.exi_calendar.proofs.Whole.{canonical_value, value_back}
use Rattle.exi_lexical.specs.Values.{canonical}
use Rattle.exi_evtext.specs.Reading.{any_moment, moment_of, scalar_of}
use Rattle.exi_evtext.proofs.Scalars.{same_bytes}
use Rattle.exi_evtext.proofs.Told.{if_back}

-- ---- how many characters pass a test
abbrev count : (ℕ → Bool) → List ℕ → ℕ
count test [] = 0
count test (c ∷ cs) = cond (test c) 1 0 + count test cs

count_append : (test : ℕ → Bool) (a b : List ℕ) → count test (a ++ b) ≡ count test a + count test b
count_append test [] b = omega arith
count_append test (c ∷ a) b = omega (arith, count_append test a b)

-- digits do not
count_digits : (test : ℕ → Bool) (ds : List ℕ) → ((c : ℕ) → is_digit c ≡ true → test c ≡ false) → all_digits ds ≡ true → count test ds ≡ 0
count_digits test [] none all = refl
count_digits test (c ∷ ds) none all =
    let p = and_parts (is_digit c) (all_digits ds) all in
    rw (none c p.0, count_digits test ds none p.1) refl

-- a test that no digit passes, nor a point
abbrev IsSign : (ℕ → Bool) → Type 0
IsSign test = ((c : ℕ) → is_digit c ≡ true → test c ≡ false) × (test 46 ≡ false) × (test 90 ≡ false)

count_padded : (test : ℕ → Bool) (w n : ℕ) → IsSign test → n < 2 ^ 128 → count test (padded w n) ≡ 0
count_padded test w n sign lt = count_digits test (padded w n) sign.0 (all_digits-padded w n lt)

abbrev count_marks : (ℕ → Bool) → Option (List ℕ) → ℕ
count_marks test None = 0
count_marks test (Some marks) = count test marks

count_field : (test : ℕ → Bool) (marks : Option (List ℕ)) (least most n : ℕ) → IsSign test → IsIn marks least most n → most < 100 → count test (field_text marks n) ≡ count_marks test marks
count_field test None least most n sign range small = refl
count_field test (Some marks) least most n sign range small =
    let le : n ≤ most = range.1 in
    let none = count_padded test 2 n sign (omega arith) in
    omega (arith, count_append test marks (padded 2 n), none)

count_fraction : (test : ℕ → Bool) (marks : Option (List ℕ)) (f : Option ℕ) → IsSign test → IsFraction marks f → count test (fraction_text f) ≡ 0
count_fraction test marks None sign h = refl
count_fraction test None (Some back) sign h = absurd cc
count_fraction test (Some marks) (Some back) sign h =
    let none = count_digits test (fraction_of back) sign.0 (all_digits-fraction_of back h) in
    rw (sign.1, none) refl

count_offset : (test : ℕ → Bool) (n : ℕ) → IsSign test → n ≤ 840 → count test (offset_text n) ≡ cond (test 58) 1 0
count_offset test n sign le =
    let hours = count_padded test 2 (n / 60) sign (omega arith) in
    let minutes = count_padded test 2 (n % 60) sign (omega arith) in
    omega (arith, count_append test (padded 2 (n / 60)) (58 ∷ padded 2 (n % 60)), hours, minutes)

-- a zone that is neither absent nor UTC
abbrev is_offset : Option ℤ → ℕ
is_offset None = 0
is_offset (Some (pos zero)) = 0
is_offset (Some (pos (suc n))) = 1
is_offset (Some (negsuc n)) = 1

-- ---- the three tests
abbrev is_hyphen_or_plus : ℕ → Bool
is_hyphen_or_plus c = eqb c 45 || eqb c 43

abbrev is_colon : ℕ → Bool
is_colon c = eqb c 58

abbrev is_t : ℕ → Bool
is_t c = eqb c 84

digit_is : (c : ℕ) → is_digit c ≡ true → (48 ≤ c) × (c ≤ 57)
digit_is c d = let p = and_parts (leb 48 c) (leb c 57) d in (leb-true 48 c p.0, leb-true c 57 p.1)

hyphens_are_signs : IsSign is_hyphen_or_plus
hyphens_are_signs = (λ c d. let b = digit_is c d in or_from (eqb c 45) (eqb c 43) (ne_eqb c 45 (λ e. omega (arith, e, b.0))) (ne_eqb c 43 (λ e. omega (arith, e, b.0))), refl, refl)

colons_are_signs : IsSign is_colon
colons_are_signs = (λ c d. let b = digit_is c d in ne_eqb c 58 (λ e. omega (arith, e, b.1)), refl, refl)

ts_are_signs : IsSign is_t
ts_are_signs = (λ c d. let b = digit_is c d in ne_eqb c 84 (λ e. omega (arith, e, b.1)), refl, refl)

zone_hyphens : (z : Option ℤ) → IfSome z (λ y. unsigned_abs y ≤ 14 * 60) → count is_hyphen_or_plus (zone_text z) ≡ is_offset z
zone_hyphens None h = refl
zone_hyphens (Some (pos zero)) h = refl
zone_hyphens (Some (pos (suc n))) h = let l : suc n ≤ 840 = h in rw (count_offset is_hyphen_or_plus (suc n) hyphens_are_signs l) refl
zone_hyphens (Some (negsuc n)) h = let l : suc n ≤ 840 = h in rw (count_offset is_hyphen_or_plus (suc n) hyphens_are_signs l) refl

zone_colons : (z : Option ℤ) → IfSome z (λ y. unsigned_abs y ≤ 14 * 60) → count is_colon (zone_text z) ≡ is_offset z
zone_colons None h = refl
zone_colons (Some (pos zero)) h = refl
zone_colons (Some (pos (suc n))) h = let l : suc n ≤ 840 = h in rw (count_offset is_colon (suc n) colons_are_signs l) refl
zone_colons (Some (negsuc n)) h = let l : suc n ≤ 840 = h in rw (count_offset is_colon (suc n) colons_are_signs l) refl

zone_ts : (z : Option ℤ) → IfSome z (λ y. unsigned_abs y ≤ 14 * 60) → count is_t (zone_text z) ≡ 0
zone_ts None h = refl
zone_ts (Some (pos zero)) h = refl
zone_ts (Some (pos (suc n))) h = let l : suc n ≤ 840 = h in rw (count_offset is_t (suc n) ts_are_signs l) refl
zone_ts (Some (negsuc n)) h = let l : suc n ≤ 840 = h in rw (count_offset is_t (suc n) ts_are_signs l) refl

-- whether a year is below 0
abbrev sign_of : Bool → ℤ → ℕ
sign_of true (pos n) = 0
sign_of true (negsuc n) = 1
sign_of false y = 0

year_signs : (test : ℕ → Bool) (b : Bool) (y : ℤ) → IsSign test → IsYear b y → count test (year_text b y) ≡ cond (test 45) (sign_of b y) 0
year_signs test true (pos n) sign h = let l : n < 2 ^ 63 = h in let none = count_padded test 4 n sign (omega arith) in elim (cases_Bool (test 45)) [ inl t ↦ rw (none, t) refl | inr t ↦ rw (none, t) refl ]
year_signs test true (negsuc n) sign h = let l : n < 2 ^ 63 = h in let none = count_padded test 4 (suc n) sign (omega arith) in elim (cases_Bool (test 45)) [ inl t ↦ rw (none, t) refl | inr t ↦ rw (none, t) refl ]
year_signs test false y sign h = elim (cases_Bool (test 45)) [ inl t ↦ rw t refl | inr t ↦ rw t refl ]

-- all of them
count_moment : (test : ℕ → Bool) (m : Moment) → IsSign test → IsInRanges m → count test (moment_text m)
    ≡ cond (test 45) (sign_of (layout m.kind).year m.year) 0 + count_marks test (layout m.kind).month + count_marks test (layout m.kind).day + count_marks test (layout m.kind).hour + count_marks test (layout m.kind).minute + count_marks test (layout m.kind).second + count test (zone_text m.zone)
unfolding moment_text
count_moment test m sign r =
    let k = layout m.kind in
    let year = year_signs test k.year m.year sign r.year in
    let month = count_field test k.month 1 12 m.month sign r.month (omega arith) in
    let day = count_field test k.day 1 31 m.day sign r.day (omega arith) in
    let hour = count_field test k.hour 0 24 m.hour sign r.hour (omega arith) in
    let minute = count_field test k.minute 0 59 m.minute sign r.minute (omega arith) in
    let second = count_field test k.second 0 60 m.second sign r.second (omega arith) in
    let fraction = count_fraction test k.second m.fraction sign r.fraction in
    let d1 = count_append test (year_text k.year m.year) (field_text k.month m.month) in
    let d2 = count_append test (year_text k.year m.year ++ field_text k.month m.month) (field_text k.day m.day) in
    let t1 = count_append test (field_text k.hour m.hour) (field_text k.minute m.minute) in
    let t2 = count_append test (field_text k.hour m.hour ++ field_text k.minute m.minute) (field_text k.second m.second) in
    let a = count_append test (date_text m) (time_text m) in
    let b = count_append test (date_text m ++ time_text m) (fraction_text m.fraction) in
    let c = count_append test (date_text m ++ time_text m ++ fraction_text m.fraction) (zone_text m.zone) in
    c ∙ ap (λ (n : ℕ). n + count test (zone_text m.zone)) (b ∙ ap (λ (n : ℕ). n + count test (fraction_text m.fraction)) (a ∙ ap (λ (n : ℕ). n + count test (time_text m)) (d2 ∙ ap (λ (n : ℕ). n + count test (field_text k.day m.day)) d1) ∙ ap (λ (n : ℕ). count test (year_text k.year m.year) + count test (field_text k.month m.month) + count test (field_text k.day m.day) + n) (t2 ∙ ap (λ (n : ℕ). n + count test (field_text k.second m.second)) t1)))
    ∙ rw (year, month, day, hour, minute, second, fraction) (omega arith)

-- ---- the hyphens in front
abbrev hyphens : List ℕ → ℕ
hyphens [] = 0
hyphens (c ∷ cs) = cond (eqb c 45) (suc (hyphens cs)) 0

hyphens_digits : (ds more : List ℕ) → 0 < length ds → all_digits ds ≡ true → hyphens (ds ++ more) ≡ 0
hyphens_digits [] more any all = absurd (omega arith)
hyphens_digits (c ∷ ds) more any all =
    let p = and_parts (is_digit c) (all_digits ds) all in
    let b = digit_is c p.0 in
    rw (ne_eqb c 45 (λ e. omega (arith, e, b.0))) refl

hyphens_padded : (w n : ℕ) (more : List ℕ) → n < 2 ^ 128 → hyphens (padded w n ++ more) ≡ 0
hyphens_padded w n more lt = hyphens_digits (padded w n) more (padded_any w n lt) (all_digits-padded w n lt)

abbrev lead_of : MomentKind → ℤ → ℕ
lead_of form.GYear y = sign_of true y
lead_of form.GYearMonth y = sign_of true y
lead_of form.Date y = sign_of true y
lead_of form.DateTime y = sign_of true y
lead_of form.GMonth y = 2
lead_of form.GMonthDay y = 2
lead_of form.GDay y = 3
lead_of form.Time y = 0

year_lead : (y : ℤ) (more : List ℕ) → IsYear true y → hyphens (year_text true y ++ more) ≡ sign_of true y
year_lead (pos n) more h = let l : n < 2 ^ 63 = h in hyphens_padded 4 n more (omega arith)
year_lead (negsuc n) more h = let l : n < 2 ^ 63 = h in rw (hyphens_padded 4 (suc n) more (omega arith)) refl

lead_is : (k : MomentKind) (y : ℤ) (month day hour : ℕ) (more : List ℕ) → IsYear (layout k).year y → IsIn (layout k).month 1 12 month → IsIn (layout k).day 1 31 day → IsIn (layout k).hour 0 24 hour
    → hyphens (year_text (layout k).year y ++ (field_text (layout k).month month ++ (field_text (layout k).day day ++ (field_text (layout k).hour hour ++ more)))) ≡ lead_of k y
lead_is form.GYear y month day hour more ry rm rd rh = year_lead y _ ry
lead_is form.GYearMonth y month day hour more ry rm rd rh = year_lead y _ ry
lead_is form.Date y month day hour more ry rm rd rh = year_lead y _ ry
lead_is form.DateTime y month day hour more ry rm rd rh = year_lead y _ ry
lead_is form.GMonth y month day hour more ry rm rd rh = let le : month ≤ 12 = rm.1 in rw (hyphens_padded 2 month more (omega arith)) refl
lead_is form.GMonthDay y month day hour more ry rm rd rh = let le : month ≤ 12 = rm.1 in rw (hyphens_padded 2 month (field_text (Some (45 ∷ [])) day ++ more) (omega arith)) refl
lead_is form.GDay y month day hour more ry rm rd rh = let le : day ≤ 31 = rd.1 in rw (hyphens_padded 2 day more (omega arith)) refl
lead_is form.Time y month day hour more ry rm rd rh = let le : hour ≤ 24 = rh.1 in hyphens_padded 2 hour more (omega arith)

regroup : (a b c d e f g h : List ℕ) → (a ++ b ++ c) ++ (d ++ e ++ f) ++ g ++ h ≡ a ++ (b ++ (c ++ (d ++ (e ++ (f ++ (g ++ h))))))
regroup a b c d e f g h = simp append_assoc

moment_lead : (m : Moment) → IsInRanges m → hyphens (moment_text m) ≡ lead_of m.kind m.year
unfolding moment_text
moment_lead m r =
    let k = layout m.kind in
    let parts = regroup (year_text k.year m.year) (field_text k.month m.month) (field_text k.day m.day) (field_text k.hour m.hour) (field_text k.minute m.minute) (field_text k.second m.second) (fraction_text m.fraction) (zone_text m.zone) in
    ap hyphens parts ∙ lead_is m.kind m.year m.month m.day m.hour (field_text k.minute m.minute ++ (field_text k.second m.second ++ (fraction_text m.fraction ++ zone_text m.zone))) r.year r.month r.day r.hour

-- ---- the kind that they tell
abbrev number : MomentKind → ℕ
number form.GYear = 0
number form.GYearMonth = 1
number form.Date = 2
number form.DateTime = 3
number form.GMonth = 4
number form.GMonthDay = 5
number form.GDay = 6
number form.Time = 7

abbrev kind_of : ℕ → MomentKind
kind_of n = cond (eqb n 0) form.GYear (cond (eqb n 1) form.GYearMonth (cond (eqb n 2) form.Date (cond (eqb n 3) form.DateTime (cond (eqb n 4) form.GMonth (cond (eqb n 5) form.GMonthDay (cond (eqb n 6) form.GDay form.Time))))))

kind_again : (k : MomentKind) → kind_of (number k) ≡ k
kind_again form.GYear = refl
kind_again form.GYearMonth = refl
kind_again form.Date = refl
kind_again form.DateTime = refl
kind_again form.GMonth = refl
kind_again form.GMonthDay = refl
kind_again form.GDay = refl
kind_again form.Time = refl

-- by hyphens and pluses, colons, letters T, and hyphens in front
abbrev told : ℕ → ℕ → ℕ → ℕ → ℕ
told a c t l = cond (eqb t 1) 3 (cond (leb (a + 2) c) 7 (cond (eqb l 3) 6 (cond (eqb l 2) (a - c + 2) (a - c - l))))

told_year : (a c t l d : ℕ) → t ≡ 0 → a ≡ l + d + c → l ≤ 1 → told a c t l ≡ d
told_year a c t l d none is few =
    rw (ne_eqb t 1 (λ e. omega (arith, e)), lt-leb (a + 2) c (omega arith), ne_eqb l 3 (λ e. omega (arith, e)), ne_eqb l 2 (λ e. omega (arith, e))) (omega arith)

told_month : (a c t l d : ℕ) → t ≡ 0 → a ≡ d + c → l ≡ 2 → told a c t l ≡ d + 2
told_month a c t l d none is two =
    rw (ne_eqb t 1 (λ e. omega (arith, e)), lt-leb (a + 2) c (omega arith), ne_eqb l 3 (λ e. omega (arith, e)), eq-eqb l 2 two) (omega arith)

told_day : (a c t l : ℕ) → t ≡ 0 → c ≤ a → l ≡ 3 → told a c t l ≡ 6
told_day a c t l none is three =
    rw (ne_eqb t 1 (λ e. omega (arith, e)), lt-leb (a + 2) c (omega arith), eq-eqb l 3 three) refl

told_time : (a c t l : ℕ) → t ≡ 0 → a + 2 ≤ c → told a c t l ≡ 7
told_time a c t l none is =
    rw (ne_eqb t 1 (λ e. omega (arith, e)), le-leb (a + 2) c is) refl

sign_small : (y : ℤ) → sign_of true y ≤ 1
sign_small (pos n) = omega arith
sign_small (negsuc n) = omega arith

-- the marks of a kind
abbrev marks_of : (ℕ → Bool) → MomentKind → ℤ → ℕ → ℕ
marks_of test k y z = cond (test 45) (sign_of (layout k).year y) 0 + count_marks test (layout k).month + count_marks test (layout k).day + count_marks test (layout k).hour + count_marks test (layout k).minute + count_marks test (layout k).second + z

told_is : (k : MomentKind) (y : ℤ) (z : ℕ) → told (marks_of is_hyphen_or_plus k y z) (marks_of is_colon k y z) (marks_of is_t k y 0) (lead_of k y) ≡ number k
told_is form.GYear y z = told_year (marks_of is_hyphen_or_plus form.GYear y z) (marks_of is_colon form.GYear y z) (marks_of is_t form.GYear y 0) (lead_of form.GYear y) 0 (omega arith) (omega arith) (sign_small y)
told_is form.GYearMonth y z = told_year (marks_of is_hyphen_or_plus form.GYearMonth y z) (marks_of is_colon form.GYearMonth y z) (marks_of is_t form.GYearMonth y 0) (lead_of form.GYearMonth y) 1 (omega arith) (omega arith) (sign_small y)
told_is form.Date y z = told_year (marks_of is_hyphen_or_plus form.Date y z) (marks_of is_colon form.Date y z) (marks_of is_t form.Date y 0) (lead_of form.Date y) 2 (omega arith) (omega arith) (sign_small y)
told_is form.DateTime y z = refl
told_is form.GMonth y z = told_month (marks_of is_hyphen_or_plus form.GMonth y z) (marks_of is_colon form.GMonth y z) (marks_of is_t form.GMonth y 0) (lead_of form.GMonth y) 2 (omega arith) (omega arith) refl
told_is form.GMonthDay y z = told_month (marks_of is_hyphen_or_plus form.GMonthDay y z) (marks_of is_colon form.GMonthDay y z) (marks_of is_t form.GMonthDay y 0) (lead_of form.GMonthDay y) 3 (omega arith) (omega arith) refl
told_is form.GDay y z = told_day (marks_of is_hyphen_or_plus form.GDay y z) (marks_of is_colon form.GDay y z) (marks_of is_t form.GDay y 0) (lead_of form.GDay y) (omega arith) (omega arith) refl
told_is form.Time y z = told_time (marks_of is_hyphen_or_plus form.Time y z) (marks_of is_colon form.Time y z) (marks_of is_t form.Time y 0) (lead_of form.Time y) (omega arith) (omega arith)

abbrev told_by : List ℕ → ℕ
told_by t = told (count is_hyphen_or_plus t) (count is_colon t) (count is_t t) (hyphens t)

kind_told : (m : Moment) → IsInRanges m → told_by (moment_text m) ≡ number m.kind
kind_told m r =
    let a = count_moment is_hyphen_or_plus m hyphens_are_signs r in
    let c = count_moment is_colon m colons_are_signs r in
    let t = count_moment is_t m ts_are_signs r in
    rw (a, c, t, moment_lead m r, zone_hyphens m.zone r.zone, zone_colons m.zone r.zone, zone_ts m.zone r.zone) (told_is m.kind m.year (is_offset m.zone))

kind_same : (m n : Moment) → IsInRanges m → IsInRanges n → moment_text m ≡ moment_text n → m.kind ≡ n.kind
kind_same m n r s e =
    let k : number m.kind ≡ number n.kind = sym (kind_told m r) ∙ ap told_by e ∙ kind_told n s in
    sym (kind_again m.kind) ∙ ap kind_of k ∙ kind_again n.kind

-- ---- so another kind's text is none of this kind
none_unless : (o : Option Value) → ((v : Value) → o ≡ some v → ⊥) → o ≡ None
none_unless None h = refl
none_unless (Some v) h = absurd (h v refl)

other_none : (k : MomentKind) (m : Moment) → IsInRanges m → (k ≡ m.kind → ⊥) → moment_of k (moment_text m) ≡ None
other_none k m r other =
    none_unless (moment_of k (moment_text m)) (λ v e.
    let p = if_back (moment_text m) (option_map shape.moment (moment_value k (moment_text m))) v e in
    let q = map_some (moment_value k (moment_text m)) shape.moment v p.0 in
    let n = q.0 in
    let is = value_back k (moment_text m) n q.1 in
    let text : moment_text n ≡ moment_text m = ap canonical q.2 ∙ p.1 in
    other (sym is.kind_is ∙ kind_same n m is.ranges r text))

self_some : (m : Moment) → IsInRanges m → moment_of m.kind (moment_text m) ≡ Some (shape.moment m)
self_some m r = rw (canonical_value m r, same_bytes (moment_text m)) refl

pick : (k : MomentKind) (t : List ℕ) (v : Value) → moment_of k t ≡ Some v → ((other : MomentKind) → (other ≡ k → ⊥) → moment_of other t ≡ None) → any_moment t ≡ Some v
unfolding any_moment
pick form.GYear t v e none = rw e refl
pick form.GYearMonth t v e none = rw (none form.GYear (λ h. cc), e) refl
pick form.Date t v e none = rw (none form.GYear (λ h. cc), none form.GYearMonth (λ h. cc), e) refl
pick form.DateTime t v e none = rw (none form.GYear (λ h. cc), none form.GYearMonth (λ h. cc), none form.Date (λ h. cc), e) refl
pick form.GMonth t v e none = rw (none form.GYear (λ h. cc), none form.GYearMonth (λ h. cc), none form.Date (λ h. cc), none form.DateTime (λ h. cc), e) refl
pick form.GMonthDay t v e none = rw (none form.GYear (λ h. cc), none form.GYearMonth (λ h. cc), none form.Date (λ h. cc), none form.DateTime (λ h. cc), none form.GMonth (λ h. cc), e) refl
pick form.GDay t v e none = rw (none form.GYear (λ h. cc), none form.GYearMonth (λ h. cc), none form.Date (λ h. cc), none form.DateTime (λ h. cc), none form.GMonth (λ h. cc), none form.GMonthDay (λ h. cc), e) refl
pick form.Time t v e none = rw (none form.GYear (λ h. cc), none form.GYearMonth (λ h. cc), none form.Date (λ h. cc), none form.DateTime (λ h. cc), none form.GMonth (λ h. cc), none form.GMonthDay (λ h. cc), none form.GDay (λ h. cc), e) refl

pub mom_of_word : (m : Moment) → IsInRanges m → scalar_of (codes "mom") (moment_text m) ≡ Some (shape.moment m)
unfolding scalar_of
mom_of_word m ranges = pick m.kind (moment_text m) (shape.moment m) (self_some m ranges) (λ k other. other_none k m ranges other)
