-- The ranges of the fields by the layout of the text are those by the fields that the kind has.
use Rattle.std.proofs.Common.{◌≡◌, ◌↔◌, ℕ, zero, suc, ◌^◌, ◌<◌, ◌≤◌, Bool, true, false, ◌&&◌, leb, ltb, eqb, List, Option, Some, None, refl, sym, ap, ◌∙◌, subst, arith}
use Rattle.std.proofs.lemmas.Bool.{and_parts, eq-eqb, eqb-true, false≢true, le-leb, leb-true, lt-ltb, ltb-true}
use Rattle.std.specs.Prelude.{ℤ, pos, negsuc, IfSome, IsTrue}
use Rattle.std.specs.Option.{is_some}
use Rattle.exi_names.specs.declared.moment.Moment.{Moment}
use Rattle.exi_names.specs.declared.moment.MomentKind.{MomentKind}
use Rattle.exi_names.specs.declared.moment.MomentKind.TheVariants as form
use Rattle.exi_names.specs.Datatypes as datatype
use Rattle.exi_names.specs.Forms.{IsOf}
use Rattle.exi_names.specs.Moments.{IsMoment, fields, is_in, is_month_day, is_time, is_year}
use Rattle.exi_names.specs.Seen as value
use Rattle.exi_calendar.specs.Laws.{RangesAreTheForm}
use Rattle.exi_calendar.specs.Parts.{IsFraction, IsIn, IsInRanges, IsYear, layout}

-- a kind has the same fields in both
record Alike (k : MomentKind) : Type 0 where
  year : (layout k).year ≡ (fields k).year
  month : is_some (layout k).month ≡ (fields k).month
  day : is_some (layout k).day ≡ (fields k).day
  hour : is_some (layout k).hour ≡ (fields k).time
  minute : is_some (layout k).minute ≡ (fields k).time
  second : is_some (layout k).second ≡ (fields k).time

alike : (k : MomentKind) → Alike k
alike form.GYear = record { year = refl; month = refl; day = refl; hour = refl; minute = refl; second = refl }
alike form.GYearMonth = record { year = refl; month = refl; day = refl; hour = refl; minute = refl; second = refl }
alike form.Date = record { year = refl; month = refl; day = refl; hour = refl; minute = refl; second = refl }
alike form.DateTime = record { year = refl; month = refl; day = refl; hour = refl; minute = refl; second = refl }
alike form.GMonth = record { year = refl; month = refl; day = refl; hour = refl; minute = refl; second = refl }
alike form.GMonthDay = record { year = refl; month = refl; day = refl; hour = refl; minute = refl; second = refl }
alike form.GDay = record { year = refl; month = refl; day = refl; hour = refl; minute = refl; second = refl }
alike form.Time = record { year = refl; month = refl; day = refl; hour = refl; minute = refl; second = refl }

-- ---- a field
in_told : (marks : Option (List ℕ)) (least most n : ℕ) → IsIn marks least most n → is_in (is_some marks) least most n ≡ true
in_told None least most n h = eq-eqb n 0 h
in_told (Some marks) least most n h = rw (le-leb least n h.0, le-leb n most h.1) refl

in_back : (marks : Option (List ℕ)) (least most n : ℕ) → is_in (is_some marks) least most n ≡ true → IsIn marks least most n
in_back None least most n h = eqb-true n 0 h
in_back (Some marks) least most n h = let p = and_parts (leb least n) (leb n most) h in (leb-true least n p.0, leb-true n most p.1)

-- ---- the year
year_told : (has : Bool) (y : ℤ) → IsYear has y → (has ≡ false → y ≡ pos 0) × (is_year y ≡ true)
year_told true (pos n) h = (λ e. absurd (false≢true (sym e)), lt-ltb n (2 ^ 63) h)
year_told true (negsuc n) h = (λ e. absurd (false≢true (sym e)), lt-ltb n (2 ^ 63) h)
year_told false y h = (λ e. h, ap is_year h)

year_back : (has : Bool) (y : ℤ) → (has ≡ false → y ≡ pos 0) → is_year y ≡ true → IsYear has y
year_back true (pos n) none h = ltb-true n (2 ^ 63) h
year_back true (negsuc n) none h = ltb-true n (2 ^ 63) h
year_back false y none h = none refl

-- ---- the fraction
abbrev IsLow : Option ℕ → Type 0
IsLow fraction = IfSome fraction (λ digits. digits < 2 ^ 128)

fraction_told : (marks : Option (List ℕ)) (fraction : Option ℕ) → IsFraction marks fraction → (is_some marks ≡ false → fraction ≡ None) × IsLow fraction
fraction_told None fraction h = (λ e. h, subst IsLow (sym h) tt)
fraction_told (Some marks) fraction h = (λ e. absurd (false≢true (sym e)), h)

fraction_back : (marks : Option (List ℕ)) (fraction : Option ℕ) → (is_some marks ≡ false → fraction ≡ None) → IsLow fraction → IsFraction marks fraction
fraction_back None fraction none low = none refl
fraction_back (Some marks) fraction none low = low

-- ---- all of them
told : (m : Moment) → IsInRanges m → IsMoment m × IsTrue (is_year m.year) × IsLow m.fraction
told m r =
    let a = alike m.kind in
    let y = year_told (layout m.kind).year m.year r.year in
    let f = fraction_told (layout m.kind).second m.fraction r.fraction in
    let month : is_in (fields m.kind).month 1 12 m.month ≡ true = ap (λ b. is_in b 1 12 m.month) (sym a.month) ∙ in_told (layout m.kind).month 1 12 m.month r.month in
    let day : is_in (fields m.kind).day 1 31 m.day ≡ true = ap (λ b. is_in b 1 31 m.day) (sym a.day) ∙ in_told (layout m.kind).day 1 31 m.day r.day in
    let hour : is_in (fields m.kind).time 0 24 m.hour ≡ true = ap (λ b. is_in b 0 24 m.hour) (sym a.hour) ∙ in_told (layout m.kind).hour 0 24 m.hour r.hour in
    let minute : is_in (fields m.kind).time 0 59 m.minute ≡ true = ap (λ b. is_in b 0 59 m.minute) (sym a.minute) ∙ in_told (layout m.kind).minute 0 59 m.minute r.minute in
    let second : is_in (fields m.kind).time 0 60 m.second ≡ true = ap (λ b. is_in b 0 60 m.second) (sym a.second) ∙ in_told (layout m.kind).second 0 60 m.second r.second in (
      record {
        year = λ e. y.0 (a.year ∙ e);
        month_day = rw (month, day) refl;
        time = rw (hour, minute, second) refl;
        fraction = λ e. f.0 (a.second ∙ e);
        zone = r.zone;
      },
      y.1,
      f.1,
    )

back : (m : Moment) → IsMoment m → is_year m.year ≡ true → IsLow m.fraction → IsInRanges m
back m r y f =
    let a = alike m.kind in
    let d = and_parts (is_in (fields m.kind).month 1 12 m.month) (is_in (fields m.kind).day 1 31 m.day) r.month_day in
    let t = and_parts (is_in (fields m.kind).time 0 24 m.hour && is_in (fields m.kind).time 0 59 m.minute) (is_in (fields m.kind).time 0 60 m.second) r.time in
    let u = and_parts (is_in (fields m.kind).time 0 24 m.hour) (is_in (fields m.kind).time 0 59 m.minute) t.0 in
    record {
      year = year_back (layout m.kind).year m.year (λ e. r.year (sym a.year ∙ e)) y;
      month = in_back (layout m.kind).month 1 12 m.month (ap (λ b. is_in b 1 12 m.month) a.month ∙ d.0);
      day = in_back (layout m.kind).day 1 31 m.day (ap (λ b. is_in b 1 31 m.day) a.day ∙ d.1);
      hour = in_back (layout m.kind).hour 0 24 m.hour (ap (λ b. is_in b 0 24 m.hour) a.hour ∙ u.0);
      minute = in_back (layout m.kind).minute 0 59 m.minute (ap (λ b. is_in b 0 59 m.minute) a.minute ∙ u.1);
      second = in_back (layout m.kind).second 0 60 m.second (ap (λ b. is_in b 0 60 m.second) a.second ∙ t.1);
      fraction = fraction_back (layout m.kind).second m.fraction (λ e. r.fraction (sym a.second ∙ e)) f;
      zone = r.zone;
    }

pub ranges_are : RangesAreTheForm
ranges_are k m = (
  λ p. let t = told m p.1 in (p.0, t.0, t.1, t.2),
  λ f. (f.0, back m f.1 f.2 f.3),
)
