-- A text has a value exactly where it is one of the texts of that value.
use Rattle.std.proofs.Common.{◌≡◌, ℕ, zero, suc, ◌^◌, ◌<◌, true, List, [], ◌++◌, Option, Some, None, refl, sym, ◌∙◌, subst, append_assoc, arith}
use Rattle.std.specs.Prelude.{ℤ, pos, negsuc}
use Rattle.exi_names.specs.declared.moment.Moment.{Moment}
use Rattle.exi_names.specs.declared.moment.MomentKind.{MomentKind}
use Rattle.exi_names.specs.declared.moment.MomentKind.TheVariants as form
use Rattle.exi_digits.specs.Digits.{fraction_of}
use Rattle.exi_digits.proofs.Decimals.{all_digits-fraction_of, back_of-fraction_of, fraction_any, has_any_of}
use Rattle.exi_calendar.specs.Parts.{IsFraction, IsInRanges, layout}
use Rattle.exi_calendar.specs.Forms.{Spells, SpellsFraction, SpellsZone, field_text, fraction_text, moment_text, year_text, zone_text}
use Rattle.exi_calendar.specs.Forms.SpellsZone.{absent, utc, east, west}
use Rattle.exi_calendar.specs.Reading.{◌>>=◌, field_at, fraction_at, moment_value, year_at, zone_of}
use Rattle.exi_calendar.specs.Laws.{IsValueOf, ReadIsSpelled, SpelledIsRead, ValueComesBack, ValueIsOne, WrittenIsRead}
use Rattle.exi_calendar.proofs.Fields.{field_back, field_front, some, some_is, zone_back, zone_front}
use Rattle.exi_calendar.proofs.Years.{ends, year_back, year_front}
use Rattle.exi_calendar.proofs.Fractions.{fraction_back, fraction_front}

-- ---- what a year and a fraction end at
zone_ends : (z : Option ℤ) (text : List ℕ) → SpellsZone z text → ends text ≡ true
zone_ends z text absent = refl
zone_ends z text utc = refl
zone_ends z text (east n) = refl
zone_ends z text (west n) = refl

regroup : (a b c d e f g h : List ℕ) → (a ++ b ++ c) ++ (d ++ e ++ f) ++ g ++ h ≡ a ++ (b ++ (c ++ (d ++ (e ++ (f ++ (g ++ h))))))
regroup a b c d e f g h = simp append_assoc

no_fraction : (fraction : Option ℕ) (text : List ℕ) → fraction ≡ None → SpellsFraction fraction text → text ≡ []
no_fraction fraction text e spells = subst (λ (f : Option ℕ). SpellsFraction f text) e spells

-- what stands behind a year begins with a hyphen, or is the zone
year_ends : (k : MomentKind) (month day hour minute second : ℕ) (fraction : Option ℕ) (z : Option ℤ) (digits zone : List ℕ) → IsFraction (layout k).second fraction → SpellsFraction fraction digits → SpellsZone z zone → (layout k).year ≡ true → ends (field_text (layout k).month month ++ (field_text (layout k).day day ++ (field_text (layout k).hour hour ++ (field_text (layout k).minute minute ++ (field_text (layout k).second second ++ (digits ++ zone)))))) ≡ true
year_ends form.GYear month day hour minute second fraction z digits zone range spells spelled has = rw (no_fraction fraction digits range spells) (zone_ends z zone spelled)
year_ends form.GYearMonth month day hour minute second fraction z digits zone range spells spelled has = refl
year_ends form.Date month day hour minute second fraction z digits zone range spells spelled has = refl
year_ends form.DateTime month day hour minute second fraction z digits zone range spells spelled has = refl
year_ends form.GMonth month day hour minute second fraction z digits zone range spells spelled has = absurd cc
year_ends form.GMonthDay month day hour minute second fraction z digits zone range spells spelled has = absurd cc
year_ends form.GDay month day hour minute second fraction z digits zone range spells spelled has = absurd cc
year_ends form.Time month day hour minute second fraction z digits zone range spells spelled has = absurd cc

value_front : (m : Moment) (text : List ℕ) → IsInRanges m → Spells m text → moment_value m.kind text ≡ some m
unfolding moment_value
value_front m text ranges spells =
    let l = layout m.kind in
    let digits = spells.fraction in
    let zone = spells.zone in
    let parts = spells.text_is ∙ regroup (year_text l.year m.year) (field_text l.month m.month) (field_text l.day m.day) (field_text l.hour m.hour) (field_text l.minute m.minute) (field_text l.second m.second) digits zone in
    let end = year_ends m.kind m.month m.day m.hour m.minute m.second m.fraction m.zone digits zone ranges.fraction spells.fraction_is spells.zone_is in
    let f = fraction_front l.second m.fraction digits zone ranges.fraction spells.fraction_is (zone_ends m.zone zone spells.zone_is) in
    let s = field_front l.second 0 60 m.second (digits ++ zone) ranges.second (omega arith) in
    let mi = field_front l.minute 0 59 m.minute (field_text l.second m.second ++ (digits ++ zone)) ranges.minute (omega arith) in
    let h = field_front l.hour 0 24 m.hour (field_text l.minute m.minute ++ (field_text l.second m.second ++ (digits ++ zone))) ranges.hour (omega arith) in
    let d = field_front l.day 1 31 m.day (field_text l.hour m.hour ++ (field_text l.minute m.minute ++ (field_text l.second m.second ++ (digits ++ zone)))) ranges.day (omega arith) in
    let mo = field_front l.month 1 12 m.month (field_text l.day m.day ++ (field_text l.hour m.hour ++ (field_text l.minute m.minute ++ (field_text l.second m.second ++ (digits ++ zone))))) ranges.month (omega arith) in
    let y = year_front l.year m.year (field_text l.month m.month ++ (field_text l.day m.day ++ (field_text l.hour m.hour ++ (field_text l.minute m.minute ++ (field_text l.second m.second ++ (digits ++ zone)))))) ranges.year end in
    rw (parts, y, mo, d, h, mi, s, f, zone_front m.zone zone spells.zone_is ranges.zone) refl

joined : (t u v w x y z : List ℕ) (a b c d e f g h : List ℕ) → t ≡ a ++ u → u ≡ b ++ v → v ≡ c ++ w → w ≡ d ++ x → x ≡ e ++ y → y ≡ f ++ z → z ≡ g ++ h → t ≡ (a ++ b ++ c) ++ (d ++ e ++ f) ++ g ++ h
joined t u v w x y z a b c d e f g h et eu ev ew ex ey ez = rw (et, eu, ev, ew, ex, ey, ez) (sym (regroup a b c d e f g h))

pub bind_then : {A B P : Type 0} → (o : Option A) (f : A → Option B) (y : B) → (o >>= f) ≡ some y → ((x : A) → o ≡ some x → f x ≡ some y → P) → P
bind_then None f y e then = absurd cc
bind_then (Some x) f y e then = then x refl e

abbrev of_fields : MomentKind → ℤ → ℕ → ℕ → ℕ → ℕ → ℕ → Option ℕ → Option ℤ → Moment
of_fields k year month day hour minute second fraction zone = record { kind = k; year = year; month = month; day = day; hour = hour; minute = minute; second = second; fraction = fraction; zone = zone }

fields_back : (k : MomentKind) (text : List ℕ) (year : ℤ × List ℕ) (month day hour minute second : ℕ × List ℕ) (fraction : Option ℕ × List ℕ) (zone : Option ℤ) → year_at (layout k).year text ≡ some year → field_at (layout k).month 1 12 year.1 ≡ some month → field_at (layout k).day 1 31 month.1 ≡ some day → field_at (layout k).hour 0 24 day.1 ≡ some hour → field_at (layout k).minute 0 59 hour.1 ≡ some minute → field_at (layout k).second 0 60 minute.1 ≡ some second → fraction_at (layout k).second second.1 ≡ some fraction → zone_of fraction.1 ≡ some zone → IsValueOf k text (of_fields k year.0 month.0 day.0 hour.0 minute.0 second.0 fraction.0 zone)
fields_back k text year month day hour minute second fraction zone ey emo ed eh emi es ef ez =
    let l = layout k in
    let y = year_back l.year year.0 text year.1 ey in
    let mo = field_back l.month 1 12 month.0 year.1 month.1 emo in
    let d = field_back l.day 1 31 day.0 month.1 day.1 ed in
    let h = field_back l.hour 0 24 hour.0 day.1 hour.1 eh in
    let mi = field_back l.minute 0 59 minute.0 hour.1 minute.1 emi in
    let s = field_back l.second 0 60 second.0 minute.1 second.1 es in
    let f = fraction_back l.second fraction.0 second.1 fraction.1 ef in
    let z = zone_back zone fraction.1 ez in
    let parts = joined text year.1 month.1 day.1 hour.1 minute.1 second.1 (year_text l.year year.0) (field_text l.month month.0) (field_text l.day day.0) (field_text l.hour hour.0) (field_text l.minute minute.0) (field_text l.second second.0) f.0 fraction.1 y.0 mo.0 d.0 h.0 mi.0 s.0 f.1 in
    record {
      kind_is = refl;
      ranges = record { year = y.1; month = mo.1; day = d.1; hour = h.1; minute = mi.1; second = s.1; fraction = f.3; zone = z.1 };
      spells = record { fraction = f.0; zone = fraction.1; fraction_is = f.2; zone_is = z.0; text_is = parts };
    }

pub value_back : ReadIsSpelled
unfolding moment_value
value_back k text m e =
    bind_then (year_at (layout k).year text) _ m e (λ year ey e1.
    bind_then (field_at (layout k).month 1 12 year.1) _ m e1 (λ month emo e2.
    bind_then (field_at (layout k).day 1 31 month.1) _ m e2 (λ day ed e3.
    bind_then (field_at (layout k).hour 0 24 day.1) _ m e3 (λ hour eh e4.
    bind_then (field_at (layout k).minute 0 59 hour.1) _ m e4 (λ minute emi e5.
    bind_then (field_at (layout k).second 0 60 minute.1) _ m e5 (λ second es e6.
    bind_then (fraction_at (layout k).second second.1) _ m e6 (λ fraction ef e7.
    bind_then (zone_of fraction.1) _ m e7 (λ zone ez e8.
    subst (IsValueOf k text) (some_is (of_fields k year.0 month.0 day.0 hour.0 minute.0 second.0 fraction.0 zone) m e8) (fields_back k text year month day hour minute second fraction zone ey emo ed eh emi es ef ez)))))))))

pub value_spelled : SpelledIsRead
value_spelled k text m v = subst (λ (kind : MomentKind). moment_value kind text ≡ some m) v.kind_is (value_front m text v.ranges v.spells)

-- ---- the canonical text
fraction_spelled : (marks : Option (List ℕ)) (fraction : Option ℕ) → IsFraction marks fraction → SpellsFraction fraction (fraction_text fraction)
fraction_spelled marks None range = refl
fraction_spelled None (Some back) range = absurd cc
fraction_spelled (Some marks) (Some back) range =
    let low : back < 2 ^ 128 = range in
    (fraction_of back, refl, rw (has_any_of (fraction_of back) (fraction_any back low), all_digits-fraction_of back low) refl, back_of-fraction_of back low)

zone_spelled : (z : Option ℤ) → SpellsZone z (zone_text z)
zone_spelled None = absent
zone_spelled (Some (pos zero)) = utc
zone_spelled (Some (pos (suc n))) = east (suc n)
zone_spelled (Some (negsuc n)) = west (suc n)

canonical_spells : (m : Moment) → IsInRanges m → Spells m (moment_text m)
unfolding moment_text
canonical_spells m ranges = record {
  fraction = fraction_text m.fraction;
  zone = zone_text m.zone;
  fraction_is = fraction_spelled (layout m.kind).second m.fraction ranges.fraction;
  zone_is = zone_spelled m.zone;
  text_is = refl;
}

pub canonical_value : WrittenIsRead
canonical_value m ranges = value_front m (moment_text m) ranges (canonical_spells m ranges)

pub value_again : ValueComesBack
value_again k text m e =
    let v = value_back k text m e in
    subst (λ (kind : MomentKind). moment_value kind (moment_text m) ≡ some m) v.kind_is (canonical_value m v.ranges)

pub one_value : ValueIsOne
one_value k text m n v w = some_is m n (sym (value_spelled k text m v) ∙ value_spelled k text n w)
