-- The definitions on small texts.
use Rattle.std.proofs.Common.{◌≡◌, Some, None, refl}
use Rattle.std.specs.Prelude.{codes, pos, negsuc}
use Rattle.std.specs.Fmt.{digits}
use Rattle.exi_names.specs.declared.moment.Moment.{Moment}
use Rattle.exi_names.specs.declared.moment.MomentKind.TheVariants as form
use Rattle.exi_calendar.specs.Forms.{moment_text}
use Rattle.exi_calendar.specs.Reading.{digits_year_at, field_at, fraction_at, fraction_digits_at, moment_value, offset_of, past, two_digits_of, year_at, year_of, zone_of}

abbrev morning : Moment
morning = record { kind = form.DateTime; year = pos 2014; month = 2; day = 11; hour = 9; minute = 30; second = 0; fraction = None; zone = Some (pos 0) }

morning_is : moment_value form.DateTime (codes "2014-02-11T09:30:00Z") ≡ Some morning
unfolding moment_value year_at digits_year_at year_of field_at past two_digits_of fraction_at fraction_digits_at zone_of offset_of
morning_is = refl

morning_text : moment_text morning ≡ codes "2014-02-11T09:30:00Z"
unfolding moment_text digits
morning_text = refl

-- both zones of 0 are UTC
east_of_utc : moment_value form.DateTime (codes "2014-02-11T09:30:00+00:00") ≡ Some morning
unfolding moment_value year_at digits_year_at year_of field_at past two_digits_of fraction_at fraction_digits_at zone_of offset_of
east_of_utc = refl

west_of_utc : moment_value form.DateTime (codes "2014-02-11T09:30:00-00:00") ≡ Some morning
unfolding moment_value year_at digits_year_at year_of field_at past two_digits_of fraction_at fraction_digits_at zone_of offset_of
west_of_utc = refl

-- a fraction is kept by its digits read backwards, and zeros at its end change nothing
abbrev half_past : Moment
half_past = record { kind = form.Time; year = pos 0; month = 0; day = 0; hour = 24; minute = 0; second = 60; fraction = Some 50; zone = Some (negsuc 389) }

half_past_is : moment_value form.Time (codes "24:00:60.0500-06:30") ≡ Some half_past
unfolding moment_value year_at digits_year_at year_of field_at past two_digits_of fraction_at fraction_digits_at zone_of offset_of
half_past_is = refl

half_past_text : moment_text half_past ≡ codes "24:00:60.05-06:30"
unfolding moment_text digits
half_past_text = refl

-- a year before the year 0, and years that are none
old_year : moment_value form.GYear (codes "-0044") ≡ Some (record { kind = form.GYear; year = negsuc 43; month = 0; day = 0; hour = 0; minute = 0; second = 0; fraction = None; zone = None })
unfolding moment_value year_at digits_year_at year_of field_at past two_digits_of fraction_at fraction_digits_at zone_of offset_of
old_year = refl

no_zero_year : moment_value form.GYear (codes "-0000") ≡ None
unfolding moment_value year_at digits_year_at year_of field_at past two_digits_of fraction_at fraction_digits_at zone_of offset_of
no_zero_year = refl

no_long_zero : moment_value form.GYear (codes "02014") ≡ None
unfolding moment_value year_at digits_year_at year_of field_at past two_digits_of fraction_at fraction_digits_at zone_of offset_of
no_long_zero = refl

-- a day of any month, and days that are none
any_day : moment_value form.GDay (codes "---31Z") ≡ Some (record { kind = form.GDay; year = pos 0; month = 0; day = 31; hour = 0; minute = 0; second = 0; fraction = None; zone = Some (pos 0) })
unfolding moment_value year_at digits_year_at year_of field_at past two_digits_of fraction_at fraction_digits_at zone_of offset_of
any_day = refl

no_day : moment_value form.GDay (codes "---00") ≡ None
unfolding moment_value year_at digits_year_at year_of field_at past two_digits_of fraction_at fraction_digits_at zone_of offset_of
no_day = refl

-- a point wants a digit, and a zone at most 14 hours
no_fraction : moment_value form.Time (codes "13:08:10.") ≡ None
unfolding moment_value year_at digits_year_at year_of field_at past two_digits_of fraction_at fraction_digits_at zone_of offset_of
no_fraction = refl

far_zone : moment_value form.GMonthDay (codes "--02-11+14:01") ≡ None
unfolding moment_value year_at digits_year_at year_of field_at past two_digits_of fraction_at fraction_digits_at zone_of offset_of
far_zone = refl
