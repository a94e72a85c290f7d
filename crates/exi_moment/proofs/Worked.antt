-- The definitions on small values.
use Rattle.std.proofs.Common.{◌≡◌, ℕ, List, [], ◌∷◌, Some, None, Ok, refl}
use Rattle.std.specs.Prelude.{pos, negsuc}
use Rattle.exi_bits.specs.declared.align.Align.TheVariants as align
use Rattle.exi_bits.specs.declared.fault.Kind.TheVariants as fault
use Rattle.exi_bits.specs.Bits.{Spot, bits, le_bytes, number_at, number_bits, value_of}
use Rattle.exi_bits.specs.Widths.{width_from}
use Rattle.exi_bits.specs.Unsigned.{fault_at, field_at, groups, groups_at, narrow_groups_at, below_at, unsigned_at}
use Rattle.exi_names.specs.declared.moment.Moment.{Moment}
use Rattle.exi_names.specs.declared.moment.MomentKind.TheVariants as form
use Rattle.exi_moment.specs.Spelling.{spelling}
use Rattle.exi_moment.specs.Reading.{fraction_at, minutes_of, moment_at, month_day_at, month_day_of, offset_at, time_at, time_of, year_at, year_of, zone_at, zone_of}

-- 2014-02-11T09:30:00Z
abbrev morning : Moment
morning = record { kind = form.DateTime; year = pos 2014; month = 2; day = 11; hour = 9; minute = 30; second = 0; fraction = None; zone = Some (pos 0) }

abbrev at_bit : List ℕ → ℕ → Spot
at_bit bytes place = record { bytes = bytes; place = place }

abbrev morning_bytes : List ℕ
morning_bytes = 0x07 ∷ 0x12 ∷ 0xD2 ∷ 0xF0 ∷ 0x0B ∷ 0x80 ∷ []

morning_spelled : spelling align.Bits morning ≡ bits morning_bytes
unfolding spelling bits number_bits groups
morning_spelled = refl

morning_read : moment_at form.DateTime align.Bits (at_bit morning_bytes 0) ≡ Ok (morning, at_bit morning_bytes 48)
unfolding moment_at year_at month_day_at time_at fraction_at zone_at offset_at year_of month_day_of time_of zone_of minutes_of width_from below_at field_at unsigned_at narrow_groups_at groups_at number_at value_of bits number_bits
morning_read = refl

-- --12-05:01 in whole bytes: 384, 1, 575
abbrev west : Moment
west = record { kind = form.GMonth; year = pos 0; month = 12; day = 0; hour = 0; minute = 0; second = 0; fraction = None; zone = Some (negsuc 300) }

west_spelled : spelling align.Bytes west ≡ bits (0x80 ∷ 0x01 ∷ 0x01 ∷ 0x3F ∷ 0x02 ∷ [])
unfolding spelling bits number_bits le_bytes
west_spelled = refl

-- the zone 14:30 is out of range, at its eleven bits
far_east : moment_at form.GDay align.Bits (at_bit (0x00 ∷ 0xF8 ∷ 0xF0 ∷ []) 0) ≡ fault_at fault.BadMoment (at_bit [] 10)
unfolding moment_at month_day_at zone_at offset_at month_day_of zone_of minutes_of width_from below_at field_at number_at value_of bits number_bits
far_east = refl
