-- Text that is charged to a meter before it is read. The limits are the codec's own.
use Rattle.std.specs.Prelude.{◌≡◌, ℕ, Result, Ok, Err, if◌then◌else◌}
use Rattle.exi_bits.specs.Bits.{Spot}
use Rattle.exi_bits.specs.Unsigned.{StopsAs}
use Rattle.exi_bits.specs.declared.fault.Fault.{Fault}
use Rattle.exi_bits.specs.declared.fault.Kind.TheVariants as kind
use Rattle.exi_bits.specs.declared.fault.Stop.{Stop}
use Rattle.exi_bits.specs.declared.fault.Stop.TheVariants as stop
use Rattle.exi_meter.specs.Metering.{Metering, text_fits, with_text}

-- where reading goes on, and what was counted so far
pub record Charged : Type 0 where
  pub spot : Spot
  pub meter : Metering

-- the meter after so many units of text, or TextLimit at the bit
unfoldable pub text_charge : ℕ → ℕ → Metering → Result Metering Fault
text_charge units bit m = if text_fits m units then Ok (with_text m units) else Err (record { kind = kind.TextLimit; bit = bit })

-- the meter after so many units of text; as before where they do not fit
abbrev pub after_text : Metering → ℕ → Metering
after_text m units = if text_fits m units then with_text m units else m

-- What was answered, where reading goes on and what was counted is what reading gives. Memory may run out.
abbrev pub Charges : {X Y : Type 0} → (X → Y) → Result X Stop → Spot → Metering → Result (Y × Charged) Fault → Type 0
Charges view (Ok x) spot meter read = read ≡ Ok (view x, record { spot = spot; meter = meter })
Charges view (Err e) spot meter read = StopsAs e read

-- the meter after a stop: what was charged before a fault stays charged, and where memory ran out it is as it was
abbrev pub meter_after : Stop → Metering → Metering → Metering
meter_after stop.Memory old charged = old
meter_after (stop.Fault f) old charged = charged
