-- A reader that is led turn by turn.
use Rattle.std.specs.Prelude.{◌≡◌, ℕ, false, List, Option, Some, None}
use Rattle.exi_meter.specs.Metering.{Bounds}
use Rattle.exi_names.specs.Events.{Happening}
use Rattle.exi_processing.specs.Reading.{IsReached, Reading}
use Rattle.exi_processing.specs.Runs.{IsSequence, Job}
use Rattle.exi_processing.specs.declared.end.End.{End}
use Rattle.exi_processing.specs.declared.start.Start.TheVariants as start

-- a reader of this job
pub record IsOf (j : Job) (r : Reading) : Type 0 where
  pub setting : r.setting ≡ j.setting
  pub bytes : r.bytes ≡ j.bytes

-- where reading has not ended, turns lead to where the reader is
abbrev pub GoesOn : Reading → Option End → Reading → Type 0
GoesOn old None new = IsReached new × (new.waits ≡ false) × (new.setting ≡ old.setting) × (new.bytes ≡ old.bytes)
GoesOn old (Some e) new = Unit {0}

-- how the fragment at this byte ends, read by itself
abbrev pub IsApart : Job → ℕ → End → Type 0
IsApart j byte e = (limits : Bounds) × (es : List Happening) × (count : ℕ) × IsSequence j (start.Fragment byte) limits es e count
