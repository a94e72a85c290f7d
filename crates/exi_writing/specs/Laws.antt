-- What is written is spelled so, and read.
use Rattle.std.specs.Prelude.{◌≡◌, ℕ, Bool, List, ◌++◌, length, Ok}
use Rattle.exi_bits.specs.Bits.{rest}
use Rattle.exi_meter.specs.Metering.{Bounds}
use Rattle.exi_names.specs.Events.{Happening}
use Rattle.exi_processing.specs.Configurations.{Config, IsSetting, Setting, spot_in}
use Rattle.exi_processing.specs.OneEvent.{one}
use Rattle.exi_processing.specs.Runs.{IsRun, Job, done, first, whole_bytes}
use Rattle.exi_processing.specs.Spelled.{IsIn, IsOne}
use Rattle.exi_processing.specs.declared.start.Start.TheVariants as start
use Rattle.exi_writing.specs.OneEvent.{Written, written}
use Rattle.exi_writing.specs.Runs.{Run, body}
use Rattle.exi_writing.specs.Sound.{HasSoundTables}

-- one event that is written is spelled so, and so leads to the same configuration
abbrev pub OneIsSpelled : Type 0
OneIsSpelled = (g : Setting) (c : Config) (e : Happening) (w : Written) → HasSoundTables c → written g c e ≡ Ok w → IsOne g c w.given w.bits

-- and is read, whatever follows; the tables are sound behind it
pub record IsStep (g : Setting) (bytes : List ℕ) (c : Config) (w : Written) (more : List Bool) : Type 0 where
  pub read : one g bytes c ≡ Ok w.given
  pub stands : IsIn g bytes w.given.1
  pub left : rest (spot_in bytes w.given.1) ≡ more
  pub sound : HasSoundTables w.given.1
  pub start : w.given.1.start ≡ c.start

abbrev pub OneIsRead : Type 0
OneIsRead = (g : Setting) (bytes : List ℕ) (c : Config) (e : Happening) (w : Written) (more : List Bool) → IsSetting g → IsIn g bytes c → HasSoundTables c → written g c e ≡ Ok w → rest (spot_in bytes c) ≡ w.bits ++ more → IsStep g bytes c w more

-- A list that is written is read: from bytes that have its bits behind the body's first bit, and no whole byte more, the
-- reading of the body gives the events that were written and ends at the last bit
abbrev pub ListIsRead : Type 0
ListIsRead = (j : Job) (limits : Bounds) (es : List Happening) (r : Run) (more : List Bool) → IsSetting j.setting → IsIn j.setting j.bytes (first j start.Body limits) → body j.setting j.body limits es ≡ Ok r → rest (spot_in j.bytes (first j start.Body limits)) ≡ r.bits ++ more
    → length j.bytes ≡ whole_bytes r.last.place → IsRun j.setting j.bytes (first j start.Body limits) r.events (done r.last)
