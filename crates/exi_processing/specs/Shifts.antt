-- A self-contained fragment that charges more than the limits leave where it stands: where sequential processing stops
-- then. The limits are the codec's own; fragments are those of EXI 1.0, section 8.4.3.
use Rattle.std.specs.Prelude.{◌≡◌, ℕ, ◌+◌, Bool, true, false, List, [], ◌∷◌, ◌++◌, length, Option, Some, None}
use Rattle.exi_bits.specs.Bits.{IsBytes}
use Rattle.exi_meter.specs.Metering.{Bounds, Metering, tally_fits, text_fits}
use Rattle.exi_names.specs.Events.{Happening}
use Rattle.exi_names.specs.StartTables.{IsStart}
use Rattle.exi_names.specs.declared.names.QName.{QName}
use Rattle.exi_processing.specs.Configurations.{Body, Config, IsSetting}
use Rattle.exi_gram.specs.Globals.{same_texts}
use Rattle.exi_processing.specs.Laws.{IsWithinLimits}
use Rattle.exi_processing.specs.Metered.{Due, due_fits, limit_of}
use Rattle.exi_processing.specs.Runs.{IsRun, IsSequence, Job, Leads, events_of, first}
use Rattle.exi_processing.specs.Splices.{AtFragment, other_root, root_of, tally_of}
use Rattle.exi_processing.specs.declared.end.End.{End}
use Rattle.exi_processing.specs.declared.end.End.TheVariants as end
use Rattle.exi_processing.specs.declared.start.Start.TheVariants as start

-- One due passes its limit: reading ends by that limit's fault at this bit, with all that was charged before
pub record PassesAt (j : Job) (c : Config) (turns : List (Option Happening)) (bit : ℕ) : Type 0 where
  pub due : Due
  pub meter : Metering
  pub limits : meter.limits ≡ c.meter.limits
  pub over : due_fits due meter ≡ false
  pub run : IsRun j.setting j.bytes c turns (end.Fault (record { kind = limit_of due; bit = bit }) meter.used c.root)

-- inside the fragment: its turns lead so far, by itself and where it stands, and the event behind them passes
pub record StopsInside (j : Job) (byte : ℕ) (c : Config) (limits : Bounds) (es : List Happening) : Type 0 where
  pub before : List (Option Happening)
  pub reached : Config
  pub leads : Leads j.setting j.bytes (first j (start.Fragment byte) limits) before reached
  pub passes : PassesAt j c (before ++ None ∷ []) reached.place
  -- with a front of the fragment's events
  pub rest : List Happening
  pub front : es ≡ events_of before ++ rest

-- one where it is so, and else another
abbrev pub WhereSo : Bool → Type 0 → Type 0 → Type 0
WhereSo true Then Else = Then
WhereSo false Then Else = Else

-- at the first element, which is another than the one that is open: ScRoot where its name can be charged, and else a limit
abbrev pub StopsAtRoot : Job → Config → QName → Type 0
StopsAtRoot j c name = WhereSo (text_fits c.meter (length name.uri + length name.local)) (IsRun j.setting j.bytes c (None ∷ None ∷ []) (other_root c name)) (PassesAt j c (None ∷ None ∷ []) c.place)

abbrev pub StopsBy : Job → ℕ → Config → Bounds → List Happening → List Body → Option QName → Type 0
StopsBy j byte c limits es [] root = StopsInside j byte c limits es
StopsBy j byte c limits es (b ∷ bs) None = StopsInside j byte c limits es
StopsBy j byte c limits es (b ∷ bs) (Some name) = WhereSo (same_texts b.name name) (StopsInside j byte c limits es) (StopsAtRoot j c name)

-- What came of the fragment, read by itself under any limits, is too much where it stands: sequential processing stops by
-- a limit inside the fragment, or at its first element by the root of another element
abbrev pub TooMuchStops : Type 0
TooMuchStops = (j : Job) (byte : ℕ) (c : Config) (limits : Bounds) (es : List Happening) (e : End) (count : ℕ) → IsBytes j.bytes → IsSetting j.setting → IsStart j.setting.schema.names → AtFragment j.setting byte c → IsWithinLimits c.meter.limits c.meter.used → IsSequence j (start.Fragment byte) limits es e count → tally_fits c.meter (tally_of e) ≡ false → StopsBy j byte c limits es c.aside (root_of e)
