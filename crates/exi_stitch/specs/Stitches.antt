-- A reader beside a desk: sequential processing that takes in what came of fragments read elsewhere, where that fits (EXI 1.0,
-- section 8.4.3).
use Rattle.std.specs.Prelude.{◌≡◌, ◌≤◌, ℕ, true, false, List, [], ◌∷◌, ◌++◌, length, Option, Some, None}
use Rattle.exi_bits.specs.Bits.{IsBytes}
use Rattle.exi_meter.specs.Metering.{Bounds}
use Rattle.exi_names.specs.Events.{Happening, sc}
use Rattle.exi_names.specs.StartTables.{IsStart}
use Rattle.exi_processing.specs.Configurations.{Config, IsSetting}
use Rattle.exi_processing.specs.Fragments.{fragments_in}
use Rattle.exi_processing.specs.Handing.{listed}
use Rattle.exi_processing.specs.Reading.{IsFront}
use Rattle.exi_processing.specs.Runs.{IsSequence, Job, ends, first, goes, turn}
use Rattle.exi_processing.specs.Splices.{IsFragmentOutcome, ended, fits, on, spliced, wrong_root}
use Rattle.exi_processing.specs.declared.end.End.{End}
use Rattle.exi_processing.specs.declared.start.Start.{Start}
use Rattle.exi_stitch.specs.Moves.{Posting}

-- ---- at a fragment
-- the posting is what comes of the fragment at this byte, under limits of its own
abbrev pub IsOutcomeAt : Job → ℕ → Posting → Type 0
IsOutcomeAt j byte p = (limits : Bounds) × IsFragmentOutcome j byte limits p.events p.end

-- it may be taken in place of the fragment: its end is no limit, and its tally fits
pub record MayJoin (j : Job) (byte : ℕ) (c : Config) (p : Posting) : Type 0 where
  pub outcome : IsOutcomeAt j byte p
  pub fitting : fits c p.end ≡ true

-- no posting is given, or one that may not be taken
abbrev pub MayNotJoin : Config → Option Posting → Type 0
MayNotJoin c None = Unit {0}
MayNotJoin c (Some p) = fits c p.end ≡ false

-- what is done at a fragment: it is entered, whatever was given; or the posting that was given is joined; or it fits, and is that
-- of another element
pub data Meeting : Type 0 where
  entered : Option Posting → Meeting
  joined : Posting → Meeting
  misplaced : Posting → Meeting

-- where the reader goes on then
abbrev pub GoesOn : Job → ℕ → Config → Meeting → Config → Type 0
GoesOn j byte c (entered given) next = MayNotJoin c given × (next ≡ c)
GoesOn j byte c (joined p) next = MayJoin j byte c p × (spliced c p.end ≡ on next)
GoesOn j byte c (misplaced p) next = ⊥

-- and how it ends
abbrev pub EndsThere : Job → ℕ → Config → Meeting → End → Type 0
EndsThere j byte c (entered given) end = ⊥
EndsThere j byte c (joined p) end = MayJoin j byte c p × (spliced c p.end ≡ ended end)
EndsThere j byte c (misplaced p) end = MayJoin j byte c p × (spliced c p.end ≡ wrong_root end)

-- the posting that was given, if there was one
abbrev pub given_at : Meeting → Option Posting
given_at (entered given) = given
given_at (joined p) = Some p
given_at (misplaced p) = Some p

-- the events that are shown in place of the fragment's
abbrev pub shown_at : Meeting → List Happening
shown_at (entered given) = []
shown_at (joined p) = p.events
shown_at (misplaced p) = []

-- the byte, where the posting is used
abbrev pub used_at : ℕ → Meeting → List ℕ
used_at byte (entered given) = []
used_at byte (joined p) = byte ∷ []
used_at byte (misplaced p) = byte ∷ []

-- ---- stages
-- one turn of sequential processing: it begins no fragment; or it begins one at this byte, and this is done there
pub data Stage : Type 0 where
  turned : Option Happening → Stage
  stood : ℕ → Meeting → Stage

abbrev pub StageLeads : Job → Config → Stage → Config → Type 0
StageLeads j c (turned e) next = (turn j.setting j.bytes c ≡ goes e next) × (fragments_in (listed e) ≡ 0)
StageLeads j c (stood byte m) next = (at : Config) × (turn j.setting j.bytes c ≡ goes (Some (sc byte)) at) × GoesOn j byte at m next

abbrev pub StageEnds : Job → Config → Stage → End → Type 0
StageEnds j c (turned e) end = turn j.setting j.bytes c ≡ ends e end
StageEnds j c (stood byte m) end = (at : Config) × (turn j.setting j.bytes c ≡ goes (Some (sc byte)) at) × EndsThere j byte at m end

-- stages that go on lead from one configuration to another
abbrev pub Stitches : Job → Config → List Stage → Config → Type 0
Stitches j first [] last = first ≡ last
Stitches j first (s ∷ ss) last = (next : Config) × StageLeads j first s next × Stitches j next ss last

-- all stages from a configuration on, of which the last ends
pub record IsStitched (j : Job) (first : Config) (stages : List Stage) (end : End) : Type 0 where
  pub before : List Stage
  pub reached : Config
  pub leads : Stitches j first before reached
  pub stage : Stage
  pub at_end : StageEnds j reached stage end
  pub all : stages ≡ before ++ stage ∷ []

-- ---- what is given, used and asked
abbrev pub events_at : Stage → List Happening
events_at (turned e) = listed e
events_at (stood byte m) = sc byte ∷ shown_at m

abbrev pub events_in : List Stage → List Happening
events_in [] = []
events_in (s ∷ ss) = events_at s ++ events_in ss

abbrev pub used_by : Stage → List ℕ
used_by (turned e) = []
used_by (stood byte m) = used_at byte m

-- the bytes at which a posting is used, in order
abbrev pub used_in : List Stage → List ℕ
used_in [] = []
used_in (s ∷ ss) = used_by s ++ used_in ss

-- a desk is asked for the fragment at this byte, and gives a posting or none
pub record Ask : Type 0 where
  pub byte : ℕ
  pub given : Option Posting

abbrev pub asks_by : Stage → List Ask
asks_by (turned e) = []
asks_by (stood byte m) = record { byte = byte; given = given_at m } ∷ []

-- it is asked at each fragment to which a turn comes, in order
abbrev pub asks_in : List Stage → List Ask
asks_in [] = []
asks_in (s ∷ ss) = asks_by s ++ asks_in ss

-- ---- the desk: what it was before, what it is asked, and what it is then
module _ {P D : Type 0} (told : P → Posting) (arrives : D → ℕ → Option P → D → Type 0) (returns : D → P → D → Type 0) where
  -- what it gives goes back to it, once
  abbrev pub AskedOnce : D → ℕ → Option Posting → D → Type 0
  AskedOnce desk byte None after = arrives desk byte None after
  AskedOnce desk byte (Some p) after = (q : P) × (mid : D) × (told q ≡ p) × arrives desk byte (Some q) mid × returns mid q after

  abbrev pub Asked : D → List Ask → D → Type 0
  Asked desk [] after = desk ≡ after
  Asked desk (a ∷ more) after = (mid : D) × AskedOnce desk a.byte a.given mid × Asked mid more after

-- where reading stopped, the desk was asked at one fragment more, or not
abbrev pub AskedLast : Job → Config → List Ask → Type 0
AskedLast j c [] = Unit {0}
AskedLast j c (a ∷ []) = (at : Config) × (turn j.setting j.bytes c ≡ goes (Some (sc a.byte)) at)
AskedLast j c (a ∷ b ∷ more) = ⊥

-- ---- the laws
-- stages from the first configuration on give a front of the events of sequential processing
abbrev pub StitchesGiveFronts : Type 0
StitchesGiveFronts = (j : Job) (start : Start) (limits : Bounds) (stages : List Stage) (c : Config) → IsBytes j.bytes → IsSetting j.setting → IsStart j.setting.schema.names → Stitches j (first j start limits) stages c → IsFront j start limits (events_in stages)

-- and where they end, they give its events and its end, in no more turns
abbrev pub StitchedIsSequential : Type 0
StitchedIsSequential = (j : Job) (start : Start) (limits : Bounds) (stages : List Stage) (end : End) → IsBytes j.bytes → IsSetting j.setting → IsStart j.setting.schema.names → IsStitched j (first j start limits) stages end → (count : ℕ) × IsSequence j start limits (events_in stages) end count × (length stages ≤ count)
