-- One event that is refused: what stands before is spelled, and the first point that fails gives the fault, with all that
-- was charged before it. No reading has a part in it.
use Rattle.std.specs.Prelude.{◌≡◌, ◌≢◌, ◌⊎◌, ◌<◌, ◌≤◌, ◌^◌, ℕ, ◌+◌, Bool, true, false, List, [], ◌++◌, length, slice_get, Some, None, Err}
use Rattle.exi_bits.specs.declared.align.Align.{Align}
use Rattle.exi_bits.specs.Bits.{Spot, left, moved, number, rest, taken}
use Rattle.exi_bits.specs.Widths.{width_for}
use Rattle.exi_bits.specs.declared.fault.Fault.{Fault}
use Rattle.exi_bits.specs.declared.fault.Kind.{Kind}
use Rattle.exi_bits.specs.declared.fault.Kind.TheVariants as kind
use Rattle.exi_gram.specs.Codes.{Productions, first_values, group}
use Rattle.exi_gram.specs.Laws.{SpellsCode}
use Rattle.exi_gram.specs.Switches.{align_of}
use Rattle.exi_meter.specs.Metering.{Metering, event_fits, level_fits}
use Rattle.exi_typed.specs.Charging.{Charge, IsTaken}
use Rattle.exi_typed.specs.ReadStates.{Context, Failure}
use Rattle.exi_processing.specs.Configurations.{Config, IsSetting, Setting, rules_of, spot_in}
use Rattle.exi_processing.specs.OneEvent.{moved_limit, one}
use Rattle.exi_processing.specs.Plans.{Given, Plan, plan_of}
use Rattle.exi_processing.specs.Rules.{Rule}
use Rattle.exi_processing.specs.Spelled.{IsCharged, IsIn, IsOne, counted_by}

-- a fault of a kind at a bit, with what was charged before
abbrev pub failure_of : Kind → ℕ → Metering → Failure
failure_of k bit m = record { fault = record { kind = k; bit = bit }; meter = m }

-- ---- before the content: the event's first bit is at fault
-- an event that may not come where it stands
pub record IsBarred (bit : ℕ) (p : Plan) (m : Metering) (e : Failure) : Type 0 where
  pub kind : Kind
  pub barred : p.barred ≡ Some kind
  pub is : e ≡ failure_of kind bit m

-- one event more than the limit
pub record IsOverEvents (bit : ℕ) (p : Plan) (m : Metering) (e : Failure) : Type 0 where
  pub free : p.barred ≡ None
  pub counts : p.counted ≡ true
  pub over : event_fits m ≡ false
  pub is : e ≡ failure_of kind.EventLimit bit m

-- SC that does not come directly behind SE: its event is charged
pub record IsMisplaced (bit : ℕ) (p : Plan) (m : Metering) (e : Failure) : Type 0 where
  pub free : p.barred ≡ None
  pub counted : p.counted ≡ true → event_fits m ≡ true
  pub kind : Kind
  pub misplaced : p.misplaced ≡ Some kind
  pub is : e ≡ failure_of kind bit (counted_by p.counted m)

-- one level more than the limit: its event is charged
pub record IsTooDeep (bit : ℕ) (p : Plan) (m : Metering) (e : Failure) : Type 0 where
  pub free : p.barred ≡ None
  pub counted : p.counted ≡ true → event_fits m ≡ true
  pub placed : p.misplaced ≡ None
  pub enters : p.entered ≡ true
  pub over : level_fits (counted_by p.counted m) ≡ false
  pub is : e ≡ failure_of kind.DepthLimit bit (counted_by p.counted m)

abbrev pub IsRefusedBefore : ℕ → Plan → Metering → Failure → Type 0
IsRefusedBefore bit p m e = IsBarred bit p m e ⊎ IsOverEvents bit p m e ⊎ IsMisplaced bit p m e ⊎ IsTooDeep bit p m e

-- ---- in the content, or behind it
-- what stands before is spelled, and the next thing is refused, at its first bit; a limit of text has the event's first bit
pub record IsContentRefused (bytes : List ℕ) (bit : ℕ) (p : Plan) (c : Config) (e : Failure) : Type 0 where
  pub meter : Metering
  pub charged : IsCharged p c.meter meter
  pub failure : Failure
  pub refused : p.Refuses (record { meter = meter; tables = c.tables }) (spot_in bytes c) failure
  pub is : e ≡ record failure { fault = moved_limit bit failure.fault }

-- it is spelled, and is not what may stand here
pub record IsItemRefused (bytes : List ℕ) (bit : ℕ) (p : Plan) (c : Config) (e : Failure) : Type 0 where
  pub meter : Metering
  pub charged : IsCharged p c.meter meter
  pub item : p.Item
  pub content : List Bool
  pub more : List Bool
  pub stands : rest (spot_in bytes c) ≡ content ++ more
  pub after : Context
  pub charges : List Charge
  pub spelled : p.Spells item c.tables after.tables charges content
  pub taken : IsTaken charges meter after.meter
  pub kind : Kind
  pub refused : p.refused item ≡ Some kind
  pub is : e ≡ failure_of kind bit after.meter

abbrev pub IsPlanRefused : List ℕ → ℕ → Plan → Config → Failure → Type 0
IsPlanRefused bytes bit p c e = IsRefusedBefore bit p c.meter e ⊎ IsContentRefused bytes bit p c e ⊎ IsItemRefused bytes bit p c e

-- ---- a code
-- the bits end before a part of so many values does
pub record IsShortPart (count : ℕ) (a : Align) (s : Spot) (f : Fault) : Type 0 where
  pub few : left s < taken (width_for count) a
  pub is : f ≡ record { kind = kind.Short; bit = s.place }

-- the part has a value that no code has there
pub record IsNoPart (count : ℕ) (a : Align) (s : Spot) (f : Fault) : Type 0 where
  pub value : ℕ
  pub narrow : value < 2 ^ taken (width_for count) a
  pub more : List Bool
  pub stands : rest s ≡ number (width_for count) a value ++ more
  pub none : count ≤ value
  pub is : f ≡ record { kind = kind.NoCode; bit = s.place }

abbrev pub IsPartRefused : ℕ → Align → Spot → Fault → Type 0
IsPartRefused count a s f = IsShortPart count a s f ⊎ IsNoPart count a s f

abbrev pub behind_part : ℕ → Align → Spot → Spot
behind_part count a s = moved s (taken (width_for count) a)

-- the first part is that of all longer codes
pub record IsLonger (p : Productions Rule) (a : Align) (s : Spot) : Type 0 where
  pub some : p.seconds ≢ []
  pub more : List Bool
  pub stands : rest s ≡ number (width_for (first_values p)) a (length p.firsts) ++ more

-- and the second is refused
pub record IsSecondRefused (p : Productions Rule) (a : Align) (s : Spot) (f : Fault) : Type 0 where
  pub longer : IsLonger p a s
  pub refused : IsPartRefused (length p.seconds) a (behind_part (first_values p) a s) f

-- or it tells a group, and the third is refused
pub record IsThirdRefused (p : Productions Rule) (a : Align) (s : Spot) (f : Fault) : Type 0 where
  pub longer : IsLonger p a s
  pub second : ℕ
  pub members : List Rule
  pub there : slice_get p.seconds second ≡ Some (group members)
  pub more : List Bool
  pub stands : rest (behind_part (first_values p) a s) ≡ number (width_for (length p.seconds)) a second ++ more
  pub refused : IsPartRefused (length members) a (behind_part (length p.seconds) a (behind_part (first_values p) a s)) f

abbrev pub IsCodeRefused : Productions Rule → Align → Spot → Fault → Type 0
IsCodeRefused p a s f = IsPartRefused (first_values p) a s f ⊎ IsSecondRefused p a s f ⊎ IsThirdRefused p a s f

-- ---- one event
-- no code stands here
pub record IsNoCode (g : Setting) (bytes : List ℕ) (c : Config) (e : Failure) : Type 0 where
  pub fault : Fault
  pub refused : IsCodeRefused (rules_of g c) (align_of g.options) (spot_in bytes c) fault
  pub is : e ≡ record { fault = fault; meter = c.meter }

-- a code is spelled, and what follows is refused
pub record IsBehindCode (g : Setting) (bytes : List ℕ) (c : Config) (e : Failure) : Type 0 where
  pub rule : Rule
  pub code : List Bool
  pub more : List Bool
  pub stands : rest (spot_in bytes c) ≡ code ++ more
  pub told : SpellsCode (rules_of g c) (align_of g.options) rule code
  pub behind : IsPlanRefused bytes c.place (plan_of g c rule) (record c { place = c.place + length code }) e

abbrev pub IsRefused : Setting → List ℕ → Config → Failure → Type 0
IsRefused g bytes c e = IsNoCode g bytes c e ⊎ IsBehindCode g bytes c e

-- ---- the laws
-- a fault is one that is refused so
abbrev pub FaultIsRefused : Type 0
FaultIsRefused = (g : Setting) (bytes : List ℕ) (c : Config) (e : Failure) → IsSetting g → IsIn g bytes c → one g bytes c ≡ Err e → IsRefused g bytes c e

-- and what is refused so is that fault
abbrev pub RefusedIsFault : Type 0
RefusedIsFault = (g : Setting) (bytes : List ℕ) (c : Config) (e : Failure) → IsSetting g → IsIn g bytes c → IsRefused g bytes c e → one g bytes c ≡ Err e

-- one event is spelled here, no other, and none is refused
pub record HasOne (g : Setting) (bytes : List ℕ) (c : Config) : Type 0 where
  pub given : Given
  pub text : List Bool
  pub more : List Bool
  pub stands : rest (spot_in bytes c) ≡ text ++ more
  pub spelled : IsOne g c given text
  pub no_other : (other : Given) (words less : List Bool) → rest (spot_in bytes c) ≡ words ++ less → IsOne g c other words → other ≡ given
  pub no_fault : (e : Failure) → IsRefused g bytes c e → ⊥

-- one fault, no other, and no event is spelled
pub record HasRefusal (g : Setting) (bytes : List ℕ) (c : Config) : Type 0 where
  pub failure : Failure
  pub refused : IsRefused g bytes c failure
  pub no_other : (other : Failure) → IsRefused g bytes c other → other ≡ failure
  pub no_event : (given : Given) (text more : List Bool) → rest (spot_in bytes c) ≡ text ++ more → IsOne g c given text → ⊥

-- exactly one event is spelled, or exactly one fault is there
abbrev pub OneSpelledOrOneFault : Type 0
OneSpelledOrOneFault = (g : Setting) (bytes : List ℕ) (c : Config) → IsSetting g → IsIn g bytes c → HasOne g bytes c ⊎ HasRefusal g bytes c
