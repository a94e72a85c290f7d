-- One event by what is spelled (EXI 1.0, sections 6, 7.1 and 8.4): the bits of a production's code and behind them
-- those of its content, what is charged, and the next configuration. It speaks of the place in the bits alone, so that
-- it is the same for what is read and for what is written; and it says the same as the reading of one event, which the
-- laws show.
use Rattle.std.specs.Prelude.{◌≡◌, ℕ, ◌+◌, ◌*◌, ◌/◌, ◌≤◌, Bool, true, false, List, [], ◌++◌, length, None, Ok}
use Rattle.exi_bits.specs.Bits.{Front, IsAligned, IsBytes, rest}
use Rattle.exi_gram.specs.Laws.{SpellsCode}
use Rattle.exi_gram.specs.Switches.{align_of}
use Rattle.exi_meter.specs.Metering.{Metering, event_fits, level_fits, with_event, with_level}
use Rattle.exi_typed.specs.Charging.{Charge, IsTaken}
use Rattle.exi_typed.specs.ReadStates.{Context}
use Rattle.exi_processing.specs.Configurations.{Config, IsSetting, Setting, rules_of, spot_in}
use Rattle.exi_processing.specs.OneEvent.{one, remembered}
use Rattle.exi_processing.specs.Plans.{Given, Plan, plan_of}
use Rattle.exi_processing.specs.Rules.{Rule}

-- ---- charges
abbrev pub counted_by : Bool → Metering → Metering
counted_by true m = with_event m
counted_by false m = m

abbrev pub entered_by : Bool → Metering → Metering
entered_by true m = with_level m
entered_by false m = m

-- nothing is refused as it stands, and what is charged before the content fits
pub record IsCharged (p : Plan) (m n : Metering) : Type 0 where
  pub free : p.barred ≡ None
  pub counted : p.counted ≡ true → event_fits m ≡ true
  pub placed : p.misplaced ≡ None
  pub entered : p.entered ≡ true → level_fits (counted_by p.counted m) ≡ true
  pub after : n ≡ entered_by p.entered (counted_by p.counted m)

-- ---- what stands behind the code
-- bits up to the next whole byte, where they are left out
abbrev pub IsPadding : Bool → ℕ → List Bool → Type 0
IsPadding false place text = text ≡ []
IsPadding true place text = place + length text ≡ (place + 7) / 8 * 8

-- so many bits further on, with this meter and these tables
abbrev pub further : Config → ℕ → Context → Config
further c bits b = record c { place = c.place + bits; meter = b.meter; tables = b.tables }

pub record IsFollowed (p : Plan) (c : Config) (given : Given) (text : List Bool) : Type 0 where
  pub meter : Metering
  pub charged : IsCharged p c.meter meter
  pub item : p.Item
  pub content : List Bool
  pub padding : List Bool
  pub parts : text ≡ content ++ padding
  pub after : Context
  pub charges : List Charge
  pub spelled : p.Spells item c.tables after.tables charges content
  pub taken : IsTaken charges meter after.meter
  pub free : p.refused item ≡ None
  pub padded : IsPadding p.padded (c.place + length content) padding
  pub is : given ≡ remembered (p.make item (further c (length text) after))

-- ---- one event
-- the code of a production of the state, and what its plan has behind it
pub record IsOne (g : Setting) (c : Config) (given : Given) (text : List Bool) : Type 0 where
  pub rule : Rule
  pub code : List Bool
  pub content : List Bool
  pub parts : text ≡ code ++ content
  pub told : SpellsCode (rules_of g c) (align_of g.options) rule code
  pub followed : IsFollowed (plan_of g c rule) (record c { place = c.place + length code }) given content

-- ---- the laws
-- the configuration stands in these bytes
pub record IsIn (g : Setting) (bytes : List ℕ) (c : Config) : Type 0 where
  pub octets : IsBytes bytes
  pub within : c.place ≤ 8 * length bytes
  pub aligned : IsAligned (align_of g.options) (spot_in bytes c)

-- what is read is one event that is spelled so, and the next configuration stands in the same bytes behind it
abbrev pub OneIsSpelled : Type 0
OneIsSpelled = (g : Setting) (bytes : List ℕ) (c : Config) (given : Given) → IsSetting g → IsIn g bytes c → one g bytes c ≡ Ok given → (text : List Bool) × IsOne g c given text × Front (spot_in bytes c) text (spot_in bytes given.1) × IsIn g bytes given.1

-- one event that is spelled so is read, whatever the bytes are that have it at the place
abbrev pub SpelledIsOne : Type 0
SpelledIsOne = (g : Setting) (bytes : List ℕ) (c : Config) (given : Given) (text more : List Bool) → IsSetting g → IsIn g bytes c → IsOne g c given text → rest (spot_in bytes c) ≡ text ++ more → one g bytes c ≡ Ok given

-- at a place at most one event is spelled: two are the same, in the same bits
abbrev pub OneAtMost : Type 0
OneAtMost = (g : Setting) (bytes : List ℕ) (c : Config) (given other : Given) (text words more less : List Bool) → IsSetting g → IsIn g bytes c → IsOne g c given text → IsOne g c other words → rest (spot_in bytes c) ≡ text ++ more → rest (spot_in bytes c) ≡ words ++ less → (given ≡ other) × (text ≡ words)
