-- What becomes of a reader that stands at a self-contained fragment, where that fragment was read apart (EXI 1.0,
-- section 8.4.3).
use Rattle.std.specs.Prelude.{◌≡◌, ℕ, ◌+◌, ◌*◌, ◌≤◌, ◌&&◌, Bool, true, false, List, [], ◌∷◌, length, Option, Some, None, if◌then◌else◌}
use Rattle.exi_bits.specs.declared.fault.Kind.{Kind}
use Rattle.exi_bits.specs.declared.fault.Kind.TheVariants as kind
use Rattle.exi_builtin.specs.Learning.{nothing_learned}
use Rattle.exi_gram.specs.Switches.{prefixes}
use Rattle.exi_bits.specs.Bits.{IsBytes}
use Rattle.exi_meter.specs.Metering.{Bounds, tally_fits, with_tally, with_text}
use Rattle.exi_meter.specs.declared.tally.Tally.{Tally}
use Rattle.exi_names.specs.declared.names.QName.{QName}
use Rattle.exi_names.specs.Events.{Happening}
use Rattle.exi_names.specs.Events as event
use Rattle.exi_names.specs.StartTables.{IsStart}
use Rattle.exi_processing.specs.Changes.{resumed}
use Rattle.exi_processing.specs.Configurations.{Body, Config, IsSetting, Setting, first_tables}
use Rattle.exi_processing.specs.Runs.{IsRun, IsSequence, Job, Leads, events_of, first, goes, is_end, turn}
use Rattle.exi_gram.specs.Globals.{same_texts}
use Rattle.exi_processing.specs.declared.end.End.{End}
use Rattle.exi_processing.specs.declared.end.End.TheVariants as end
use Rattle.exi_processing.specs.declared.frames.Outer.TheVariants as outer
use Rattle.exi_processing.specs.declared.start.Start.{Start}
use Rattle.exi_processing.specs.declared.start.Start.TheVariants as start

abbrev pub tally_of : End → Tally
tally_of (end.Done bit tally root) = tally
tally_of (end.Fault fault tally root) = tally

abbrev pub root_of : End → Option QName
root_of (end.Done bit tally root) = root
root_of (end.Fault fault tally root) = root

abbrev pub is_limit : Kind → Bool
is_limit kind.EventLimit = true
is_limit kind.TextLimit = true
is_limit kind.DepthLimit = true
is_limit kind.NoExi = false
is_limit kind.Version = false
is_limit (kind.Unsupported part) = false
is_limit kind.Conflict = false
is_limit kind.WrongSchema = false
is_limit kind.Short = false
is_limit kind.TooWide = false
is_limit kind.BadFloat = false
is_limit kind.BadChar = false
is_limit kind.BadMoment = false
is_limit kind.BadPlace = false
is_limit kind.ListTooLong = false
is_limit kind.NoCode = false
is_limit kind.BadType = false
is_limit kind.ScPlace = false
is_limit kind.ScRoot = false
is_limit kind.ScNotOne = false
is_limit kind.TrailingBytes = false

abbrev pub ends_by_limit : End → Bool
ends_by_limit (end.Done bit tally root) = false
ends_by_limit (end.Fault fault tally root) = is_limit fault.kind

-- whether the outcome of the fragment may be taken: its end is no limit, and its tally fits
abbrev pub fits : Config → End → Bool
fits c e = (if ends_by_limit e then false else true) && tally_fits c.meter (tally_of e)

-- the reader goes on; or it ends as the fragment did; or the fragment is that of another element
pub data Spliced : Type 0 where
  on : Config → Spliced
  ended : End → Spliced
  wrong_root : End → Spliced

abbrev pub on_behind : Config → End → Spliced
on_behind c (end.Done bit tally root) = on (resumed c.aside (record c { place = bit; meter = with_tally c.meter tally; after_start = false }))
on_behind c (end.Fault fault tally root) = ended (end.Fault fault (with_tally c.meter tally).used c.root)

abbrev pub other_root : Config → QName → End
other_root c name = end.Fault (record { kind = kind.ScRoot; bit = c.place }) (with_text c.meter (length name.uri + length name.local)).used c.root

abbrev pub with_root : List Body → Config → End → Option QName → Spliced
with_root [] c e root = on_behind c e
with_root (b ∷ bs) c e None = on_behind c e
with_root (b ∷ bs) c e (Some name) = if same_texts b.name name then on_behind c e else wrong_root (other_root c name)

-- a configuration at the start of a fragment, and the outcome of the fragment read apart
abbrev pub spliced : Config → End → Spliced
spliced c e = with_root c.aside c e (root_of e)

-- ---- the law of it
-- directly behind SC: the fragment begins at this byte, in an element that is open in the body that was put aside
pub record AtFragment (g : Setting) (byte : ℕ) (c : Config) : Type 0 where
  pub place : c.place ≡ 8 * byte
  pub tables : c.tables ≡ first_tables g
  pub elements : c.elements ≡ []
  pub outer_is : c.outer ≡ outer.AloneStart
  pub learned : c.learned ≡ nothing_learned
  pub after_start : c.after_start ≡ false
  pub body : Body
  pub bodies : List Body
  pub aside : c.aside ≡ body ∷ bodies
  pub going : is_end body.outer ≡ false
  -- where elements may be self-contained, no prefixes are kept
  pub no_prefixes : prefixes g.options ≡ false
  -- the deepest level counts the open elements
  pub deepest : c.meter.level ≤ c.meter.used.deepest

-- what comes of the fragment that begins at a byte, read by itself under limits of its own: its events and its end. The
-- rest of the body is of no account
pub record IsFragmentOutcome (j : Job) (byte : ℕ) (limits : Bounds) (es : List Happening) (e : End) : Type 0 where
  pub count : ℕ
  pub sequence : IsSequence j (start.Fragment byte) limits es e count

-- a turn that gives SC, of a configuration to which turns lead from where reading began, leads to its fragment
abbrev pub ScLeadsToFragment : Type 0
ScLeadsToFragment = (j : Job) (s : Start) (limits : Bounds) (turns : List (Option Happening)) (c next : Config) (byte : ℕ) → IsSetting j.setting → IsStart j.setting.schema.names → Leads j.setting j.bytes (first j s limits) turns c → turn j.setting j.bytes c ≡ goes (Some (event.sc byte)) next → AtFragment j.setting byte next

-- turns lead on to the configuration, or to the end; with the fragment's events, or with none
abbrev pub GoesAs : Setting → List ℕ → Config → List Happening → Spliced → Type 0
GoesAs g bytes c es (on next) = (turns : List (Option Happening)) × Leads g bytes c turns next × (events_of turns ≡ es)
GoesAs g bytes c es (ended e) = (turns : List (Option Happening)) × IsRun g bytes c turns e × (events_of turns ≡ es)
GoesAs g bytes c es (wrong_root e) = (turns : List (Option Happening)) × IsRun g bytes c turns e × (events_of turns ≡ [])

-- the outcome of the fragment, read by itself under any limits, may be taken where it fits: sequential processing goes on so
abbrev pub SplicesAreRuns : Type 0
SplicesAreRuns = (j : Job) (byte : ℕ) (c : Config) (limits : Bounds) (es : List Happening) (e : End) (count : ℕ) → IsBytes j.bytes → IsSetting j.setting → IsStart j.setting.schema.names → AtFragment j.setting byte c → IsSequence j (start.Fragment byte) limits es e count → fits c e ≡ true → GoesAs j.setting j.bytes c es (spliced c e)
