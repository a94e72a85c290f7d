-- How a reader takes what came of a fragment that was read by itself: in its own words.
use Rattle.std.specs.Prelude.{◌≡◌, ◌<◌, ◌≤◌, ◌*◌, ℕ, true, List, length}
use Rattle.exi_bits.specs.Bits.{IsAligned}
use Rattle.exi_gram.specs.Switches.{align_of}
use Rattle.exi_tables.specs.Partitions.{IsName}
use Rattle.exi_processing.specs.Changes.{innermost, put_aside}
use Rattle.exi_processing.specs.Configurations.{Setting}
use Rattle.exi_processing.specs.Handing.{Standing}
use Rattle.exi_processing.specs.Splices.{Spliced, ended, fits, on, spliced, tally_of, wrong_root}
use Rattle.exi_processing.specs.declared.end.End.{End}
use Rattle.exi_processing.specs.declared.end.End.TheVariants as end
use Rattle.exi_processing.specs.declared.spliced.Spliced.{Spliced as Joined}
use Rattle.exi_processing.specs.declared.spliced.Spliced.TheVariants as joined

-- the bit behind the fragment is one of the input, at which reading may go on
abbrev pub IsPlaceBehind : Setting → List ℕ → End → Type 0
IsPlaceBehind g bytes (end.Done bit tally root) = (bit ≤ 8 * length bytes) × IsAligned (align_of g.options) (record { bytes = bytes; place = bit })
IsPlaceBehind g bytes (end.Fault fault tally root) = Unit {0}

-- what is done then can be done
abbrev pub CanJoin : Standing → End → Spliced → Type 0
CanJoin s e (on next) = IsPlaceBehind s.setting s.bytes e
CanJoin s e (ended other) = Unit {0}
CanJoin s e (wrong_root other) = (tally_of other).text ≤ s.config.meter.limits.text

-- the fragment is not entered: the body is to be put aside
pub record CanSplice (s : Standing) (e : End) : Type 0 where
  pub name : IsName s.config.tables (innermost s.config.elements)
  pub fitting : fits s.config e ≡ true
  pub level : 0 < s.config.meter.level
  pub join : CanJoin s e (spliced (put_aside s.setting s.config) e)

-- what is answered, and where the reader stands then
abbrev pub JoinedAs : Joined → Standing → Spliced → Type 0
JoinedAs joined.On new r = r ≡ on new.config
JoinedAs (joined.Ended e) new r = r ≡ ended e
JoinedAs (joined.WrongRoot e) new r = r ≡ wrong_root e
