-- The laws between the spellings and the reading.
use Rattle.std.specs.Prelude.{◌≡◌, IsTrue, Ok, Bool, List, [], ◌++◌, length, IfSome, ◌<◌, ◌^◌}
use Rattle.exi_bits.specs.declared.align.Align.{Align}
use Rattle.exi_bits.specs.Bits.{Spot, Front, IsAligned, IsBytes, bits, moved, rest}
use Rattle.exi_names.specs.declared.moment.Moment.{Moment}
use Rattle.exi_names.specs.declared.moment.MomentKind.{MomentKind}
use Rattle.exi_names.specs.Moments.{IsMoment, is_year}
use Rattle.exi_moment.specs.Spelling.{Spells, spelling}
use Rattle.exi_moment.specs.Reading.{moment_at}

-- what is read is spelled so, is of the kind, and has its fields in their ranges
pub record ReadMoment (k : MomentKind) (a : Align) (s t : Spot) (m : Moment) : Type 0 where
  pub kind_is : m.kind ≡ k
  pub ranges : IsMoment m
  pub year : IsTrue (is_year m.year)
  pub text : List Bool
  pub spells : Spells a m text
  pub front : Front s text t

abbrev pub MomentIsSpelled : Type 0
MomentIsSpelled = (k : MomentKind) (a : Align) (m : Moment) (s t : Spot) → IsBytes s.bytes → IsAligned a s → moment_at k a s ≡ Ok (m, t) → ReadMoment k a s t m

-- what is spelled so is read, whatever follows
abbrev pub MomentIsRead : Type 0
MomentIsRead = (m : Moment) (a : Align) (s : Spot) (text more : List Bool) → IsMoment m → IsTrue (is_year m.year) → IsBytes s.bytes → IsAligned a s → Spells a m text → rest s ≡ text ++ more → moment_at m.kind a s ≡ Ok (m, moved s (length text))

-- no spelling is a proper prefix of another of the same kind, and each spells one moment
abbrev pub MomentIsNoPrefix : Type 0
MomentIsNoPrefix = (m other : Moment) (a : Align) (text prefix more : List Bool) → IsMoment m → IsTrue (is_year m.year) → IsMoment other → IsTrue (is_year other.year) → m.kind ≡ other.kind → Spells a m text → Spells a other prefix → text ≡ prefix ++ more → (m ≡ other) × (more ≡ [])

-- what is written is a spelling
abbrev pub WrittenIsSpelled : Type 0
WrittenIsSpelled = (m : Moment) (a : Align) → IsTrue (is_year m.year) → IfSome m.fraction (λ digits. digits < 2 ^ 128) → Spells a m (spelling a m)

-- what was added behind some bits is read there, whatever follows
abbrev pub WrittenIsRead : Type 0
WrittenIsRead = (m : Moment) (a : Align) (s : Spot) (before more : List Bool) → IsMoment m → IsTrue (is_year m.year) → IfSome m.fraction (λ digits. digits < 2 ^ 128) → IsBytes s.bytes → IsAligned a s → bits s.bytes ≡ before ++ spelling a m ++ more → s.place ≡ length before → moment_at m.kind a s ≡ Ok (m, moved s (length (spelling a m)))
