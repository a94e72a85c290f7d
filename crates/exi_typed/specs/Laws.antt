-- The laws between how names and strings are spelled and how they are read, under the same tables and any meter.
use Rattle.std.specs.Prelude.{◌≡◌, Ok, List, [], ◌++◌, length, Bool}
use Rattle.exi_bits.specs.declared.align.Align.{Align}
use Rattle.exi_bits.specs.Bits.{Front, IsAligned, IsBytes, Spot, moved, rest}
use Rattle.exi_meter.specs.Metering.{Metering}
use Rattle.exi_tables.specs.Partitions.{Partitions}
use Rattle.exi_typed.specs.Charging.{Charge, IsTaken, charging, later}
use Rattle.exi_typed.specs.ReadStates.{ReadState, ContextReader, read_state}
use Rattle.exi_typed.specs.Spelled.{OneSpelling}

abbrev pub Spelling : Type 0 → Type 1
Spelling X = X → OneSpelling

-- what is read is spelled so, and its charges were taken in turn
abbrev pub ReadIsSpelled : {X : Type 0} → Align → Spelling X → ContextReader X → Type 0
ReadIsSpelled {X} a Spells read = (x : X) (c d : ReadState) → IsBytes c.spot.bytes → IsAligned a c.spot → read c ≡ Ok (x, d)
    → (text : List Bool) × (ks : List Charge) × Spells x c.context.tables d.context.tables ks text × IsTaken ks c.context.meter d.context.meter × Front c.spot text d.spot

-- what is spelled so is read, whatever follows, wherever the meter takes its charges in turn; and where it does not, the first
-- charge that passes is the limit's fault at its own bit
abbrev pub SpelledIsRead : {X : Type 0} → Align → Spelling X → ContextReader X → Type 0
SpelledIsRead {X} a Spells read = (x : X) (s : Spot) (p q : Partitions) (ks : List Charge) (text more : List Bool) → IsBytes s.bytes → IsAligned a s → Spells x p q ks text → rest s ≡ text ++ more
    → (m : Metering) → read (read_state s m p) ≡ charging (later s.place ks) m (Ok (x, (moved s (length text), q)))

-- under the same tables no spelling is a proper prefix of another, and each spells one text or name
abbrev pub NoneIsPrefix : {X : Type 0} → Spelling X → Type 0
NoneIsPrefix {X} Spells = (x y : X) (p q r : Partitions) (ks js : List Charge) (text other more : List Bool) → Spells x p q ks text → Spells y p r js other → text ≡ other ++ more → (x ≡ y) × (q ≡ r) × (more ≡ [])
