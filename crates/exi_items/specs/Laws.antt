-- The laws between how values are spelled and how they are read.
use Rattle.std.specs.Prelude.{◌≡◌, Ok, Bool, List, [], ◌++◌, length}
use Rattle.exi_bits.specs.declared.align.Align.{Align}
use Rattle.exi_bits.specs.Bits.{Spot, Front, IsAligned, IsBytes, moved, rest}
use Rattle.exi_bits.specs.Repeat.{Reader}

-- what is read is spelled so
abbrev pub ReadIsSpelled : {X : Type 0} → (Align → X → List Bool → Type 0) → (Align → Reader X) → Type 0
ReadIsSpelled {X} Spells read = (a : Align) (x : X) (s t : Spot) → IsBytes s.bytes → IsAligned a s → read a s ≡ Ok (x, t) → (text : List Bool) × Spells a x text × Front s text t

-- what is spelled so is read, whatever follows
abbrev pub SpelledIsRead : {X : Type 0} → (Align → X → List Bool → Type 0) → (Align → Reader X) → Type 0
SpelledIsRead {X} Spells read = (a : Align) (x : X) (text : List Bool) (s : Spot) (more : List Bool) → IsBytes s.bytes → IsAligned a s → Spells a x text → rest s ≡ text ++ more → read a s ≡ Ok (x, moved s (length text))

-- no spelling is a proper prefix of another, and each spells one value
abbrev pub NoneIsPrefix : {X : Type 0} → (Align → X → List Bool → Type 0) → Type 0
NoneIsPrefix {X} Spells = (a : Align) (x y : X) (text other more : List Bool) → Spells a x text → Spells a y other → text ≡ other ++ more → (x ≡ y) × (more ≡ [])
