-- How spellings are put together.
use Rattle.std.specs.Prelude.{◌≡◌, ℕ, List, [], ◌∷◌, ◌++◌, Bool}
use Rattle.exi_bits.specs.Bits.{bits}
use Rattle.exi_bits.specs.Unsigned.{IsUnsigned}

-- the bits of octets that spell the number as an Unsigned Integer, of which the shortest is one
pub record SpellsUnsigned (v : ℕ) (text : List Bool) : Type 0 where
  pub octets : List ℕ
  pub unsigned : IsUnsigned octets v
  pub bits : text ≡ bits octets

-- a spelling of the first, and behind it one of the second
pub record Then (First Second : List Bool → Type 0) (text : List Bool) : Type 0 where
  pub first : List Bool
  pub second : List Bool
  pub parts : text ≡ first ++ second
  pub front : First first
  pub behind : Second second

-- a spelling of each, one behind the other
unfoldable pub Each : {X : Type 0} → (X → List Bool → Type 0) → List X → List Bool → Type 0
Each Spells [] text = text ≡ []
Each Spells (x ∷ xs) text = Then (Spells x) (Each Spells xs) text

-- a spelling of a value of which this one is made
pub record Made {X Y : Type 0} (f : X → Y) (Spells : X → List Bool → Type 0) (y : Y) (text : List Bool) : Type 0 where
  pub from : X
  pub is : f from ≡ y
  pub spelled : Spells from text
