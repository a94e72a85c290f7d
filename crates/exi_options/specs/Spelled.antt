-- Which bits spell an options document, and what they tell (EXI 1.0, section 5.4 and appendix C): codes one behind the
-- other, each with the value that it stands for, from the document's start to its end. Options have many spellings: what is
-- as the defaults have it may be told too, an element that holds others may be empty, and xsi:nil may be false first.
use Rattle.std.specs.Prelude.{◌≡◌, ℕ, ◌+◌, ◌≤◌, List, [], ◌∷◌, ◌++◌, length, slice_get, Bool, Some, None}
use Rattle.exi_bits.specs.declared.align.Align.TheVariants as align
use Rattle.exi_gram.specs.declared.options.SchemaWord.TheVariants as schema
use Rattle.exi_bits.specs.Bits.{number_bits}
use Rattle.exi_bits.specs.Widths.{width_for}
use Rattle.exi_items.specs.Spellings.{Each, SpellsUnsigned}
use Rattle.exi_text.specs.Spelled.{SpellsChar}
use Rattle.exi_options.specs.declared.table.Sign.{Sign}
use Rattle.exi_options.specs.declared.table.Sign.TheVariants as sign
use Rattle.exi_options.specs.declared.table.State.{State}
use Rattle.exi_options.specs.declared.table.State.TheVariants as state
use Rattle.exi_options.specs.declared.told.Told.{Told}
use Rattle.exi_options.specs.Document.{Code, codes, flag}
use Rattle.exi_options.specs.Reading.{most_characters, switched, untold, with_block, with_capacity, with_most, with_schema, with_schema_bit}

-- the schema's name: the number of its characters and 2, and the characters
pub record SpellsName (name : List ℕ) (text : List Bool) : Type 0 where
  pub length_bits : List Bool
  pub characters : List Bool
  pub parts : text ≡ length_bits ++ characters
  pub few : length name ≤ most_characters
  pub counted : SpellsUnsigned (length name + 2) length_bits
  pub each : Each (SpellsChar None align.Bits) name characters

-- a number, and what is told with it
pub record TellsNumber (f : ℕ → Told) (u : Told) (text : List Bool) : Type 0 where
  pub number : ℕ
  pub spelled : SpellsUnsigned number text
  pub told : f number ≡ u

pub record TellsName (f : List ℕ → Told) (u : Told) (text : List Bool) : Type 0 where
  pub name : List ℕ
  pub spelled : SpellsName name text
  pub told : f name ≡ u

-- no bits, and what is told
abbrev pub TellsOnly : Told → Told → List Bool → Type 0
TellsOnly v u text = (v ≡ u) × (text ≡ [])

-- the bits behind a code, which began at that bit: with what was told before they tell this
unfoldable pub Tells : Sign → ℕ → Told → Told → List Bool → Type 0
Tells (sign.Opens e) bit t u text = TellsOnly t u text
Tells sign.Ends bit t u text = TellsOnly t u text
Tells (sign.Switch f) bit t u text = TellsOnly (switched f t) u text
Tells sign.Byte bit t u text = TellsOnly (switched (flag 8) t) u text
Tells sign.BlockSize bit t u text = TellsNumber (λ n. with_block n t) u text
Tells sign.ValueMaxLength bit t u text = TellsNumber (λ n. with_most n t) u text
Tells sign.ValuePartitionCapacity bit t u text = TellsNumber (λ n. with_capacity n t) u text
Tells sign.SchemaId bit t u text = TellsOnly (with_schema_bit bit t) u text
Tells sign.Text bit t u text = TellsName (λ name. with_schema (schema.Id name) t) u text
Tells sign.False bit t u text = TellsOnly t u text
Tells sign.True bit t u text = TellsOnly (with_schema schema.Nil t) u text
Tells (sign.Refused p) bit t u text = ⊥

-- the bits of a code of the state: its place in the list, in as many bits as the list needs
pub record IsCodeOf (st : State) (c : Code) (text : List Bool) : Type 0 where
  pub place : ℕ
  pub there : slice_get (codes st) place ≡ Some c
  pub bits : text ≡ number_bits (width_for (length (codes st))) place

-- a code of the state and its value, and behind them what this says
pub record Begins (Behind : ℕ → Told → List Bool → Type 0) (st : State) (bit : ℕ) (t : Told) (c : Code) (text : List Bool) : Type 0 where
  pub code : List Bool
  pub value : List Bool
  pub others : List Bool
  pub parts : text ≡ code ++ (value ++ others)
  pub told : Told
  pub stands : IsCodeOf st c code
  pub tells : Tells c.0 bit t told value
  pub behind : Behind (bit + length code + length value) told others

-- these codes, from a state and a bit on, up to the end of the document
unfoldable pub Spells : List Code → State → ℕ → Told → Told → List Bool → Type 0
Spells [] st bit t u text = (codes st ≡ []) × (t ≡ u) × (text ≡ [])
Spells (c ∷ cs) st bit t u text = Begins (λ b v others. Spells cs c.1 b v u others) st bit t c text

-- a document that begins at that bit tells this
pub record SpellsTold (bit : ℕ) (told : Told) (text : List Bool) : Type 0 where
  pub codes : List Code
  pub spelled : Spells codes state.Document bit untold told text
