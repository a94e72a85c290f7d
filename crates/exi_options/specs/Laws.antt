-- The laws between options, how they are spelled and how they are read.
use Rattle.std.specs.Prelude.{◌≡◌, ◌<◌, ◌^◌, ℕ, Bool, false, List, [], ◌++◌, length, Ok, IfSome}
use Rattle.exi_bits.specs.Bits.{Front, IsBytes, Spot, moved, rest}
use Rattle.exi_gram.specs.declared.options.Options.{Options}
use Rattle.exi_gram.specs.Switches.{conflicts}
use Rattle.exi_options.specs.declared.told.Told.{Told}
use Rattle.exi_options.specs.Reading.{options_at}
use Rattle.exi_options.specs.Spelled.{SpellsTold}
use Rattle.exi_options.specs.Writing.{IsNamable, options_bits}

-- what is read is spelled so, and excludes nothing that it tells
abbrev pub ReadIsSpelled : Type 0
ReadIsSpelled = (told : Told) (s t : Spot) → IsBytes s.bytes → options_at s ≡ Ok (told, t) → (text : List Bool) × SpellsTold s.place told text × (conflicts told.options ≡ false) × Front s text t

-- what is spelled so is read, whatever follows
abbrev pub SpelledIsRead : Type 0
SpelledIsRead = (told : Told) (text : List Bool) (s : Spot) (more : List Bool) → IsBytes s.bytes → SpellsTold s.place told text → conflicts told.options ≡ false → rest s ≡ text ++ more → options_at s ≡ Ok (told, moved s (length text))

-- no spelling is a proper prefix of another, and each tells one thing
abbrev pub NoneIsPrefix : Type 0
NoneIsPrefix = (bit : ℕ) (told other : Told) (text shorter more : List Bool) → SpellsTold bit told text → SpellsTold bit other shorter → text ≡ shorter ++ more → (told ≡ other) × (more ≡ [])

-- options whose document can be written: as the codec keeps them, and with a name that can be told
pub record IsTellable (o : Options) : Type 0 where
  pub flags : o.flags.0 < 256
  pub block : o.block < 2 ^ 128
  pub most : IfSome o.most (λ n. n < 2 ^ 128)
  pub capacity : IfSome o.capacity (λ n. n < 2 ^ 128)
  pub name : IsNamable o.schema

-- what is written of options tells them
abbrev pub WrittenIsSpelled : Type 0
WrittenIsSpelled = (o : Options) (bit : ℕ) → IsTellable o → (told : Told) × SpellsTold bit told (options_bits o) × (told.options ≡ o)

-- and is read as them, whatever follows, where they exclude nothing
abbrev pub WrittenIsRead : Type 0
WrittenIsRead = (o : Options) (s : Spot) (more : List Bool) → IsTellable o → conflicts o ≡ false → IsBytes s.bytes → rest s ≡ options_bits o ++ more → (told : Told) × (options_at s ≡ Ok (told, moved s (length (options_bits o)))) × (told.options ≡ o)
