-- The characters of an alphabet, where their places are looked up.
use Rattle.std.specs.Prelude.{ℕ, List}
use Rattle.exi_names.specs.declared.letters.Places.{Places}
use Rattle.exi_names.specs.declared.letters.Places.TheVariants as places

-- bytes of ASCII are characters as they are
abbrev pub characters : Places → List ℕ
characters (places.Ascii bytes) = bytes.now
characters (places.Decoded chars) = chars.items
