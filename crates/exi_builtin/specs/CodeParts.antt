-- The codes of productions, part by part.
use Rattle.std.specs.Prelude.{◌<◌, ℕ, Bool, List, [], ◌∷◌, ◌++◌}
use Rattle.exi_bits.specs.declared.align.Align.{Align}
use Rattle.exi_bits.specs.Bits.{number}
use Rattle.exi_bits.specs.Widths.{width_for}
use Rattle.exi_gram.specs.Codes.{Coded}
use Rattle.exi_gram.specs.declared.code.Code.{Code}
use Rattle.exi_gram.specs.declared.code.Code.TheVariants as code
use Rattle.exi_gram.specs.Tables.{parts_of}
use Rattle.exi_builtin.specs.declared.code_list.Front.{Front}
use Rattle.exi_builtin.specs.declared.code_list.Front.TheVariants as front
use Rattle.exi_builtin.specs.declared.learnable.Learnable.{Learnable}

-- a code with its production
abbrev pub coded_of : Code × Learnable → Coded Learnable
coded_of pair = record { parts = parts_of pair.0; item = pair.1 }

-- the parts before the next
abbrev pub parts_before : Front → List ℕ
parts_before front.Empty = []
parts_before (front.First first) = first ∷ []
parts_before (front.Second first second) = first ∷ second ∷ []

-- ---- a code whose parts have so many values
abbrev pub part_bits : Align → Code → ℕ → ℕ → ℕ → List Bool
part_bits a (code.One first) values seconds thirds = number (width_for values) a first
part_bits a (code.Two first second) values seconds thirds = number (width_for values) a first ++ number (width_for seconds) a second
part_bits a (code.Three first second third) values seconds thirds = number (width_for values) a first ++ (number (width_for seconds) a second ++ number (width_for thirds) a third)

-- each part is one of them
abbrev pub PartsFit : Code → ℕ → ℕ → ℕ → Type 0
PartsFit (code.One first) values seconds thirds = first < values
PartsFit (code.Two first second) values seconds thirds = (first < values) × (second < seconds)
PartsFit (code.Three first second third) values seconds thirds = (first < values) × (second < seconds) × (third < thirds)
