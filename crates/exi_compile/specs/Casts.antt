-- Which types have named sub-types, found by marks that are left on the way up from each type of a name.
use Rattle.std.specs.Prelude.{ℕ, zero, suc, Bool, true, Option, Some, None, List, [], ◌∷◌, slice_get, get_or, if◌then◌else◌}
use Rattle.std.proofs.Math.ListN.{set}
use Rattle.xsd_model.specs.declared.parts.TypeDef.{TypeDef}
use Rattle.exi_compiled.specs.Compiled.{has_name, is_union}

abbrev pub base_of : List TypeDef → ℕ → Option ℕ
base_of types place = of_definition (slice_get types place)
  where
    of_definition : Option TypeDef → Option ℕ
    of_definition None = None
    of_definition (Some t) = t.base

-- marks of the types from one on up, as far as one that is marked or is not there
abbrev pub marked_up : ℕ → List TypeDef → Option ℕ → List Bool → List Bool
marked_up zero types up marks = marks
marked_up (suc n) types None marks = marks
marked_up (suc n) types (Some place) marks =
    if get_or marks place true then marks else marked_up n types (base_of types place) (set marks place true)

-- and from each of some types that has a name
abbrev pub all_marked : ℕ → List TypeDef → List TypeDef → List Bool → List Bool
all_marked n types [] marks = marks
all_marked n types (t ∷ ts) marks = all_marked n types ts (if has_name t then marked_up n types t.base marks else marks)

-- the unions are marked too
abbrev pub or_unions : List TypeDef → List Bool → List Bool
or_unions [] marks = marks
or_unions (t ∷ ts) [] = []
or_unions (t ∷ ts) (m ∷ ms) = (if is_union t then true else m) ∷ or_unions ts ms
