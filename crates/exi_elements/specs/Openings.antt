-- The first declarations that open grammars, kept by what makes declarations alike.
use Rattle.std.specs.Prelude.{◌≡◌, ℕ, suc, ◌==◌, ◌&&◌, Bool, Option, Some, None, List, [], ◌∷◌, bytes_eq, if◌then◌else◌}
use mathlib.Core.Bool.{beq}
use Rattle.std.specs.Map.{lookup}
use Rattle.xsd_model.specs.declared.parts.ElementDecl.{ElementDecl}
use Rattle.exi_elements.specs.declared.opening.Opening.{Opening}
use Rattle.exi_elements.specs.StandIns.{same_flag}

abbrev pub same_opening : Opening → Opening → Bool
same_opening a b = bytes_eq a.local.now b.local.now && (bytes_eq a.uri.now b.uri.now && ((a.of == b.of) && beq a.nillable b.nillable))

-- whether an element has what is kept
abbrev pub opens : Opening → ElementDecl → Bool
opens k e = bytes_eq k.local.now e.name.local && (bytes_eq k.uri.now e.name.uri && (k.of == e.of && same_flag k.nillable e.nillable))

-- the place of the first that passes, from this place on
abbrev pub first_from : ℕ → (ElementDecl → Bool) → List ElementDecl → Option ℕ
first_from place test [] = None
first_from place test (e ∷ es) = if test e then Some place else first_from (suc place) test es

abbrev pub or_place : ℕ → Option ℕ → ℕ
or_place place None = place
or_place place (Some first) = first

-- what an element has
pub record IsOpening (k : Opening) (e : ElementDecl) : Type 0 where
  pub local : k.local.now ≡ e.name.local
  pub uri : k.uri.now ≡ e.name.uri
  pub of : k.of ≡ e.of
  pub nillable : k.nillable ≡ e.nillable

-- of each that is kept, the first of these elements that has it
abbrev pub AreFirsts : List (Opening × ℕ) → List ElementDecl → Type 0
AreFirsts kept es = (k : Opening) → lookup (same_opening k) kept ≡ first_from 0 (opens k) es
