-- What a complex type says itself, and of what it is derived.
use Rattle.std.specs.Prelude.{ℕ, Option, Some, None, List, [], slice_get}
use Rattle.xsd_model.specs.declared.parts.AttributeUse.{AttributeUse}
use Rattle.xsd_model.specs.declared.parts.TypeBody.{TypeBody}
use Rattle.xsd_model.specs.declared.parts.TypeBody.TheVariants as body
use Rattle.xsd_model.specs.declared.parts.TypeDef.{TypeDef}
use Rattle.xsd_model.specs.Parts.{Parts}

-- the base of the complex type at a place; other types have what they have by themselves
abbrev pub complex_base : Parts → ℕ → Option ℕ
complex_base p place = by_type (slice_get p.types place)
  where
    by_body : Option ℕ → TypeBody → Option ℕ
    by_body base (body.Simple form union) = None
    by_body base body.Ur = None
    by_body base (body.Complex complex) = base

    by_type : Option TypeDef → Option ℕ
    by_type None = None
    by_type (Some t) = by_body t.base t.body

-- its own attributes
abbrev pub own_uses : Parts → ℕ → List AttributeUse
own_uses p place = by_type (slice_get p.types place)
  where
    by_body : TypeBody → List AttributeUse
    by_body (body.Simple form union) = []
    by_body body.Ur = []
    by_body (body.Complex complex) = complex.uses

    by_type : Option TypeDef → List AttributeUse
    by_type None = []
    by_type (Some t) = by_body t.body
