-- The content of a type with what it has of its bases (XML Schema 1.0 Part 1, section 3.4.2).
use Rattle.std.specs.Prelude.{ℕ, zero, suc, Bool, true, false, Option, Some, None, List, [], ◌++◌, length, slice_get, option_to_list}
use Rattle.xsd_model.specs.declared.parts.Content.{Content}
use Rattle.xsd_model.specs.declared.parts.Content.TheVariants as content
use Rattle.xsd_model.specs.declared.parts.Derivation.{Derivation}
use Rattle.xsd_model.specs.declared.parts.Derivation.TheVariants as derivation
use Rattle.xsd_model.specs.declared.parts.TypeBody.{TypeBody}
use Rattle.xsd_model.specs.declared.parts.TypeBody.TheVariants as body
use Rattle.xsd_model.specs.declared.parts.TypeDef.{TypeDef}
use Rattle.xsd_model.specs.Parts.{Parts}
use Rattle.exi_inherited.specs.Bases.{complex_base}

pub data Whole : Type 0 where
  -- a value of the simple type at this place
  value : ℕ → Whole
  -- elements: whether any may stand in front, as in xs:anyType; then one after another the particles at these places; and
  -- whether text may stand among them
  elements : Bool → List ℕ → Bool → Whole

abbrev pub no_content : Whole
no_content = elements false [] false

-- an extension's own particles stand behind those of its base
abbrev pub extended : Whole → Option ℕ → Bool → Whole
extended (value place) particle mixed = elements false (option_to_list particle) mixed
extended (elements any particles was_mixed) particle mixed = elements any (particles ++ option_to_list particle) mixed

-- by how a type is derived, from what its base has
abbrev pub derived_content : Derivation → Content → Whole → Whole
derived_content derivation.Extension content.Empty base = base
derived_content derivation.Extension (content.Simple place) base = value place
derived_content derivation.Extension (content.Parts particle mixed) base = extended base particle mixed
derived_content derivation.Restriction content.Empty base = no_content
derived_content derivation.Restriction (content.Simple place) base = value place
derived_content derivation.Restriction (content.Parts particle mixed) base = elements false (option_to_list particle) mixed

-- of the type at a place, by that of its base
abbrev pub own_content : Parts → ℕ → Whole → Whole
own_content p place base = by_type (slice_get p.types place)
  where
    by_body : TypeBody → Whole
    by_body (body.Simple form union) = value place
    by_body body.Ur = elements true [] true
    by_body (body.Complex complex) = derived_content complex.derivation complex.content base

    by_type : Option TypeDef → Whole
    by_type None = no_content
    by_type (Some t) = by_body t.body

abbrev pub based_on : (ℕ → Whole) → Option ℕ → Whole
based_on within None = no_content
based_on within (Some base) = within base

-- of the type at a place, with its bases so many steps up
abbrev pub content_within : ℕ → Parts → ℕ → Whole
content_within zero p place = no_content
content_within (suc n) p place = own_content p place (based_on (content_within n p) (complex_base p place))

-- a type has fewer bases than there are types
abbrev pub content_of : Parts → ℕ → Whole
content_of p place = content_within (suc (length p.types)) p place
