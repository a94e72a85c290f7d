-- What a schema document makes known: its components, and the grammars that they become; or its first fault.
use Rattle.std.specs.Prelude.{◌≡◌, ℕ, suc, Result, Ok, Err, List, [], ◌∷◌, map}
use Rattle.exi_names.specs.Datatypes.{Representation, text}
use Rattle.exi_names.specs.Events.{Happening}
use Rattle.exi_gram.specs.Outlines.{Outline}
use Rattle.xsd_model.specs.declared.fault.SchemaFault.{SchemaFault}
use Rattle.xsd_model.specs.declared.parts.TypeBody.{TypeBody}
use Rattle.xsd_model.specs.declared.parts.TypeBody.TheVariants as body
use Rattle.xsd_model.specs.declared.parts.TypeDef.{TypeDef}
use Rattle.xsd_model.specs.Parts.{IsSchemaParts, Parts}
use Rattle.xsd_schema.specs.Words.{as_told}
use Rattle.xsd_schema.specs.Words.{Declared}
use Rattle.xsd_schema.specs.Words.{components_of}
use Rattle.xsd_schema.specs.Words.{Body, TypeSeen, complex, simple, ur}
use Rattle.exi_compiled.specs.Compiled.{compiled}

-- ---- what a document declares, as the parts of a schema in which each type has a form of its own, at the type's place
abbrev pub form_told : TypeSeen → Representation
form_told t = by_body t.body
  where
    by_body : Body → Representation
    by_body (simple representation union) = representation
    by_body (complex c) = text
    by_body ur = text

abbrev pub body_told : ℕ → Body → TypeBody
body_told place (simple representation union) = body.Simple place union
body_told place (complex c) = body.Complex c
body_told place ur = body.Ur

abbrev pub types_told : ℕ → List TypeSeen → List TypeDef
types_told place [] = []
types_told place (t ∷ ts) = record { name = t.name; base = t.base; body = body_told place t.body; event = t.event } ∷ types_told (suc place) ts

abbrev pub parts_told : Declared → Parts
parts_told d = record {
  target = d.target;
  elements = d.elements;
  attributes = d.attributes;
  types = types_told 0 d.types;
  groups = d.groups;
  attribute_groups = d.attribute_groups;
  particles = d.particles;
  forms = map form_told d.types;
}

-- ---- what is known
pub record Known : Type 0 where
  pub declared : Declared
  pub schema : Outline

abbrev pub with_schema : Declared → Result Outline SchemaFault → Result Known SchemaFault
with_schema d (Ok schema) = Ok (record { declared = d; schema = schema })
with_schema d (Err fault) = Err fault

abbrev pub known_by : Result Declared SchemaFault → Result Known SchemaFault
known_by (Ok d) = with_schema d (compiled (parts_told d))
known_by (Err fault) = Err fault

-- of the events of a document
abbrev pub known_of : List Happening → Result Known SchemaFault
known_of es = known_by (components_of es)

-- ---- where it lies how values are represented makes no difference
abbrev pub CompiledIsTold : Type 0
CompiledIsTold = (p : Parts) → IsSchemaParts p → compiled p ≡ compiled (parts_told (as_told p))
