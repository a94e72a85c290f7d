-- What types are, without where it lies how their values are represented.
use Rattle.std.specs.Prelude.{ℕ, Bool, Option, List, get_or}
use Rattle.exi_names.specs.Datatypes.{Representation, text}
use Rattle.exi_names.specs.declared.names.QName.{QName}
use Rattle.xsd_model.specs.declared.parts.Complex.{Complex}
use Rattle.xsd_model.specs.declared.parts.TypeBody.{TypeBody}
use Rattle.xsd_model.specs.declared.parts.TypeBody.TheVariants as body
use Rattle.xsd_model.specs.declared.parts.TypeDef.{TypeDef}

pub data Body : Type 0 where
  -- how its values are represented, and whether it is a union
  simple : Representation → Bool → Body
  complex : Complex → Body
  -- `xs:anyType`
  ur : Body

pub record TypeSeen : Type 0 where
  pub name : Option QName
  pub base : Option ℕ
  pub body : Body
  pub event : ℕ

abbrev pub body_seen : List Representation → TypeBody → Body
body_seen forms (body.Simple form union) = simple (get_or forms form text) union
body_seen forms (body.Complex c) = complex c
body_seen forms body.Ur = ur

abbrev pub type_seen : List Representation → TypeDef → TypeSeen
type_seen forms t = record { name = t.name; base = t.base; body = body_seen forms t.body; event = t.event }
