-- How many components of a schema have names that the whole schema knows (XML Schema 1.0 Part 1, section 2.2).
use Rattle.std.specs.Prelude.{ℕ, Bool, List, drop, filter, is_some, length}
use Rattle.xsd_model.specs.declared.parts.AttributeDecl.{AttributeDecl}
use Rattle.xsd_model.specs.declared.parts.ElementDecl.{ElementDecl}
use Rattle.xsd_model.specs.declared.parts.TypeDef.{TypeDef}
use Rattle.xsd_known.specs.Words.{Declared}
use Rattle.xsd_known.specs.Words.{TypeSeen}

-- the elements, and the attributes, that stand directly in the schema
abbrev pub is_global_element : ElementDecl → Bool
is_global_element e = e.global

abbrev pub elements_counted : Declared → ℕ
elements_counted d = length (filter is_global_element d.elements)

abbrev pub is_global_attribute : AttributeDecl → Bool
is_global_attribute a = a.global

abbrev pub attributes_counted : Declared → ℕ
attributes_counted d = length (filter is_global_attribute d.attributes)

-- the types that have a name, behind the 46 built-in ones
abbrev pub is_named : TypeSeen → Bool
is_named t = is_some t.name

abbrev pub has_name : TypeDef → Bool
has_name t = is_some t.name

abbrev pub types_counted : Declared → ℕ
types_counted d = length (filter is_named (drop 46 d.types))
