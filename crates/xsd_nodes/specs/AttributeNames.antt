-- The attributes of a schema document that have a meaning here (XML Schema 1.0 Part 1, section 3).
use Rattle.std.specs.Prelude.{ℕ, List, codes}
use Rattle.xsd_nodes.specs.declared.attribute_name.AttributeName.{AttributeName}
use Rattle.xsd_nodes.specs.declared.attribute_name.AttributeName.TheVariants as attribute

abbrev pub attribute_word : AttributeName → List ℕ
attribute_word attribute.Name = codes "name"
attribute_word attribute.Ref = codes "ref"
attribute_word attribute.Type = codes "type"
attribute_word attribute.Base = codes "base"
attribute_word attribute.ItemType = codes "itemType"
attribute_word attribute.MemberTypes = codes "memberTypes"
attribute_word attribute.Value = codes "value"
attribute_word attribute.SubstitutionGroup = codes "substitutionGroup"
attribute_word attribute.TargetNamespace = codes "targetNamespace"
attribute_word attribute.MinOccurs = codes "minOccurs"
attribute_word attribute.MaxOccurs = codes "maxOccurs"
attribute_word attribute.Mixed = codes "mixed"
attribute_word attribute.Use = codes "use"
attribute_word attribute.Nillable = codes "nillable"
attribute_word attribute.Namespace = codes "namespace"
attribute_word attribute.Form = codes "form"
attribute_word attribute.ElementFormDefault = codes "elementFormDefault"
attribute_word attribute.AttributeFormDefault = codes "attributeFormDefault"
