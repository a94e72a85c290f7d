-- The elements and attributes that a schema document declares, each read from its element by search (XML Schema 1.0 Part 1,
-- sections 3.2, 3.3 and 3.6).
use Rattle.std.specs.Prelude.{ℕ, zero, suc, ◌+◌, Bool, ◌||◌, codes, Option, Some, None, option_map, List, [], ◌∷◌, length, map, slice_get, if◌then◌else◌}
use Rattle.exi_lexical.specs.Spaces.{trimmed}
use Rattle.exi_names.specs.declared.names.QName.{QName}
use Rattle.xsd_model.specs.declared.parts.AttributeDecl.{AttributeDecl}
use Rattle.xsd_model.specs.declared.parts.AttributeGroup.{AttributeGroup}
use Rattle.xsd_model.specs.declared.parts.AttributeUse.{AttributeUse}
use Rattle.xsd_model.specs.declared.parts.AttributeUse.TheVariants as usage
use Rattle.xsd_model.specs.declared.parts.ElementDecl.{ElementDecl}
use Rattle.xsd_builtins.specs.BuiltIns.{any_simple, any_type}
use Rattle.xsd_tree.specs.declared.node.Node.{Node}
use Rattle.xsd_nodes.specs.declared.attribute_name.AttributeName.{AttributeName}
use Rattle.xsd_nodes.specs.declared.attribute_name.AttributeName.TheVariants as attribute
use Rattle.xsd_nodes.specs.declared.part.Part.TheVariants as part
use Rattle.xsd_nodes.specs.Nodes.{child, children, has, is_at, is_global, root, target, text_at}
use Rattle.xsd_components.specs.References.{at_node, attribute_groups, attributes, elements, named_type, text_names, type_parts}
use Rattle.xsd_components.specs.declared.type_at.TypeAt.{TypeAt}
use Rattle.xsd_components.specs.declared.type_at.TypeAt.TheVariants as type_at
use Rattle.xsd_contents.specs.Contents.{is_yes}
use Rattle.xsd_places.specs.Kinds.{is_prohibited, is_required, is_told, place_of, place_of_type, refers}
use Rattle.xsd_places.specs.declared.kind.Kind.TheVariants as kind
use Rattle.xsd_declared.specs.declared.type_step.TypeStep.{TypeStep}
use Rattle.xsd_declared.specs.declared.type_step.TypeStep.TheVariants as step

abbrev pub event_in : Option Node → ℕ
event_in None = 0
event_in (Some n) = n.event

abbrev pub event_at : List Node → ℕ → ℕ
event_at ns i = event_in (slice_get ns i)

-- what a reference names; a document where nothing is wrong has one
abbrev pub or_zero : Option ℕ → ℕ
or_zero None = 0
or_zero (Some i) = i

-- ---- names
-- of what is declared within a type: in the target namespace where `form`, or else the schema, says so
abbrev pub is_qualified : List Node → AttributeName → ℕ → Bool
is_qualified ns default i = if has (text_at ns attribute.Form i) then is_told ns attribute.Form (codes "qualified") i else is_told ns default (codes "qualified") (root ns i)

abbrev pub declared_uri : List Node → AttributeName → ℕ → List ℕ
declared_uri ns default i = if is_global ns i || is_qualified ns default i then target ns i else []

abbrev pub local_of : Option (List ℕ) → List ℕ
local_of None = []
local_of (Some text) = trimmed text

abbrev pub declared_name : List Node → AttributeName → ℕ → QName
declared_name ns default i = record { uri = declared_uri ns default i; local = local_of (text_at ns attribute.Name i); prefix = None }

-- ---- elements
abbrev pub head_at : List Node → ℕ → Option ℕ
head_at ns i = if is_global ns i then text_names ns elements i (text_at ns attribute.SubstitutionGroup i) else None

-- the type that is named, or the one that stands within
abbrev pub type_told : List Node → ℕ → Option (List ℕ) → Option TypeAt
type_told ns i None = at_node (child ns type_parts i)
type_told ns i (Some text) = named_type ns i text

abbrev pub told_type : List Node → ℕ → Option TypeAt
told_type ns i = type_told ns i (text_at ns attribute.Type i)

-- its own, or else that of its head
abbrev pub or_head : Option ℕ → Option TypeAt → TypeStep
or_head head (Some t) = step.Ends t
or_head None None = step.Ends (type_at.Built any_type)
or_head (Some h) None = step.Goes h

abbrev pub type_step : List Node → ℕ → TypeStep
type_step ns i = or_head (head_at ns i) (told_type ns i)

abbrev pub after_step : (ℕ → TypeAt) → TypeStep → TypeAt
after_step more (step.Ends t) = t
after_step more (step.Goes h) = more h

-- through so many elements
abbrev pub element_type_within : ℕ → List Node → ℕ → TypeAt
element_type_within zero ns i = type_at.Built any_type
element_type_within (suc n) ns i = after_step (element_type_within n ns) (type_step ns i)

abbrev pub element_type : List Node → ℕ → TypeAt
element_type ns i = element_type_within (length ns + 1) ns i

abbrev pub head_place : List Node → ℕ → Option ℕ
head_place ns i = option_map (place_of kind.Element ns) (head_at ns i)

-- of this type
abbrev pub element_decl : List Node → TypeAt → ℕ → ElementDecl
element_decl ns of i = record {
  name = declared_name ns attribute.ElementFormDefault i;
  of = place_of_type ns of;
  nillable = is_yes (text_at ns attribute.Nillable i);
  global = is_global ns i;
  head = head_place ns i;
  event = event_at ns i;
}

-- the element that one within a type or group refers to or is
abbrev pub element_meant : List Node → ℕ → ℕ
element_meant ns i = if refers ns i then or_zero (text_names ns elements i (text_at ns attribute.Ref i)) else i

-- ---- attributes
abbrev pub or_any_simple : Option TypeAt → TypeAt
or_any_simple None = type_at.Built any_simple
or_any_simple (Some t) = t

abbrev pub attribute_type : List Node → ℕ → TypeAt
attribute_type ns i = or_any_simple (told_type ns i)

abbrev pub attribute_decl : List Node → ℕ → AttributeDecl
attribute_decl ns i = record {
  name = declared_name ns attribute.AttributeFormDefault i;
  of = place_of_type ns (attribute_type ns i);
  global = is_global ns i;
  event = event_at ns i;
}

-- the attribute that one within a type or group refers to or is
abbrev pub attribute_meant : List Node → ℕ → ℕ
attribute_meant ns i = if refers ns i then or_zero (text_names ns attributes i (text_at ns attribute.Ref i)) else i

abbrev pub group_meant : List Node → ℕ → ℕ
group_meant ns i = or_zero (text_names ns attribute_groups i (text_at ns attribute.Ref i))

abbrev pub use_at : List Node → ℕ → AttributeUse
use_at ns i =
    if is_at ns part.AttributeGroup i then usage.Group (place_of kind.AttributeGroup ns (group_meant ns i))
    else if is_prohibited ns i then usage.Prohibited (declared_name ns attribute.AttributeFormDefault (attribute_meant ns i))
    else usage.Use (place_of kind.Attribute ns (attribute_meant ns i)) (is_required ns i)

-- what an element that holds attributes says of them
abbrev pub uses_at : List Node → ℕ → List AttributeUse
uses_at ns i = map (use_at ns) (children ns (part.Attribute ∷ part.AttributeGroup ∷ []) i)

abbrev pub attribute_group : List Node → ℕ → AttributeGroup
attribute_group ns i = record { uses = uses_at ns i }
