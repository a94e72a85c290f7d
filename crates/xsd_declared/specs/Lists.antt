-- All elements, attributes and groups of attributes that a schema document declares, in its order (XML Schema 1.0 Part 1,
-- sections 3.2, 3.3 and 3.6).
use Rattle.std.specs.Prelude.{ℕ, Bool, List, [], ◌∷◌, filter, map, if◌then◌else◌}
use Rattle.xsd_model.specs.declared.parts.AttributeDecl.{AttributeDecl}
use Rattle.xsd_model.specs.declared.parts.AttributeGroup.{AttributeGroup}
use Rattle.xsd_model.specs.declared.parts.ElementDecl.{ElementDecl}
use Rattle.xsd_tree.specs.declared.node.Node.{Node}
use Rattle.xsd_nodes.specs.Nodes.{places}
use Rattle.xsd_places.specs.Kinds.{is_kind}
use Rattle.xsd_places.specs.declared.kind.Kind.{Kind}
use Rattle.xsd_places.specs.declared.kind.Kind.TheVariants as kind
use Rattle.xsd_declared.specs.Decls.{attribute_decl, attribute_group, element_decl, element_type}

-- one, where there is one
abbrev pub one_of : {X : Type 0} → Bool → X → List X
one_of there x = if there then x ∷ [] else []

-- the places of a kind
abbrev pub places_of : Kind → List Node → List ℕ
places_of k ns = filter (is_kind k ns) (places ns)

abbrev pub element_at : List Node → ℕ → ElementDecl
element_at ns i = element_decl ns (element_type ns i) i

abbrev pub elements_of : List Node → List ElementDecl
elements_of ns = map (element_at ns) (places_of kind.Element ns)

abbrev pub attributes_of : List Node → List AttributeDecl
attributes_of ns = map (attribute_decl ns) (places_of kind.Attribute ns)

abbrev pub attribute_groups_of : List Node → List AttributeGroup
attribute_groups_of ns = map (attribute_group ns) (places_of kind.AttributeGroup ns)
