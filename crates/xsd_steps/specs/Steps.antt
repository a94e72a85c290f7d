-- Where a component's paths lead in one step (XML Schema 1.0 Part 1, sections 3.3.6, 3.4.6, 3.6.6, 3.8.6 and 3.14.6): from
-- a type to its base, to a list's items and a union's members; from a group to the groups that it names; from an element to
-- the head of its substitution group.
use Rattle.std.specs.Prelude.{ℕ, Option, Some, None, List, [], ◌∷◌, if◌then◌else◌}
use Rattle.std.specs.List.{flat_map}
use Rattle.xsd_tree.specs.declared.node.Node.{Node}
use Rattle.xsd_nodes.specs.declared.part.Part.{Part}
use Rattle.xsd_nodes.specs.declared.part.Part.TheVariants as part
use Rattle.xsd_nodes.specs.Nodes.{is_among_at, is_at, is_global}
use Rattle.xsd_components.specs.References.{derivation}
use Rattle.xsd_components.specs.declared.type_at.TypeAt.{TypeAt}
use Rattle.xsd_components.specs.declared.type_at.TypeAt.TheVariants as type_at
use Rattle.xsd_derivations.specs.Derivations.{attribute_groups_named, derived_from, head_named}
use Rattle.xsd_steps.specs.Groups.{groups_named}

-- the element of a type; a built-in one ends the path
abbrev pub step_to : Option TypeAt → List (Option ℕ)
step_to None = None ∷ []
step_to (Some (type_at.Built place)) = []
step_to (Some (type_at.Node i)) = Some i ∷ []

-- the elements that are types
abbrev pub typed_parts : List Part
typed_parts = part.SimpleType ∷ part.ComplexType ∷ part.Restriction ∷ []

abbrev pub if_global : List Node → ℕ → List (Option ℕ) → List (Option ℕ)
if_global ns i found = if is_global ns i then found else []

-- none where what the element names is not there
abbrev pub steps : List Node → ℕ → List (Option ℕ)
steps ns i =
    if is_among_at ns typed_parts i then flat_map step_to (derived_from ns (derivation ns i))
    else if is_at ns part.Group i then if_global ns i (groups_named ns i)
    else if is_at ns part.AttributeGroup i then if_global ns i (attribute_groups_named ns i)
    else if is_at ns part.Element i then if_global ns i (head_named ns i)
    else []
