-- The groups of elements that a group names (XML Schema 1.0 Part 1, section 3.7.2).
use Rattle.std.specs.Prelude.{ℕ, ◌==◌, Bool, true, false, ◌&&◌, Option, List, [], ◌∷◌, filter, map, if◌then◌else◌}
use Rattle.xsd_tree.specs.declared.node.Node.{Node}
use Rattle.xsd_nodes.specs.Nodes.{is_among_at, is_at, outwards, places, text_at}
use Rattle.xsd_nodes.specs.declared.attribute_name.AttributeName.TheVariants as attribute
use Rattle.xsd_nodes.specs.declared.part.Part.TheVariants as part
use Rattle.xsd_components.specs.References.{groups, text_names}

-- whether a group of elements holds it with nothing but `sequence`, `choice` and `all` between
abbrev pub leads_up : List Node → ℕ → List ℕ → Bool
leads_up ns i [] = false
leads_up ns i (j ∷ js) = if i == j then true else is_among_at ns (part.Sequence ∷ part.Choice ∷ part.All ∷ []) j && leads_up ns i js

abbrev pub behind_first : List ℕ → List ℕ
behind_first [] = []
behind_first (j ∷ js) = js

abbrev pub names_group : List Node → ℕ → ℕ → Bool
names_group ns i j = is_at ns part.Group j && leads_up ns i (behind_first (outwards ns j))

-- the groups that a group names
abbrev pub group_named : List Node → ℕ → Option ℕ
group_named ns j = text_names ns groups j (text_at ns attribute.Ref j)

abbrev pub groups_named : List Node → ℕ → List (Option ℕ)
groups_named ns i = map (group_named ns) (filter (names_group ns i) (places ns))
