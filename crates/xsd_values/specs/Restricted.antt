-- The type whose values a restriction restricts (XML Schema 1.0 Part 1, section 3.4.2).
use Rattle.std.specs.Prelude.{ℕ, Option, Some, None, List, if◌then◌else◌}
use Rattle.xsd_tree.specs.declared.node.Node.{Node}
use Rattle.xsd_nodes.specs.declared.part.Part.TheVariants as part
use Rattle.xsd_nodes.specs.Nodes.{holder}
use Rattle.xsd_nodes.specs.PartNames.{is_part}
use Rattle.xsd_components.specs.References.{base, inline}
use Rattle.xsd_components.specs.declared.type_at.TypeAt.{TypeAt}
use Rattle.xsd_contents.specs.Contents.{value_type}

abbrev pub value_of_base : List Node → Option TypeAt → Option TypeAt
value_of_base ns None = None
value_of_base ns (Some t) = value_type ns t

abbrev pub or_value_of_base : List Node → Option TypeAt → Option TypeAt → Option TypeAt
or_value_of_base ns None b = value_of_base ns b
or_value_of_base ns (Some t) b = Some t

-- its base, or in simpleContent the type that stands within, or else the type of the base's content
abbrev pub restricted_type : List Node → ℕ → Option TypeAt
restricted_type ns d = if is_part part.SimpleContent (holder ns d) then or_value_of_base ns (inline ns d) (base ns d) else base ns d
