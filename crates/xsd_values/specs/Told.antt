-- What is known of types, by the places of their elements: it is found from what is known of their bases.
use Rattle.std.specs.Prelude.{◌≡◌, ℕ, ◌==◌, Bool, true, false, ◌&&◌, Option, Some, None, List, get_or, if◌then◌else◌}
use Rattle.xsd_tree.specs.declared.node.Node.{Node}
use Rattle.xsd_nodes.specs.Nodes.{is_at}
use Rattle.xsd_nodes.specs.declared.part.Part.TheVariants as part
use Rattle.xsd_builtins.specs.BuiltIns.{any_type}
use Rattle.xsd_components.specs.References.{derivation}
use Rattle.xsd_components.specs.declared.type_at.TypeAt.{TypeAt}
use Rattle.xsd_components.specs.declared.type_at.TypeAt.TheVariants as type_at
use Rattle.xsd_contents.specs.Contents.{after_step, value_here, value_type}
use Rattle.xsd_paths.specs.Paths.{is_whole_type}
use Rattle.xsd_values.specs.Mixed.{is_mixed_in, is_mixed_type}

-- ---- values
-- a place behind them all is no complex type
abbrev pub value_told : List (Option TypeAt) → TypeAt → Option TypeAt
value_told values (type_at.Built place) = if place == any_type then None else Some (type_at.Built place)
value_told values (type_at.Node i) = get_or values i (Some (type_at.Node i))

-- by those of other types
abbrev pub value_by : List Node → (TypeAt → Option TypeAt) → ℕ → Option TypeAt
value_by ns of i = after_step of (value_here ns (type_at.Node i))

-- these are those of the types whose paths end
pub record AreValues (ns : List Node) (values : List (Option TypeAt)) : Type 0 where
  pub each : (t : TypeAt) → is_whole_type ns t ≡ true → value_told values t ≡ value_type ns t

-- ---- mixed content
abbrev pub mixed_told : List Bool → TypeAt → Bool
mixed_told mixed (type_at.Built place) = place == any_type
mixed_told mixed (type_at.Node i) = get_or mixed i false

abbrev pub mixed_by : List Node → (TypeAt → Bool) → ℕ → Bool
mixed_by ns of i = is_at ns part.ComplexType i && is_mixed_in ns of i (derivation ns i)

pub record AreMixed (ns : List Node) (mixed : List Bool) : Type 0 where
  pub each : (t : TypeAt) → is_whole_type ns t ≡ true → mixed_told mixed t ≡ is_mixed_type ns t
