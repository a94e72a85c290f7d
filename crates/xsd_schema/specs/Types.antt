-- The simple types of a schema document: the built-in ones, and then those that it declares or holds, in order (XML Schema 1.0
-- Part 1, section 3.14).
use Rattle.std.specs.Prelude.{ℕ, suc, ◌<◌, ◌==◌, Bool, false, Option, Some, None, List, [], ◌∷◌, ◌++◌, map, Result, Ok, Err, if◌then◌else◌}
use Rattle.exi_names.specs.declared.names.QName.{QName}
use Rattle.xsd_model.specs.declared.fault.SchemaFault.{SchemaFault}
use Rattle.xsd_model.specs.declared.parts.TypeBody.{TypeBody}
use Rattle.xsd_model.specs.declared.parts.TypeBody.TheVariants as body
use Rattle.xsd_model.specs.declared.parts.TypeDef.{TypeDef}
use Rattle.xsd_tree.specs.Trees.{xsd}
use Rattle.xsd_tree.specs.declared.node.Node.{Node}
use Rattle.xsd_nodes.specs.Nodes.{is_global}
use Rattle.xsd_builtins.specs.BuiltIns.{any_simple, any_type, built_in_base, built_in_names}
use Rattle.xsd_names.specs.Names.{own_name}
use Rattle.xsd_components.specs.References.{derivation}
use Rattle.xsd_components.specs.declared.type_at.TypeAt.{TypeAt}
use Rattle.xsd_components.specs.declared.type_at.TypeAt.TheVariants as type_at
use Rattle.xsd_places.specs.Kinds.{is_kind, type_place}
use Rattle.xsd_places.specs.declared.kind.Kind.TheVariants as kind
use Rattle.xsd_declared.specs.Decls.{event_at, or_any_simple}
use Rattle.xsd_declared.specs.Lists.{places_of}
use Rattle.xsd_paths.specs.Paths.{is_whole}
use Rattle.xsd_simple.specs.Simple.{built_in_simple, form_of, is_united, simple_of}
use Rattle.xsd_schema.specs.Facets.{type_restricted}
use Rattle.xsd_schema.specs.Shown.{first_from, simple_shows}
use Rattle.xsd_schema.specs.Seen.{Body, TypeSeen, simple, ur}

-- ---- the built-in types
abbrev pub built_in_body : ℕ → Body
built_in_body place = if place == any_type then ur else simple (form_of (built_in_simple place)) false

abbrev pub built_in_type : ℕ → List ℕ → TypeSeen
built_in_type place name = record {
  name = Some (record { uri = xsd; local = name; prefix = None });
  base = built_in_base place;
  body = built_in_body place;
  event = 0;
}

abbrev pub built_in_from : ℕ → List (List ℕ) → List TypeSeen
built_in_from place [] = []
built_in_from place (name ∷ names) = built_in_type place name ∷ built_in_from (suc place) names

abbrev pub built_in_types : List TypeSeen
built_in_types = built_in_from 0 built_in_names

-- ---- those of a document
-- a name only directly within the schema
abbrev pub global_name : List Node → ℕ → Option QName
global_name ns i = if is_global ns i then own_name ns i else None

-- a type from which a path does not end counts as anySimpleType
abbrev pub whole_type : List Node → ℕ → TypeAt
whole_type ns i = if is_whole ns i then type_at.Node i else type_at.Built any_simple

-- the type that a simple type restricts; lists and unions are derived from anySimpleType
abbrev pub simple_base : List Node → ℕ → TypeAt
simple_base ns i = or_any_simple (type_restricted ns (derivation ns i))

abbrev pub simple_body : List Node → TypeAt → Body
simple_body ns t = simple (form_of (simple_of ns t)) (is_united (simple_of ns t).variety)

-- derived from the type at this place
abbrev pub simple_on : ℕ → List Node → ℕ → TypeSeen
simple_on base ns i = record {
  name = global_name ns i;
  base = Some base;
  body = simple_body ns (whole_type ns i);
  event = event_at ns i;
}

-- where the types are those whose elements pass
abbrev pub simple_type : (ℕ → Bool) → List Node → ℕ → TypeSeen
simple_type test ns i = simple_on (type_place test (simple_base ns i)) ns i

abbrev pub simple_at : List Node → ℕ → TypeSeen
simple_at ns i = simple_type (is_kind kind.Simple ns) ns i

-- ---- what is read
abbrev pub or_fault : {X : Type 0} → Option SchemaFault → X → Result X SchemaFault
or_fault None x = Ok x
or_fault (Some f) x = Err f

abbrev pub simple_types : List Node → List TypeSeen
simple_types ns = built_in_types ++ map (simple_at ns) (places_of kind.Simple ns)

unfoldable pub types_of : List Node → Result (List TypeSeen) SchemaFault
types_of ns = or_fault (first_from (simple_shows ns) 0 ns) (simple_types ns)

-- ---- where their forms are
-- there are so many
abbrev pub HasForm : ℕ → TypeBody → Type 0
HasForm count (body.Simple form union) = form < count
HasForm count (body.Complex c) = Unit {0}
HasForm count body.Ur = Unit {0}

abbrev pub HasFormIn : ℕ → TypeDef → Type 0
HasFormIn count t = HasForm count t.body
