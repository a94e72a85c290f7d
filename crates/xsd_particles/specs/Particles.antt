-- The particles, groups and complex types that a schema document declares, each read from its element by search (XML Schema 1.0
-- Part 1, sections 3.4, 3.7, 3.8 and 3.9).
use Rattle.std.specs.Prelude.{ℕ, ◌-◌, ◌^◌, nat_lt, Bool, true, Option, Some, None, option_map, List, map, if◌then◌else◌}
use Rattle.exi_names.specs.declared.names.QName.{QName}
use Rattle.xsd_model.specs.declared.parts.Complex.{Complex}
use Rattle.xsd_model.specs.declared.parts.Content.{Content}
use Rattle.xsd_model.specs.declared.parts.Content.TheVariants as content
use Rattle.xsd_model.specs.declared.parts.Derivation.{Derivation}
use Rattle.xsd_model.specs.declared.parts.Derivation.TheVariants as derived
use Rattle.xsd_model.specs.declared.parts.Group.{Group}
use Rattle.xsd_model.specs.declared.parts.Particle.{Particle}
use Rattle.xsd_model.specs.declared.parts.Term.{Term}
use Rattle.xsd_model.specs.declared.parts.Term.TheVariants as term
use Rattle.xsd_model.specs.declared.parts.TypeBody.TheVariants as body
use Rattle.xsd_model.specs.declared.parts.TypeDef.{TypeDef}
use Rattle.xsd_model.specs.declared.parts.Wild.{Wild}
use Rattle.xsd_model.specs.declared.parts.Wild.TheVariants as wild
use Rattle.xsd_builtins.specs.BuiltIns.{any_type}
use Rattle.xsd_tree.specs.declared.node.Node.{Node}
use Rattle.xsd_nodes.specs.declared.attribute_name.AttributeName.TheVariants as attribute
use Rattle.xsd_nodes.specs.declared.part.Part.TheVariants as part
use Rattle.xsd_nodes.specs.Nodes.{child, children, is_at, is_global, text_at}
use Rattle.xsd_names.specs.Names.{own_name}
use Rattle.xsd_components.specs.References.{base, derivation, groups, text_names}
use Rattle.xsd_components.specs.declared.type_at.TypeAt.{TypeAt}
use Rattle.xsd_components.specs.declared.type_at.TypeAt.TheVariants as type_at
use Rattle.xsd_contents.specs.Contents.{is_empty, is_mixed, is_yes, model_groups, number_in, particles}
use Rattle.xsd_declared.specs.Decls.{element_meant, event_at, or_zero, uses_at}
use Rattle.xsd_declared.specs.Lists.{places_of}
use Rattle.xsd_places.specs.Kinds.{is_particle, place_of, place_of_type}
use Rattle.xsd_places.specs.declared.kind.Kind.TheVariants as kind
use Rattle.xsd_told.specs.Told.{most_in}
use Rattle.xsd_wildcards.specs.Wildcards.{allowed_at}
use Rattle.xsd_wildcards.specs.declared.allowed.Allowed.{Allowed}
use Rattle.xsd_wildcards.specs.declared.allowed.Allowed.TheVariants as allows

-- ---- particles
abbrev pub wild_of : Allowed → Wild
wild_of allows.Every = wild.Any
wild_of (allows.OtherThan uri) = wild.Any
wild_of (allows.These uris) = wild.Listed uris

-- a number of 2^32 or more is kept as 2^32 - 1
abbrev pub kept : ℕ → ℕ
kept n = if nat_lt n (2 ^ 32 - 1) then n else 2 ^ 32 - 1

abbrev pub least_told : Option ℕ → ℕ
least_told None = 1
least_told (Some n) = kept n

abbrev pub least_at : List Node → ℕ → ℕ
least_at ns i = if is_particle ns i then least_told (number_in (text_at ns attribute.MinOccurs i)) else 1

abbrev pub most_told : Option (Option ℕ) → Option ℕ
most_told None = Some 1
most_told (Some most) = option_map kept most

abbrev pub most_at : List Node → ℕ → Option ℕ
most_at ns i = if is_particle ns i then most_told (most_in (text_at ns attribute.MaxOccurs i)) else Some 1

abbrev pub within : List Node → ℕ → List ℕ
within ns i = map (place_of kind.Particle ns) (children ns particles i)

abbrev pub group_meant : List Node → ℕ → ℕ
group_meant ns i = or_zero (text_names ns groups i (text_at ns attribute.Ref i))

abbrev pub term_at : List Node → ℕ → Term
term_at ns i =
    if is_at ns part.Element i then term.Element (place_of kind.Element ns (element_meant ns i))
    else if is_at ns part.Group i then term.Group (place_of kind.Group ns (group_meant ns i))
    else if is_at ns part.Any i then term.Wild (wild_of (allowed_at ns i))
    else if is_at ns part.Choice i then term.Choice (within ns i)
    else term.Sequence (within ns i)

abbrev pub particle : List Node → ℕ → Particle
particle ns i = record { least = least_at ns i; most = most_at ns i; term = term_at ns i }

abbrev pub model_at : List Node → ℕ → Option ℕ
model_at ns i = option_map (place_of kind.Particle ns) (child ns model_groups i)

abbrev pub group_decl : List Node → ℕ → Group
group_decl ns i = record { particle = model_at ns i; event = event_at ns i }

-- ---- complex types
-- the element of a type that holds its attributes
abbrev pub or_itself : ℕ → Option ℕ → ℕ
or_itself i None = i
or_itself i (Some d) = d

abbrev pub attributes_in : List Node → ℕ → ℕ
attributes_in ns i = or_itself i (derivation ns i)

abbrev pub derivation_by : List Node → ℕ → Derivation
derivation_by ns i = if is_at ns part.Extension (attributes_in ns i) then derived.Extension else derived.Restriction

-- where nothing stands within, text may stand once, however often the model may
abbrev pub empty_content : Bool → Content
empty_content mixed = if mixed then content.Parts None true else content.Empty

-- the content that stands in a type, or in a restriction or extension
abbrev pub own_content : List Node → ℕ → Bool → Content
own_content ns i mixed = if is_empty ns i then empty_content mixed else content.Parts (model_at ns i) mixed

abbrev pub content_in : List Node → ℕ → Option ℕ → Content
content_in ns i None = own_content ns i (is_yes (text_at ns attribute.Mixed i))
content_in ns i (Some d) = own_content ns d (is_mixed ns d)

-- a value, where the type has one
abbrev pub content_by : List Node → ℕ → Option TypeAt → Content
content_by ns i (Some t) = content.Simple (place_of_type ns t)
content_by ns i None = content_in ns i (derivation ns i)

-- with this wildcard and this value
abbrev pub complex_of : List Node → Option Wild → Option TypeAt → ℕ → Complex
complex_of ns any value i = record {
  derivation = derivation_by ns i;
  uses = uses_at ns (attributes_in ns i);
  wild = any;
  content = content_by ns i value;
}

abbrev pub or_any : Option TypeAt → TypeAt
or_any None = type_at.Built any_type
or_any (Some t) = t

abbrev pub base_by : List Node → Option ℕ → TypeAt
base_by ns None = type_at.Built any_type
base_by ns (Some d) = or_any (base ns d)

abbrev pub complex_base : List Node → ℕ → TypeAt
complex_base ns i = base_by ns (derivation ns i)

-- a name only directly within the schema
abbrev pub global_name : List Node → ℕ → Option QName
global_name ns i = if is_global ns i then own_name ns i else None

abbrev pub complex_def : List Node → Option Wild → Option TypeAt → ℕ → TypeDef
complex_def ns any value i = record {
  name = global_name ns i;
  base = Some (place_of_type ns (complex_base ns i));
  body = body.Complex (complex_of ns any value i);
  event = event_at ns i;
}

-- ---- all of them, in the document's order
abbrev pub groups_of : List Node → List Group
groups_of ns = map (group_decl ns) (places_of kind.Group ns)

abbrev pub particles_of : List Node → List Particle
particles_of ns = map (particle ns) (places_of kind.Particle ns)
