-- The elements of a schema document that declare something, and the place of each among those of its kind (XML Schema 1.0
-- Part 1, section 2.2).
use Rattle.std.specs.Prelude.{ℕ, zero, suc, ◌+◌, Bool, true, false, ◌||◌, ◌&&◌, not, codes, Option, Some, None, List, [], ◌∷◌, if◌then◌else◌}
use Rattle.std.specs.Str.{bytes_eq}
use Rattle.xsd_tree.specs.declared.node.Node.{Node}
use Rattle.xsd_nodes.specs.declared.attribute_name.AttributeName.{AttributeName}
use Rattle.xsd_nodes.specs.declared.attribute_name.AttributeName.TheVariants as attribute
use Rattle.xsd_nodes.specs.declared.part.Part.{Part}
use Rattle.xsd_nodes.specs.declared.part.Part.TheVariants as part
use Rattle.xsd_nodes.specs.Nodes.{has, holder, is_among_at, is_at, is_global, is_skipped, text_at}
use Rattle.xsd_nodes.specs.PartNames.{is_part}
use Rattle.xsd_components.specs.declared.type_at.TypeAt.{TypeAt}
use Rattle.xsd_components.specs.declared.type_at.TypeAt.TheVariants as type_at
use Rattle.xsd_places.specs.declared.kind.Kind.{Kind}
use Rattle.xsd_places.specs.declared.kind.Kind.TheVariants as kind

-- ---- what an element says
-- a text that stands exactly so
abbrev pub is_word : List ℕ → Option (List ℕ) → Bool
is_word word None = false
is_word word (Some text) = bytes_eq text word

abbrev pub is_told : List Node → AttributeName → List ℕ → ℕ → Bool
is_told ns name word i = is_word word (text_at ns name i)

-- to a global component, in place of declaring one
abbrev pub refers : List Node → ℕ → Bool
refers ns i = not (is_global ns i) && has (text_at ns attribute.Ref i)

abbrev pub is_prohibited : List Node → ℕ → Bool
is_prohibited ns i = not (is_global ns i) && is_told ns attribute.Use (codes "prohibited") i

abbrev pub is_required : List Node → ℕ → Bool
is_required ns i = is_told ns attribute.Use (codes "required") i

-- what stands within a type or group a number of times
abbrev pub is_particle : List Node → ℕ → Bool
is_particle ns i =
    (is_among_at ns (part.Element ∷ part.Group ∷ []) i && not (is_global ns i))
    || is_at ns part.Any i
    || (is_among_at ns (part.Sequence ∷ part.Choice ∷ part.All ∷ []) i && not (is_part part.Group (holder ns i)))

-- ---- what it declares
abbrev pub is_element_node : List Node → ℕ → Bool
is_element_node ns i = is_at ns part.Element i && not (refers ns i)

-- a prohibited attribute declares nothing
abbrev pub is_attribute_node : List Node → ℕ → Bool
is_attribute_node ns i = is_at ns part.Attribute i && not (refers ns i) && not (is_prohibited ns i)

-- the restriction of a simpleContent is a simple type of its own
abbrev pub is_simple_node : List Node → ℕ → Bool
is_simple_node ns i = is_at ns part.SimpleType i || (is_at ns part.Restriction i && is_part part.SimpleContent (holder ns i))

abbrev pub is_type_node : List Node → ℕ → Bool
is_type_node ns i = is_simple_node ns i || is_at ns part.ComplexType i

abbrev pub is_global_at : List Node → Part → ℕ → Bool
is_global_at ns p i = is_at ns p i && is_global ns i

-- particles, and the sequence or choice of a group
abbrev pub is_particle_node : List Node → ℕ → Bool
is_particle_node ns i = is_particle ns i || is_among_at ns (part.Sequence ∷ part.Choice ∷ part.All ∷ []) i

abbrev pub is_node_of : Kind → List Node → ℕ → Bool
is_node_of kind.Element ns i = is_element_node ns i
is_node_of kind.Attribute ns i = is_attribute_node ns i
is_node_of kind.Type ns i = is_type_node ns i
is_node_of kind.Simple ns i = is_simple_node ns i
is_node_of kind.Group ns i = is_global_at ns part.Group i
is_node_of kind.AttributeGroup ns i = is_global_at ns part.AttributeGroup i
is_node_of kind.Particle ns i = is_particle_node ns i

-- what an annotation holds declares nothing
abbrev pub is_kind : Kind → List Node → ℕ → Bool
is_kind k ns i = if is_skipped ns i then false else is_node_of k ns i

-- ---- places
-- how many before it pass
abbrev pub count_before : (ℕ → Bool) → ℕ → ℕ
count_before test zero = 0
count_before test (suc i) = if test i then suc (count_before test i) else count_before test i

-- among those of its kind
abbrev pub place_of : Kind → List Node → ℕ → ℕ
place_of k ns i = count_before (is_kind k ns) i

-- the place of a type among those whose elements pass, behind the 46 built-in ones
abbrev pub type_place : (ℕ → Bool) → TypeAt → ℕ
type_place test (type_at.Built place) = place
type_place test (type_at.Node i) = 46 + count_before test i

abbrev pub place_of_type : List Node → TypeAt → ℕ
place_of_type ns t = type_place (is_kind kind.Type ns) t
