-- The bases of the types that a schema document declares, as they are seen.
use Rattle.std.proofs.Common.{◌≡◌, ℕ, suc, ◌<◌, Bool, true, false, cond, Option, Some, List, [], ◌∷◌, ◌++◌, All, length, map, refl, ap, ◌∙◌}
use Rattle.std.proofs.lemmas.List.{map-append}
use Rattle.exi_names.specs.Datatypes.{Representation}
use Rattle.xsd_model.specs.Parts.{AllEnd, IsType, Parts, all_end, bases_at}
use Rattle.xsd_model.specs.declared.parts.TypeDef.{TypeDef}
use Rattle.xsd_builtins.specs.BuiltIns.{built_in_base, built_in_bases, built_in_names}
use Rattle.xsd_tree.specs.Trees.{IsTree}
use Rattle.xsd_tree.specs.declared.node.Node.{Node}
use Rattle.xsd_nodes.specs.Nodes.{is_at}
use Rattle.xsd_nodes.specs.declared.part.Part.TheVariants as part
use Rattle.xsd_components.specs.References.{derivation}
use Rattle.xsd_components.specs.declared.type_at.TypeAt.{TypeAt}
use Rattle.xsd_declared.specs.Decls.{or_any_simple}
use Rattle.xsd_declared.specs.Lists.{places_of}
use Rattle.xsd_particles.specs.Particles.{complex_base}
use Rattle.xsd_places.specs.Kinds.{is_kind, place_of_type}
use Rattle.xsd_places.specs.declared.kind.Kind.TheVariants as kind
use Rattle.xsd_schema.specs.Seen.{TypeSeen, type_seen}
use Rattle.xsd_schema.specs.Types.{built_in_from, built_in_types, simple_type}
use Rattle.xsd_schema.specs.Documents.{all_types, complex_type, declared_type}
use Rattle.xsd_schema.proofs.Bases.{base_place, bases_end, bases_of, own_base}
use Rattle.xsd_schema.proofs.Steps.{AreSure}
use Rattle.xsd_schema.proofs.Derived.{restricted_by}
use Rattle.xsd_schema.proofs.Few.{bases_below, few_steps}

abbrev base_seen : TypeSeen → Option ℕ
base_seen t = t.base

as_seen : (forms : List Representation) (ts : List TypeDef) → map own_base ts ≡ map base_seen (map (type_seen forms) ts)
as_seen forms [] = refl
as_seen forms (t ∷ ts) = ap (λ (l : List (Option ℕ)). t.base ∷ l) (as_seen forms ts)

-- ---- built-in types
abbrev bases_from : ℕ → List (List ℕ) → List (Option ℕ)
bases_from place [] = []
bases_from place (name ∷ names) = built_in_base place ∷ bases_from (suc place) names

from_names : (place : ℕ) (names : List (List ℕ)) → map base_seen (built_in_from place names) ≡ bases_from place names
from_names place [] = refl
from_names place (name ∷ names) = ap (λ (l : List (Option ℕ)). built_in_base place ∷ l) (from_names (suc place) names)

table_is : bases_from 0 built_in_names ≡ built_in_bases
unfolding built_in_names built_in_bases
table_is = refl

-- ---- those of a document
by_part : (b : Bool) (x y : TypeSeen) (s t : TypeAt) (place : TypeAt → Option ℕ) → base_seen x ≡ place s → base_seen y ≡ place t → base_seen (cond b x y) ≡ place (cond b s t)
by_part true x y s t place e f = e
by_part false x y s t place e f = f

declared_base : (ns : List Node) (i : ℕ) → base_seen (declared_type ns i) ≡ base_place ns i
declared_base ns i =
    by_part (is_at ns part.ComplexType i) (complex_type ns i) (simple_type (is_kind kind.Type ns) ns i) (complex_base ns i) (or_any_simple (restricted_by ns (derivation ns i)))
    (λ (t : TypeAt). Some (place_of_type ns t)) refl refl

declared_bases : (ns : List Node) (is : List ℕ) → map base_seen (map (declared_type ns) is) ≡ map (base_place ns) is
declared_bases ns [] = refl
declared_bases ns (i ∷ is) =
    ap (λ (b : Option ℕ). b ∷ map base_seen (map (declared_type ns) is)) (declared_base ns i)
    ∙ ap (λ (l : List (Option ℕ)). base_place ns i ∷ l) (declared_bases ns is)

all_bases : (ns : List Node) → map base_seen (all_types ns) ≡ bases_of ns
all_bases ns =
    map-append base_seen built_in_types (map (declared_type ns) (places_of kind.Type ns))
    ∙ ap (λ (l : List (Option ℕ)). l ++ map base_seen (map (declared_type ns) (places_of kind.Type ns))) (from_names 0 built_in_names ∙ table_is)
    ∙ ap (λ (l : List (Option ℕ)). built_in_bases ++ l) (declared_bases ns (places_of kind.Type ns))

pub type_bases_end : (ns : List Node) (p : Parts) → IsTree ns → AreSure ns → map (type_seen p.forms) p.types ≡ all_types ns → (place : ℕ) → place < length p.types → (n : ℕ) × (all_end (bases_at p) n place ≡ true)
type_bases_end ns p tree sure e place less = bases_end ns p tree sure (as_seen p.forms p.types ∙ ap (map base_seen) e ∙ all_bases ns) place less

pub all_type_bases_end : (ns : List Node) (p : Parts) → IsTree ns → AreSure ns → map (type_seen p.forms) p.types ≡ all_types ns → All (IsType p) p.types → AllEnd (bases_at p) (length p.types)
all_type_bases_end ns p tree sure e h = few_steps (bases_at p) (length p.types) (bases_below p h) (λ place less. type_bases_end ns p tree sure e place less)
