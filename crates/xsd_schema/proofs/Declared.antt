-- The types that a document without a fault declares, behind the built-in ones: their bases and what they are made of are there.
use Rattle.std.proofs.Common.{◌≡◌, ℕ, zero, suc, ◌+◌, ◌<◌, ◌≤◌, Bool, true, false, cond, ◌&&◌, Option, Some, None, option_map, List, [], ◌∷◌, All, get_or, length, map, refl, sym, ap, subst, ◌∙◌, arith}
use Rattle.std.specs.Prelude.{◌==◌, nat_lt}
use Rattle.std.specs.List.{list_all, slice_get}
use Rattle.std.proofs.lemmas.Bool.{and_parts, ltb-true, true≢false}
use Rattle.std.proofs.lemmas.List.{get_or-map, length-append, length-map}
use Rattle.std.proofs.lemmas.List.Elements.{All-append, All-cons, All-nil, All-same}
use Rattle.std.proofs.lemmas.Option.{slice_get-map}
use Rattle.xsd_model.specs.Parts.{IsBelow, IsBody, IsSimpleAt, IsType, Parts, is_simple_type}
use Rattle.xsd_model.specs.declared.parts.TypeBody.{TypeBody}
use Rattle.xsd_model.specs.declared.parts.TypeBody.TheVariants as body
use Rattle.xsd_model.specs.declared.parts.TypeDef.{TypeDef}
use Rattle.xsd_model.specs.declared.parts.Wild.{Wild}
use Rattle.exi_names.specs.Datatypes.{Representation}
use Rattle.xsd_builtins.specs.BuiltIns.{any_type, base_in, built_in_bases, built_in_names}
use Rattle.xsd_tree.specs.Trees.{IsTree}
use Rattle.xsd_tree.specs.declared.node.Node.{Node}
use Rattle.xsd_nodes.specs.declared.part.Part.TheVariants as part
use Rattle.xsd_nodes.specs.Nodes.{is_at, is_skipped}
use Rattle.xsd_components.specs.References.{derivation}
use Rattle.xsd_components.specs.declared.type_at.TypeAt.TheVariants as type_at
use Rattle.xsd_contents.specs.Contents.{value_type}
use Rattle.xsd_declared.specs.Lists.{attribute_groups_of, attributes_of, places_of}
use Rattle.xsd_schema.specs.Facets.{type_restricted}
use Rattle.xsd_particles.specs.Particles.{complex_base, particles_of}
use Rattle.xsd_schema.specs.Documents.{all_types, complex_type, declared_type, value_told}
use Rattle.xsd_paths.specs.Paths.{is_whole}
use Rattle.xsd_places.specs.Kinds.{count_before, is_kind}
use Rattle.xsd_places.specs.declared.kind.Kind.TheVariants as kind
use Rattle.xsd_schema.specs.Seen.{Body, TypeSeen, body_seen, complex, simple, type_seen, ur}
use Rattle.xsd_schema.specs.Types.{HasForm, HasFormIn, built_in_from, built_in_type, built_in_types, simple_base, simple_type}
use Rattle.xsd_schema.proofs.Attributes.{AreSimple}
use Rattle.xsd_schema.proofs.Counted.{all_listed, listing_at, listing_count, slice_left, slice_right}
use Rattle.xsd_schema.proofs.Made.{ValueOr, complex_base_is, complex_fits, derivation_inner, or_any_simple_is, restricted_is, type_inner, value_type_is}
use Rattle.xsd_schema.proofs.Elements.{type_count, type_within}
use Rattle.xsd_schema.proofs.Named as named
use Rattle.xsd_schema.proofs.Named.{IsTypeOr}
use Rattle.xsd_schema.proofs.Refers.{AllFree}
use Rattle.xsd_schema.proofs.Tests.{by_test, not_true}

-- ---- what holds of a type as it is seen
abbrev pub BodyFits : Parts → Body → Type 0
BodyFits p (simple form union) = Unit {0}
BodyFits p (complex c) = IsBody p (body.Complex c)
BodyFits p ur = Unit {0}

pub record SeenFits (p : Parts) (s : TypeSeen) : Type 0 where
  pub base_is : IsBelow (length p.types) s.base
  pub body_is : BodyFits p s.body

-- ---- the built-in types
abbrev pub is_under : Option ℕ → Bool
is_under None = true
is_under (Some base) = nat_lt base 46

bases_under : list_all is_under built_in_bases ≡ true
unfolding built_in_bases
bases_under = refl

under_below : (n : ℕ) (o : Option ℕ) → 46 ≤ n → is_under o ≡ true → IsBelow n o
under_below n None le e = tt
under_below n (Some base) le e = let less = ltb-true base 46 e in omega (arith, less, le)

base_under : (n : ℕ) (bases : List (Option ℕ)) (place : ℕ) → 46 ≤ n → list_all is_under bases ≡ true → IsBelow n (base_in (slice_get bases place))
base_under n [] place le e = tt
base_under n (b ∷ bases) zero le e = under_below n b le (and_parts (is_under b) (list_all is_under bases) e).0
base_under n (b ∷ bases) (suc place) le e = base_under n bases place le (and_parts (is_under b) (list_all is_under bases) e).1

built_fits : (p : Parts) (place : ℕ) (name : List ℕ) → 46 ≤ length p.types → SeenFits p (built_in_type place name)
built_fits p place name le = record {
  base_is = base_under (length p.types) built_in_bases place le bases_under;
  body_is = by_test (BodyFits p) (place == any_type) ur _ (λ e. tt) (λ e. tt);
}

built_from_fit : (p : Parts) (place : ℕ) (names : List (List ℕ)) → 46 ≤ length p.types → All (SeenFits p) (built_in_from place names)
built_from_fit p place [] le = All-nil (SeenFits p)
built_from_fit p place (name ∷ names) le = All-cons (SeenFits p) (built_in_type place name) (built_in_from (suc place) names) (built_fits p place name le) (built_from_fit p (suc place) names le)

built_count : (place : ℕ) (names : List (List ℕ)) → length (built_in_from place names) ≡ length names
built_count place [] = refl
built_count place (name ∷ names) = ap suc (built_count (suc place) names)

names_count : length built_in_names ≡ 46
unfolding built_in_names
names_count = refl

types_count : length built_in_types ≡ 46
types_count = built_count 0 built_in_names ∙ names_count

built_at : (place : ℕ) (names : List (List ℕ)) (k : ℕ) → k < length names → (name : List ℕ) × (slice_get (built_in_from place names) k ≡ Some (built_in_type (place + k) name))
built_at place [] k less = absurd (omega (arith, less))
built_at place (name ∷ names) zero less = let e : place ≡ place + 0 = omega arith in (name, ap (λ (n : ℕ). Some (built_in_type n name)) e)
built_at place (name ∷ names) (suc k) less =
    let found = built_at (suc place) names k (omega (arith, less)) in
    let e : suc place + k ≡ place + suc k = omega arith in
    (found.0, found.1 ∙ ap (λ (n : ℕ). Some (built_in_type n found.0)) e)

-- ---- those of the document
abbrev pub wild_in : Body → Option Wild
wild_in (simple form union) = None
wild_in (complex c) = c.wild
wild_in ur = None

value_is : (ns : List Node) (i : ℕ) → IsTree ns → named.IsType ns (type_at.Node i) → ValueOr ns (value_told ns i)
value_is ns i tree h = by_test (ValueOr ns) (is_whole ns i) (value_type ns (type_at.Node i)) None (λ e. value_type_is ns (type_at.Node i) tree h) (λ e. (tt, tt))

restricted_or : (ns : List Node) (o : Option ℕ) → IsTree ns → ((d : ℕ) → o ≡ Some d → is_skipped ns d ≡ false) → IsTypeOr ns (type_restricted ns o)
restricted_or ns None tree h = tt
restricted_or ns (Some d) tree h = by_test (IsTypeOr ns) (is_at ns part.Restriction d && is_whole ns d) _ None (λ e. restricted_is ns d tree (h d refl)) (λ e. tt)

simple_base_is : (ns : List Node) (i : ℕ) → IsTree ns → named.IsType ns (type_at.Node i) → named.IsType ns (simple_base ns i)
simple_base_is ns i tree h = or_any_simple_is ns (type_restricted ns (derivation ns i)) (restricted_or ns (derivation ns i) tree (λ d e. (derivation_inner ns i d tree (type_inner ns i tree h) e).free))

pub declared_fits : (joined : Bool) (ns : List Node) (p : Parts) (i : ℕ) → IsTree ns → AllFree joined ns → length p.types ≡ type_count ns → length p.attributes ≡ length (attributes_of ns) → length p.attribute_groups ≡ length (attribute_groups_of ns) → length p.particles ≡ length (particles_of ns) → AreSimple ns p → named.IsType ns (type_at.Node i) → SeenFits p (declared_type ns i)
declared_fits joined ns p i tree free count attribute_count group_count particle_count simples h =
    by_test (SeenFits p) (is_at ns part.ComplexType i) (complex_type ns i) (simple_type (is_kind kind.Type ns) ns i)
    (λ e. record {
      base_is = let less = type_within ns (complex_base ns i) (complex_base_is ns i tree h) in omega (arith, less, count);
      body_is = complex_fits joined ns p (wild_in (complex_type ns i).body) (value_told ns i) i tree free attribute_count group_count particle_count simples h (value_is ns i tree h);
    })
    (λ e. record {
      base_is = let less = type_within ns (simple_base ns i) (simple_base_is ns i tree h) in omega (arith, less, count);
      body_is = tt;
    })

-- ---- as they are seen in the parts
abbrev pub are_seen : Parts → List TypeSeen
are_seen p = map (type_seen p.forms) p.types

pub seen_count : (ns : List Node) (p : Parts) → are_seen p ≡ all_types ns → length p.types ≡ type_count ns
seen_count ns p e =
    let seen : length (are_seen p) ≡ length p.types = length-map p.types (type_seen p.forms) in
    let all : length (all_types ns) ≡ length built_in_types + length (map (declared_type ns) (places_of kind.Type ns)) = length-append built_in_types (map (declared_type ns) (places_of kind.Type ns)) in
    let own : length (map (declared_type ns) (places_of kind.Type ns)) ≡ count_before (is_kind kind.Type ns) (length ns) = listing_count (declared_type ns) (is_kind kind.Type ns) ns in
    let same : length (are_seen p) ≡ length (all_types ns) = ap length e in
    omega (arith, seen, all, own, same, types_count)

abbrev pub is_simple_of : Body → Bool
is_simple_of (simple form union) = true
is_simple_of (complex c) = false
is_simple_of ur = false

abbrev pub is_simple_seen : Option TypeSeen → Bool
is_simple_seen None = false
is_simple_seen (Some s) = is_simple_of s.body

simple_by_body : (forms : List Representation) (t : TypeDef) (b : TypeBody) → t.body ≡ b → is_simple_type (Some t) ≡ is_simple_seen (Some (type_seen forms t))
simple_by_body forms t (body.Simple form union) e = rw e refl
simple_by_body forms t (body.Complex c) e = rw e refl
simple_by_body forms t body.Ur e = rw e refl

simple_seen : (forms : List Representation) (o : Option TypeDef) → is_simple_type o ≡ is_simple_seen (option_map (type_seen forms) o)
simple_seen forms None = refl
simple_seen forms (Some t) = simple_by_body forms t t.body refl

simple_place : (ns : List Node) (p : Parts) (place : ℕ) (s : TypeSeen) → are_seen p ≡ all_types ns → slice_get (all_types ns) place ≡ Some s → is_simple_seen (Some s) ≡ true → IsSimpleAt p place
simple_place ns p place s e there is_it =
    simple_seen p.forms (slice_get p.types place)
    ∙ ap is_simple_seen (sym (slice_get-map (type_seen p.forms) p.types place) ∙ ap (λ (l : List TypeSeen). slice_get l place) e ∙ there)
    ∙ is_it

pub are_simple : (ns : List Node) (p : Parts) → are_seen p ≡ all_types ns → AreSimple ns p
are_simple ns p e = record {
  built = λ place less not_any.
      let inside : place < length built_in_names = omega (arith, less, names_count) in
      let found = built_at 0 built_in_names place inside in
      let zero_plus : 0 + place ≡ place = omega arith in
      simple_place ns p place (built_in_type (0 + place) found.0) e
      (slice_left built_in_types (map (declared_type ns) (places_of kind.Type ns)) place (built_in_type (0 + place) found.0) found.1)
      (ap (λ (n : ℕ). is_simple_seen (Some (built_in_type n found.0))) zero_plus
      ∙ by_test (λ (x : Body). is_simple_of x ≡ true) (place == any_type) ur _ (λ is_any. absurd (true≢false (sym is_any ∙ not_true (place == any_type) not_any))) (λ n. refl));
  declared = λ i less of_kind not_complex.
      let m = count_before (is_kind kind.Type ns) i in
      let at : 46 + m ≡ length built_in_types + m = ap (λ (n : ℕ). n + m) (sym types_count) in
      simple_place ns p (46 + m) (declared_type ns i) e
      (ap (slice_get (all_types ns)) at
      ∙ slice_right built_in_types (map (declared_type ns) (places_of kind.Type ns)) m
      ∙ listing_at (declared_type ns) (is_kind kind.Type ns) ns i less of_kind)
      (ap (λ b. is_simple_seen (Some (cond b (complex_type ns i) (simple_type (is_kind kind.Type ns) ns i)))) not_complex);
}

-- ---- all of them
all_seen_fit : (joined : Bool) (ns : List Node) (p : Parts) → IsTree ns → AllFree joined ns → are_seen p ≡ all_types ns → length p.attributes ≡ length (attributes_of ns) → length p.attribute_groups ≡ length (attribute_groups_of ns) → length p.particles ≡ length (particles_of ns) → All (SeenFits p) (all_types ns)
all_seen_fit joined ns p tree free e attribute_count group_count particle_count =
    let count = seen_count ns p e in
    All-append (SeenFits p) built_in_types (map (declared_type ns) (places_of kind.Type ns)) (built_from_fit p 0 built_in_names (omega (arith, count)))
    (all_listed (declared_type ns) (is_kind kind.Type ns) (SeenFits p) ns
    (λ i less is_it. declared_fits joined ns p i tree free count attribute_count group_count particle_count (are_simple ns p e) (less, is_it)))

body_fits : (p : Parts) (t : TypeDef) (b : TypeBody) → t.body ≡ b → BodyFits p (body_seen p.forms b) → HasFormIn (length p.forms) t → IsBody p b
body_fits p t (body.Simple form union) e h has = subst (HasForm (length p.forms)) e has
body_fits p t (body.Complex c) e h has = h
body_fits p t body.Ur e h has = tt

type_fits : (p : Parts) (t : TypeDef) → SeenFits p (type_seen p.forms t) → HasFormIn (length p.forms) t → IsType p t
type_fits p t h has = record { base_is = h.base_is; body_is = body_fits p t t.body refl h.body_is has }

from_seen : (p : Parts) (ts : List TypeDef) → All (SeenFits p) (map (type_seen p.forms) ts) → All (HasFormIn (length p.forms)) ts → All (IsType p) ts
from_seen p ts h has = λ k d less.
    let inside : k < length (map (type_seen p.forms) ts) = let count : length (map (type_seen p.forms) ts) ≡ length ts = length-map ts (type_seen p.forms) in omega (arith, less, count) in
    type_fits p (get_or ts k d)
    (subst (SeenFits p) (get_or-map (type_seen p.forms) ts k d (type_seen p.forms d) less) (h k (type_seen p.forms d) inside))
    (has k d less)

pub types_fit : (joined : Bool) (ns : List Node) (p : Parts) → IsTree ns → AllFree joined ns → are_seen p ≡ all_types ns → All (HasFormIn (length p.forms)) p.types → length p.attributes ≡ length (attributes_of ns) → length p.attribute_groups ≡ length (attribute_groups_of ns) → length p.particles ≡ length (particles_of ns) → All (IsType p) p.types
types_fit joined ns p tree free e has attribute_count group_count particle_count =
    from_seen p p.types (All-same (SeenFits p) (are_seen p) (all_types ns) e (all_seen_fit joined ns p tree free e attribute_count group_count particle_count)) has
