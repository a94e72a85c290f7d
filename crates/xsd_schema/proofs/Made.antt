-- What the types of a document are derived from and made of: bases, values, attributes and content that are there.
use Rattle.std.proofs.Common.{◌≡◌, ℕ, zero, suc, ◌+◌, ◌<◌, Bool, true, false, cond, ◌||◌, ◌&&◌, not, Option, Some, None, List, [], ◌∷◌, length, refl, sym, ap, ◌∙◌, arith}
use Rattle.std.specs.Prelude.{◌==◌}
use Rattle.std.proofs.lemmas.Option.{none-some}
use Rattle.xsd_model.specs.Parts.{IsBody, IsContent, Parts}
use Rattle.xsd_model.specs.declared.parts.Content.TheVariants as content
use Rattle.xsd_model.specs.declared.parts.TypeBody.TheVariants as body
use Rattle.xsd_model.specs.declared.parts.Wild.{Wild}
use Rattle.xsd_builtins.specs.BuiltIns.{any_type}
use Rattle.xsd_tree.specs.Trees.{IsTree}
use Rattle.xsd_tree.specs.declared.node.Node.{Node}
use Rattle.xsd_nodes.specs.Nodes.{child, child_of, holder, is_at, is_skipped, parent_at, part_at, text_at}
use Rattle.xsd_nodes.specs.PartNames.{is_among, is_part}
use Rattle.xsd_nodes.specs.declared.attribute_name.AttributeName.TheVariants as attribute
use Rattle.xsd_nodes.specs.declared.part.Part.{Part}
use Rattle.xsd_nodes.specs.declared.part.Part.TheVariants as part
use Rattle.xsd_components.specs.References.{base, derivation, inline, is_simple}
use Rattle.xsd_components.specs.declared.type_at.TypeAt.{TypeAt}
use Rattle.xsd_components.specs.declared.type_at.TypeAt.TheVariants as type_at
use Rattle.xsd_contents.specs.Contents.{after_step, by_base, is_empty, is_mixed, is_yes, leaves_base, value_derived, value_here, value_in_complex, value_in_simple, value_type, value_type_within}
use Rattle.xsd_contents.specs.declared.value_step.ValueStep.{ValueStep}
use Rattle.xsd_contents.specs.declared.value_step.ValueStep.TheVariants as step
use Rattle.xsd_declared.specs.Decls.{or_any_simple, or_zero}
use Rattle.xsd_declared.specs.Lists.{attribute_groups_of, attributes_of}
use Rattle.xsd_particles.specs.Particles.{attributes_in, base_by, complex_base, complex_of, content_by, content_in, empty_content, model_at, or_any, or_itself, own_content, particles_of}
use Rattle.xsd_places.specs.Kinds.{is_type_node}
use Rattle.xsd_places.specs.declared.kind.Kind.TheVariants as kind
use Rattle.xsd_values.specs.Restricted.{or_value_of_base, restricted_type, value_of_base}
use Rattle.xsd_schema.proofs.Attributes.{AreSimple, SimpleOr, simple_at, uses_fit}
use Rattle.xsd_schema.proofs.Derived.{base_is, inline_is}
use Rattle.xsd_schema.proofs.Held.{child_held, held_free, part_told}
use Rattle.xsd_schema.proofs.Named.{IsType, IsTypeOr, kind_free, kind_parts}
use Rattle.xsd_schema.proofs.Particles.{model_fits, not_root}
use Rattle.xsd_schema.proofs.Refers.{AllFree}
use Rattle.xsd_schema.proofs.Tests.{by_test, one_of_two}

-- ---- the element of a derivation
pub record IsInner (ns : List Node) (d : ℕ) : Type 0 where
  pub there : d < length ns
  pub free : is_skipped ns d ≡ false
  pub outer : ℕ
  pub held : parent_at ns d ≡ Some outer

held_inner : (ns : List Node) (ps : List Part) (i d : ℕ) → IsTree ns → is_skipped ns i ≡ false → is_among ps part.Annotation ≡ false → child ns ps i ≡ Some d → IsInner ns d
held_inner ns ps i d tree free none e =
    let h = child_held ns ps i d e in
    record { there = h.there; free = held_free ns ps i d tree h none free; outer = i; held = h.parent }

twice_inner : (ns : List Node) (ps qs : List Part) (i d : ℕ) (o : Option ℕ) → IsTree ns → is_skipped ns i ≡ false → is_among ps part.Annotation ≡ false → is_among qs part.Annotation ≡ false → child ns qs i ≡ o → child_of ns ps o ≡ Some d → IsInner ns d
twice_inner ns ps qs i d None tree free p q e f = absurd (none-some d f)
twice_inner ns ps qs i d (Some m) tree free p q e f = held_inner ns ps m d tree (held_inner ns qs i m tree free q e).free p f

pub derivation_inner : (ns : List Node) (i d : ℕ) → IsTree ns → IsInner ns i → derivation ns i ≡ Some d → IsInner ns d
derivation_inner ns i d tree h e =
    one_of_two (IsInner ns d) (is_at ns part.SimpleType i) _ _ (Some d) (λ s f. held_inner ns (part.Restriction ∷ part.List ∷ part.Union ∷ []) i d tree h.free refl f)
    (λ n f. one_of_two (IsInner ns d) (is_at ns part.ComplexType i) _ _ (Some d)
    (λ c g. twice_inner ns (part.Restriction ∷ part.Extension ∷ []) (part.SimpleContent ∷ part.ComplexContent ∷ []) i d (child ns (part.SimpleContent ∷ part.ComplexContent ∷ []) i) tree h.free refl refl refl g)
    (λ m g. one_of_two (IsInner ns d) (is_at ns part.Restriction i) (Some i) None (Some d) (λ r k. same_inner i k h) (λ r k. absurd (none-some d k)) g) f) e
  where
    same_inner : (i : ℕ) → Some i ≡ Some d → IsInner ns i → IsInner ns d
    same_inner i e h = rw (sym (ap or_zero e)) h

-- a type of the document stands within another element
pub type_inner : (ns : List Node) (i : ℕ) → IsTree ns → IsType ns (type_at.Node i) → IsInner ns i
type_inner ns i tree h =
    let parts = kind_parts kind.Type ns i h.1 in
    let up = not_root ns i (λ q. (is_part part.SimpleType q || (is_part part.Restriction q && is_part part.SimpleContent (holder ns i))) || is_part part.ComplexType q) tree h.0 parts.1 refl in
    record { there = h.0; free = parts.0; outer = up.0; held = up.1 }

-- ---- the base of a type
or_any_is : (ns : List Node) (o : Option TypeAt) → IsTypeOr ns o → IsType ns (or_any o)
or_any_is ns None h = omega arith
or_any_is ns (Some t) h = h

pub or_any_simple_is : (ns : List Node) (o : Option TypeAt) → IsTypeOr ns o → IsType ns (or_any_simple o)
or_any_simple_is ns None h = omega arith
or_any_simple_is ns (Some t) h = h

base_by_is : (ns : List Node) (o : Option ℕ) → IsTree ns → ((d : ℕ) → o ≡ Some d → IsInner ns d) → IsType ns (base_by ns o)
base_by_is ns None tree h = omega arith
base_by_is ns (Some d) tree h = or_any_is ns (base ns d) (base_is ns d tree (h d refl).free)

pub complex_base_is : (ns : List Node) (i : ℕ) → IsTree ns → IsType ns (type_at.Node i) → IsType ns (complex_base ns i)
complex_base_is ns i tree h = base_by_is ns (derivation ns i) tree (λ d e. derivation_inner ns i d tree (type_inner ns i tree h) e)

-- ---- the type of a value
abbrev pub ValueOr : List Node → Option TypeAt → Type 0
ValueOr ns o = IsTypeOr ns o × SimpleOr ns o

abbrev pub StepFits : List Node → ValueStep → Type 0
StepFits ns (step.Ends o) = ValueOr ns o
StepFits ns (step.Goes t) = IsType ns t

by_base_fits : (ns : List Node) (o : Option TypeAt) → IsTypeOr ns o → StepFits ns (by_base o)
by_base_fits ns None h = (tt, tt)
by_base_fits ns (Some t) h = h

-- the restriction of a simpleContent is a type
restriction_type : (ns : List Node) (d : ℕ) → is_at ns part.Restriction d ≡ true → is_part part.SimpleContent (holder ns d) ≡ true → IsInner ns d → ValueOr ns (Some (type_at.Node d))
restriction_type ns d e f h =
    let q : part_at ns d ≡ part.Restriction = part_told ns part.Restriction d e in
    let type : is_type_node ns d ≡ true =
    ap (λ (x : Part). (is_part part.SimpleType x || (is_part part.Restriction x && is_part part.SimpleContent (holder ns d))) || is_part part.ComplexType x) q
    ∙ ap (λ b. (b) || false) f in
    ((h.there, kind_free kind.Type ns d h.free type), ap (λ (x : Part). not (is_part part.ComplexType x)) q)

simple_step : (ns : List Node) (d : ℕ) → IsTree ns → IsInner ns d → is_part part.SimpleContent (holder ns d) ≡ true → StepFits ns (value_in_simple ns d)
simple_step ns d tree h f =
    by_test (StepFits ns) (is_at ns part.Restriction d) _ _ (λ r. restriction_type ns d r f h)
    (λ n. by_test (StepFits ns) (is_at ns part.Extension d) _ _ (λ x. by_base_fits ns (base ns d) (base_is ns d tree h.free)) (λ m. (tt, tt)))

complex_step : (ns : List Node) (d : ℕ) → IsTree ns → IsInner ns d → StepFits ns (value_in_complex ns d)
complex_step ns d tree h = by_test (StepFits ns) (is_at ns part.Extension d && leaves_base ns d) _ _ (λ x. by_base_fits ns (base ns d) (base_is ns d tree h.free)) (λ m. (tt, tt))

derived_step : (ns : List Node) (o : Option ℕ) → IsTree ns → ((d : ℕ) → o ≡ Some d → IsInner ns d) → StepFits ns (value_derived ns o)
derived_step ns None tree h = (tt, tt)
derived_step ns (Some d) tree h =
    by_test (StepFits ns) (is_part part.SimpleContent (holder ns d)) _ _ (λ s. simple_step ns d tree (h d refl) s)
    (λ n. by_test (StepFits ns) (is_part part.ComplexContent (holder ns d)) _ _ (λ c. complex_step ns d tree (h d refl)) (λ m. (tt, tt)))

built_value : (ns : List Node) (place : ℕ) → place < 46 → StepFits ns (step.Ends (cond (place == any_type) None (Some (type_at.Built place))))
built_value ns place less = by_test (λ (o : Option TypeAt). ValueOr ns o) (place == any_type) None (Some (type_at.Built place)) (λ e. (tt, tt)) (λ e. (less, ap not e))

here_fits : (ns : List Node) (t : TypeAt) → IsTree ns → IsType ns t → StepFits ns (value_here ns t)
here_fits ns (type_at.Built place) tree h = built_value ns place h
here_fits ns (type_at.Node i) tree h =
    by_test (StepFits ns) (is_simple ns (type_at.Node i)) _ _ (λ s. (h, s))
    (λ n. derived_step ns (derivation ns i) tree (λ d e. derivation_inner ns i d tree (type_inner ns i tree h) e))

after_fits : (ns : List Node) (more : TypeAt → Option TypeAt) (s : ValueStep) → ((t : TypeAt) → IsType ns t → ValueOr ns (more t)) → StepFits ns s → ValueOr ns (after_step more s)
after_fits ns more (step.Ends o) h g = g
after_fits ns more (step.Goes t) h g = h t g

value_within_is : (n : ℕ) (ns : List Node) (t : TypeAt) → IsTree ns → IsType ns t → ValueOr ns (value_type_within n ns t)
value_within_is zero ns t tree h = (tt, tt)
value_within_is (suc n) ns t tree h = after_fits ns (value_type_within n ns) (value_here ns t) (λ u g. value_within_is n ns u tree g) (here_fits ns t tree h)

pub value_type_is : (ns : List Node) (t : TypeAt) → IsTree ns → IsType ns t → ValueOr ns (value_type ns t)
value_type_is ns t tree h = value_within_is (length ns + 1) ns t tree h

-- ---- the type that a restriction restricts
of_base_is : (ns : List Node) (o : Option TypeAt) → IsTree ns → IsTypeOr ns o → IsTypeOr ns (value_of_base ns o)
of_base_is ns None tree h = tt
of_base_is ns (Some t) tree h = (value_type_is ns t tree h).0

or_of_base_is : (ns : List Node) (o b : Option TypeAt) → IsTree ns → IsTypeOr ns o → IsTypeOr ns b → IsTypeOr ns (or_value_of_base ns o b)
or_of_base_is ns None b tree h g = of_base_is ns b tree g
or_of_base_is ns (Some t) b tree h g = h

pub restricted_is : (ns : List Node) (d : ℕ) → IsTree ns → is_skipped ns d ≡ false → IsTypeOr ns (restricted_type ns d)
restricted_is ns d tree free =
    by_test (IsTypeOr ns) (is_part part.SimpleContent (holder ns d)) _ _ (λ s. or_of_base_is ns (inline ns d) (base ns d) tree (inline_is ns d tree free) (base_is ns d tree free))
    (λ n. base_is ns d tree free)

-- ---- what a complex type is made of
or_itself_inner : (ns : List Node) (i : ℕ) (o : Option ℕ) → IsInner ns i → ((d : ℕ) → o ≡ Some d → IsInner ns d) → IsInner ns (or_itself i o)
or_itself_inner ns i None h g = h
or_itself_inner ns i (Some d) h g = g d refl

empty_content_fits : (p : Parts) (mixed : Bool) → IsContent p (empty_content mixed)
empty_content_fits p true = tt
empty_content_fits p false = tt

own_content_fits : (ns : List Node) (p : Parts) (i : ℕ) (mixed : Bool) → IsTree ns → length p.particles ≡ length (particles_of ns) → IsInner ns i → IsContent p (own_content ns i mixed)
own_content_fits ns p i mixed tree count h =
    by_test (IsContent p) (is_empty ns i) (empty_content mixed) (content.Parts (model_at ns i) mixed) (λ e. empty_content_fits p mixed)
    (λ e. rw count (model_fits ns i h.outer tree h.free h.held))

content_in_fits : (ns : List Node) (p : Parts) (i : ℕ) (o : Option ℕ) → IsTree ns → length p.particles ≡ length (particles_of ns) → IsInner ns i → ((d : ℕ) → o ≡ Some d → IsInner ns d) → IsContent p (content_in ns i o)
content_in_fits ns p i None tree count h g = own_content_fits ns p i (is_yes (text_at ns attribute.Mixed i)) tree count h
content_in_fits ns p i (Some d) tree count h g = own_content_fits ns p d (is_mixed ns d) tree count (g d refl)

content_by_fits : (ns : List Node) (p : Parts) (i : ℕ) (value : Option TypeAt) → IsTree ns → length p.particles ≡ length (particles_of ns) → AreSimple ns p → IsInner ns i → ValueOr ns value → IsContent p (content_by ns i value)
content_by_fits ns p i (Some t) tree count simple h g = simple_at ns p t simple g.0 g.1
content_by_fits ns p i None tree count simple h g = content_in_fits ns p i (derivation ns i) tree count h (λ d e. derivation_inner ns i d tree h e)

-- with whatever wildcard
pub complex_fits : (joined : Bool) (ns : List Node) (p : Parts) (wild : Option Wild) (value : Option TypeAt) (i : ℕ) → IsTree ns → AllFree joined ns → length p.attributes ≡ length (attributes_of ns) → length p.attribute_groups ≡ length (attribute_groups_of ns) → length p.particles ≡ length (particles_of ns) → AreSimple ns p → IsType ns (type_at.Node i) → ValueOr ns value → IsBody p (body.Complex (complex_of ns wild value i))
complex_fits joined ns p wild value i tree free attribute_count group_count particle_count simple h g =
    let own = type_inner ns i tree h in
    let inner = or_itself_inner ns i (derivation ns i) own (λ d e. derivation_inner ns i d tree own e) in (
      uses_fit joined ns p (attributes_in ns i) inner.outer tree free attribute_count group_count inner.free inner.held,
      content_by_fits ns p i value tree particle_count simple own g,
    )
