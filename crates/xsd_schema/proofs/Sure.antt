-- What is named is there, and no annotation holds it.
use Rattle.std.proofs.Common.{◌≡◌, ℕ, ◌<◌, ◌==◌, Bool, true, false, ◌||◌, ◌&&◌, not, Option, Some, None, inl, inr, List, [], ◌∷◌, length, refl, sym, ap, ◌∙◌, eq-eqb, eqb-true, lt-ltb, ltb-true}
use Rattle.std.specs.Prelude.{nat_lt}
use Rattle.std.specs.List.{list_all, list_any}
use Rattle.std.proofs.lemmas.Bool.{and_from, and_parts, cases_Bool, false≢true}
use Rattle.exi_names.specs.declared.names.QName.{QName}
use Rattle.xsd_tree.specs.Trees.{IsTree}
use Rattle.xsd_tree.specs.declared.node.Node.{Node}
use Rattle.xsd_nodes.specs.Nodes.{holder, is_among_at, is_at, is_skipped, part_at, text_at}
use Rattle.xsd_nodes.specs.PartNames.{is_among, is_part, part_number}
use Rattle.xsd_nodes.specs.declared.attribute_name.AttributeName.TheVariants as attribute
use Rattle.xsd_nodes.specs.declared.part.Part.{Part}
use Rattle.xsd_nodes.specs.declared.part.Part.TheVariants as part
use Rattle.xsd_circles.specs.Circles.{reaches_itself}
use Rattle.xsd_components.specs.References.{at_node, base, built_in_of, component, or_declared, type_of_name, type_parts}
use Rattle.xsd_components.specs.declared.type_at.TypeAt.{TypeAt}
use Rattle.xsd_components.specs.declared.type_at.TypeAt.TheVariants as type_at
use Rattle.xsd_conditions.specs.Conditions.{if_told, is_missing, lacks_item, lacks_simple_base, lacks_type, restricts_nothing}
use Rattle.xsd_derivations.specs.Derivations.{members}
use Rattle.xsd_slots.specs.Slots.{is_unknown}
use Rattle.xsd_told.specs.Told.{lacks_base, lacks_head, refers_to_missing, refers_to_none}
use Rattle.xsd_schema.proofs.Held.{IsHeldBy, among_not, global_free, held_free}
use Rattle.xsd_schema.proofs.Named.{IsGlobal, component_global}

-- ---- the parts to which steps lead
abbrev pub reached_parts : List Part
reached_parts = part.SimpleType ∷ part.ComplexType ∷ part.Group ∷ part.AttributeGroup ∷ part.Element ∷ []

-- no annotation holds it
abbrev pub is_free : List Node → ℕ → Bool
is_free ns i = nat_lt i (length ns) && not (is_skipped ns i)

abbrev pub is_reached : List Node → ℕ → Bool
is_reached ns i = is_free ns i && is_among_at ns reached_parts i

pub not_so : (b : Bool) → not b ≡ true → b ≡ false
not_so true e = absurd (false≢true e)
not_so false e = refl

pub free_from : (ns : List Node) (i : ℕ) → i < length ns → is_skipped ns i ≡ false → is_free ns i ≡ true
free_from ns i less e = and_from (nat_lt i (length ns)) (not (is_skipped ns i)) (lt-ltb i (length ns) less) (ap not e)

pub free_there : (ns : List Node) (i : ℕ) → is_free ns i ≡ true → (i < length ns) × (is_skipped ns i ≡ false)
free_there ns i e =
    let both = and_parts (nat_lt i (length ns)) (not (is_skipped ns i)) e in
    (ltb-true i (length ns) both.0, not_so (is_skipped ns i) both.1)

-- ---- what holds where nothing is wrong with an element, as far as steps ask it
pub record IsSure (ns : List Node) (i : ℕ) : Type 0 where
  pub known : is_unknown ns i ≡ false
  pub base_told : lacks_base ns i ≡ false
  pub base_held : restricts_nothing ns i ≡ false
  pub simple_base : lacks_simple_base ns i ≡ false
  pub content_base : ((is_among_at ns (part.Restriction ∷ part.Extension ∷ []) i && is_among (part.SimpleContent ∷ part.ComplexContent ∷ []) (holder ns i)) && if_told (text_at ns attribute.Base i) (is_missing (base ns i))) ≡ false
  pub item_told : lacks_type ns part.List attribute.ItemType i ≡ false
  pub item_there : lacks_item ns i ≡ false
  pub members_there : (is_at ns part.Union i && list_any is_missing (members ns i)) ≡ false
  pub reference_told : refers_to_none ns i ≡ false
  pub reference_there : refers_to_missing ns i ≡ false
  pub head_there : lacks_head ns i ≡ false
  pub no_circle : (is_among_at ns reached_parts i && reaches_itself ns i) ≡ false

-- ---- parts
-- one of some is one of more
pub one_more_part : (ps qs : List Part) (p : Part) → list_all (is_among qs) ps ≡ true → is_among ps p ≡ true → is_among qs p ≡ true
one_more_part [] qs p e f = absurd (false≢true f)
one_more_part (q ∷ ps) qs p e f =
    let both = and_parts (is_among qs q) (list_all (is_among qs) ps) e in elim (cases_Bool (is_part p q)) [
      | inl is_it ↦ ap (λ (n : ℕ). list_any (λ (r : Part). n == part_number r) qs) (eqb-true (part_number p) (part_number q) is_it) ∙ both.0
      | inr not_it ↦ one_more_part ps qs p both.1 (sym (ap (λ b. b || is_among ps p) not_it) ∙ f)
    ]

pub among_more : (ns : List Node) (ps qs : List Part) (i : ℕ) → list_all (is_among qs) ps ≡ true → is_among_at ns ps i ≡ true → is_among_at ns qs i ≡ true
among_more ns ps qs i e f = one_more_part ps qs (part_at ns i) e f

-- a test of an element's part by another's number
pub number_of : (ns : List Node) (p : Part) (i : ℕ) → is_at ns p i ≡ true → part_number (part_at ns i) ≡ part_number p
number_of ns p i e = sym (eqb-true (part_number p) (part_number (part_at ns i)) e)

pub at_among : (ns : List Node) (p : Part) (qs : List Part) (i : ℕ) → is_at ns p i ≡ true → is_among qs p ≡ true → is_among_at ns qs i ≡ true
at_among ns p qs i e f = ap (λ (n : ℕ). list_any (λ (r : Part). n == part_number r) qs) (number_of ns p i e) ∙ f

pub at_not_among : (ns : List Node) (p : Part) (qs : List Part) (i : ℕ) → is_at ns p i ≡ true → is_among qs p ≡ false → is_among_at ns qs i ≡ false
at_not_among ns p qs i e f = ap (λ (n : ℕ). list_any (λ (r : Part). n == part_number r) qs) (number_of ns p i e) ∙ f

pub at_not : (ns : List Node) (p q : Part) (i : ℕ) → is_at ns p i ≡ true → is_part q p ≡ false → is_at ns q i ≡ false
at_not ns p q i e f = ap (λ (n : ℕ). part_number q == n) (number_of ns p i e) ∙ f

-- one of one part is at it
pub among_one : (ns : List Node) (p : Part) (i : ℕ) → is_among_at ns (p ∷ []) i ≡ true → is_at ns p i ≡ true
among_one ns p i e = elim (cases_Bool (is_part (part_at ns i) p)) [
  | inl is_it ↦ ap (λ (n : ℕ). part_number p == n) (eqb-true (part_number (part_at ns i)) (part_number p) is_it) ∙ same (part_number p)
  | inr not_it ↦ absurd (false≢true (sym (ap (λ b. b || false) not_it) ∙ e))
]
  where
    same : (n : ℕ) → (n == n) ≡ true
    same n = eq-eqb n n refl

-- ---- components that are named
-- a component is one to which steps lead
pub named_reached : (ns : List Node) (kind : List Part) (j : ℕ) → IsTree ns → list_all (is_among reached_parts) kind ≡ true → is_among kind part.Annotation ≡ false → IsGlobal ns kind j → is_reached ns j ≡ true
named_reached ns kind j tree all none h =
    and_from (is_free ns j) (is_among_at ns reached_parts j)
    (free_from ns j h.there (global_free ns j tree h.there h.global (among_not ns kind part.Annotation j h.among none)))
    (among_more ns kind reached_parts j all h.among)

-- ---- types
-- it is built in, or one to which steps lead, if it is there
abbrev pub is_fine : List Node → Option TypeAt → Bool
is_fine ns None = true
is_fine ns (Some (type_at.Built place)) = true
is_fine ns (Some (type_at.Node j)) = is_reached ns j

pub at_node_fine : (ns : List Node) (o : Option ℕ) → ((j : ℕ) → o ≡ Some j → is_reached ns j ≡ true) → is_fine ns (at_node o) ≡ true
at_node_fine ns None h = refl
at_node_fine ns (Some j) h = h j refl

pub declared_fine : (ns : List Node) (built declared : Option ℕ) → is_fine ns (at_node declared) ≡ true → is_fine ns (or_declared built declared) ≡ true
declared_fine ns None declared h = h
declared_fine ns (Some place) declared h = refl

pub type_of_name_fine : (ns : List Node) → IsTree ns → (name : Option QName) → is_fine ns (type_of_name ns name) ≡ true
type_of_name_fine ns tree None = refl
type_of_name_fine ns tree (Some name) =
    declared_fine ns (built_in_of name) (component ns type_parts name)
    (at_node_fine ns (component ns type_parts name) (λ j e. named_reached ns type_parts j tree refl refl (component_global ns type_parts name j e)))

-- what stands within an element that no annotation holds
pub held_reached : (ns : List Node) (ps : List Part) (i j : ℕ) → IsTree ns → list_all (is_among reached_parts) ps ≡ true → is_among ps part.Annotation ≡ false → is_skipped ns i ≡ false → IsHeldBy ns ps i j → is_reached ns j ≡ true
held_reached ns ps i j tree all none free h =
    and_from (is_free ns j) (is_among_at ns reached_parts j)
    (free_from ns j h.there (held_free ns ps i j tree h none free))
    (among_more ns ps reached_parts j all h.among)
