-- What references of a schema document name: components that are there, and that no annotation holds.
use Rattle.std.proofs.Common.{◌≡◌, ℕ, ◌+◌, ◌<◌, Bool, true, false, cond, ◌||◌, ◌&&◌, not, codes, Option, Some, None, inl, inr, List, [], ◌∷◌, length, refl, sym, ap, ◌∙◌, arith}
use Rattle.std.specs.Str.{bytes_eq}
use Rattle.std.proofs.lemmas.Bool.{and_parts, and_from, cases_Bool, false≢true, or_cases}
use Rattle.std.proofs.lemmas.Option.{none-some}
use Rattle.exi_names.specs.declared.names.QName.{QName}
use Rattle.xsd_builtins.specs.BuiltIns.{built_in, built_in_names, place_among}
use Rattle.xsd_tree.specs.Trees.{IsTree, xsd}
use Rattle.xsd_tree.specs.declared.node.Node.{Node}
use Rattle.xsd_nodes.specs.Nodes.{has, holder, is_among_at, is_at, is_global, is_skipped, part_at, text_at}
use Rattle.xsd_nodes.specs.PartNames.{is_among, is_part}
use Rattle.xsd_nodes.specs.declared.attribute_name.AttributeName.TheVariants as attribute
use Rattle.xsd_nodes.specs.declared.part.Part.{Part}
use Rattle.xsd_nodes.specs.declared.part.Part.TheVariants as part
use Rattle.xsd_names.specs.Names.{named, own_name}
use Rattle.xsd_components.specs.References.{attribute_groups, attributes, built_in_of, component, component_of, declares, elements, groups, is_name, is_simple, named_component, named_type, or_declared, simple_only, complex_only, text_names, text_names_type, type_of_name, type_parts}
use Rattle.xsd_components.specs.declared.type_at.TypeAt.{TypeAt}
use Rattle.xsd_components.specs.declared.type_at.TypeAt.TheVariants as type_at
use Rattle.xsd_document.proofs.Below.{or_zero}
use Rattle.xsd_places.specs.Kinds.{is_kind, is_node_of, is_prohibited, is_told, refers}
use Rattle.xsd_places.specs.declared.kind.Kind.{Kind}
use Rattle.xsd_places.specs.declared.kind.Kind.TheVariants as kind
use Rattle.xsd_schema.proofs.Held.{IsHeldBy, among_not, found_passes, global_free, held_free, same_part}

-- ---- global components
pub record IsGlobal (ns : List Node) (ps : List Part) (j : ℕ) : Type 0 where
  pub there : j < length ns
  pub global : is_global ns j ≡ true
  pub among : is_among_at ns ps j ≡ true

pub component_global : (ns : List Node) (ps : List Part) (name : QName) (j : ℕ) → component ns ps name ≡ Some j → IsGlobal ns ps j
component_global ns ps name j e =
    let found = found_passes (declares ns ps name) ns j e in
    let one = and_parts (is_global ns j && is_among_at ns ps j) (is_name name (own_name ns j)) found.1 in
    let two = and_parts (is_global ns j) (is_among_at ns ps j) one.0 in
    record { there = found.0; global = two.0; among = two.1 }

component_of_global : (ns : List Node) (ps : List Part) (name : Option QName) (j : ℕ) → component_of ns ps name ≡ Some j → IsGlobal ns ps j
component_of_global ns ps None j e = absurd (none-some j e)
component_of_global ns ps (Some name) j e = component_global ns ps name j e

pub named_global : (ns : List Node) (ps : List Part) (i : ℕ) (text : List ℕ) (j : ℕ) → named_component ns ps i text ≡ Some j → IsGlobal ns ps j
named_global ns ps i text j e = component_of_global ns ps (named ns i text) j e

pub text_names_global : (ns : List Node) (ps : List Part) (i : ℕ) (text : Option (List ℕ)) (j : ℕ) → text_names ns ps i text ≡ Some j → IsGlobal ns ps j
text_names_global ns ps i None j e = absurd (none-some j e)
text_names_global ns ps i (Some text) j e = named_global ns ps i text j e

-- no annotation holds it
pub global_one_free : (ns : List Node) (ps : List Part) (j : ℕ) → IsTree ns → IsGlobal ns ps j → is_among ps part.Annotation ≡ false → is_skipped ns j ≡ false
global_one_free ns ps j tree h none = global_free ns j tree h.there h.global (among_not ns ps part.Annotation j h.among none)

-- ---- kinds
pub kind_free : (k : Kind) (ns : List Node) (i : ℕ) → is_skipped ns i ≡ false → is_node_of k ns i ≡ true → is_kind k ns i ≡ true
kind_free k ns i free e = ap (λ b. cond b false (is_node_of k ns i)) free ∙ e

-- and what is of a kind
pub kind_parts : (k : Kind) (ns : List Node) (i : ℕ) → is_kind k ns i ≡ true → (is_skipped ns i ≡ false) × (is_node_of k ns i ≡ true)
kind_parts k ns i e = elim (cases_Bool (is_skipped ns i)) [
  | inl held ↦ absurd (false≢true (sym (ap (λ b. cond b false (is_node_of k ns i)) held) ∙ e))
  | inr free ↦ (free, sym (ap (λ b. cond b false (is_node_of k ns i)) free) ∙ e)
]

one_of : (b : Bool) → (b || false) ≡ true → b ≡ true
one_of true e = refl
one_of false e = e

only : (ns : List Node) (p : Part) (j : ℕ) → is_among_at ns (p ∷ []) j ≡ true → part_at ns j ≡ p
only ns p j e = same_part (part_at ns j) p (one_of (is_part (part_at ns j) p) e)

pub only_at : (ns : List Node) (p : Part) (j : ℕ) → is_among_at ns (p ∷ []) j ≡ true → is_part p p ≡ true → is_at ns p j ≡ true
only_at ns p j e own = ap (is_part p) (only ns p j e) ∙ own

-- a global one does not refer
pub global_refers : (ns : List Node) (j : ℕ) → is_global ns j ≡ true → refers ns j ≡ false
global_refers ns j e = ap (λ b. not b && has (text_at ns attribute.Ref j)) e

pub global_prohibited : (ns : List Node) (j : ℕ) → is_global ns j ≡ true → is_prohibited ns j ≡ false
global_prohibited ns j e = ap (λ b. not b && is_told ns attribute.Use (codes "prohibited") j) e

pub element_kind : (ns : List Node) (j : ℕ) → IsTree ns → IsGlobal ns elements j → is_kind kind.Element ns j ≡ true
element_kind ns j tree h =
    kind_free kind.Element ns j (global_one_free ns elements j tree h refl)
    (and_from (is_at ns part.Element j) (not (refers ns j)) (only_at ns part.Element j h.among refl) (ap not (global_refers ns j h.global)))

pub attribute_kind : (ns : List Node) (j : ℕ) → IsTree ns → IsGlobal ns attributes j → is_kind kind.Attribute ns j ≡ true
attribute_kind ns j tree h =
    kind_free kind.Attribute ns j (global_one_free ns attributes j tree h refl)
    (and_from (is_at ns part.Attribute j && not (refers ns j)) (not (is_prohibited ns j))
    (and_from (is_at ns part.Attribute j) (not (refers ns j)) (only_at ns part.Attribute j h.among refl) (ap not (global_refers ns j h.global)))
    (ap not (global_prohibited ns j h.global)))

pub group_kind : (ns : List Node) (j : ℕ) → IsTree ns → IsGlobal ns groups j → is_kind kind.Group ns j ≡ true
group_kind ns j tree h =
    kind_free kind.Group ns j (global_one_free ns groups j tree h refl)
    (and_from (is_at ns part.Group j) (is_global ns j) (only_at ns part.Group j h.among refl) h.global)

pub attribute_group_kind : (ns : List Node) (j : ℕ) → IsTree ns → IsGlobal ns attribute_groups j → is_kind kind.AttributeGroup ns j ≡ true
attribute_group_kind ns j tree h =
    kind_free kind.AttributeGroup ns j (global_one_free ns attribute_groups j tree h refl)
    (and_from (is_at ns part.AttributeGroup j) (is_global ns j) (only_at ns part.AttributeGroup j h.among refl) h.global)

-- an element that is a type
type_of : (ns : List Node) (j : ℕ) → is_among_at ns type_parts j ≡ true → is_node_of kind.Type ns j ≡ true
type_of ns j e = by_part (part_at ns j) (is_part part.SimpleContent (holder ns j)) e
  where
    by_part : (q : Part) (within : Bool) → is_among type_parts q ≡ true → ((is_part part.SimpleType q || (is_part part.Restriction q && within)) || is_part part.ComplexType q) ≡ true
    by_part q within e = elim (or_cases (is_part q part.SimpleType) (is_part q part.ComplexType || false) e) [
      | inl simple ↦ ap (λ (p : Part). (is_part part.SimpleType p || (is_part part.Restriction p && within)) || is_part part.ComplexType p) (same_part q part.SimpleType simple)
      | inr complex ↦ ap (λ (p : Part). (is_part part.SimpleType p || (is_part part.Restriction p && within)) || is_part part.ComplexType p) (same_part q part.ComplexType (one_of (is_part q part.ComplexType) complex))
    ]

pub type_kind : (ns : List Node) (j : ℕ) → is_skipped ns j ≡ false → is_among_at ns type_parts j ≡ true → is_kind kind.Type ns j ≡ true
type_kind ns j free e = kind_free kind.Type ns j free (type_of ns j e)

pub global_type_kind : (ns : List Node) (j : ℕ) → IsTree ns → IsGlobal ns type_parts j → is_kind kind.Type ns j ≡ true
global_type_kind ns j tree h = type_kind ns j (global_one_free ns type_parts j tree h refl) h.among

-- ---- types
-- it is there: a built-in one, or an element that declares a type
abbrev pub IsType : List Node → TypeAt → Type 0
IsType ns (type_at.Built place) = place < 46
IsType ns (type_at.Node i) = (i < length ns) × (is_kind kind.Type ns i ≡ true)

abbrev pub IsTypeOr : List Node → Option TypeAt → Type 0
IsTypeOr ns None = Unit {0}
IsTypeOr ns (Some t) = IsType ns t

place_below : (name : List ℕ) (place : ℕ) (names : List (List ℕ)) (k : ℕ) → place_among name place names ≡ Some k → k < place + length names
place_below name place [] k e = absurd (none-some k e)
place_below name place (n ∷ names) k e = elim (cases_Bool (bytes_eq name n)) [
  | inl same ↦
      let here : place ≡ k = ap or_zero (sym (ap (λ b. cond b (Some place) (place_among name (place + 1) names)) same) ∙ e) in
      omega (arith, here)
  | inr differ ↦
      let less = place_below name (place + 1) names k (sym (ap (λ b. cond b (Some place) (place_among name (place + 1) names)) differ) ∙ e) in
      omega (arith, less)
]

built_in_count : length built_in_names ≡ 46
unfolding built_in_names
built_in_count = refl

built_in_below : (name : List ℕ) (k : ℕ) → built_in name ≡ Some k → k < 46
built_in_below name k e =
    let less = place_below name 0 built_in_names k e in
    omega (arith, less, built_in_count)

built_in_of_below : (name : QName) (k : ℕ) → built_in_of name ≡ Some k → k < 46
built_in_of_below name k e = elim (cases_Bool (bytes_eq name.uri xsd)) [
  | inl same ↦ built_in_below name.local k (sym (ap (λ b. cond b (built_in name.local) None) same) ∙ e)
  | inr differ ↦ absurd (none-some k (sym (ap (λ b. cond b (built_in name.local) None) differ) ∙ e))
]

-- of what is declared
or_declared_is : (ns : List Node) (built declared : Option ℕ) → ((k : ℕ) → built ≡ Some k → k < 46) → ((j : ℕ) → declared ≡ Some j → IsType ns (type_at.Node j)) → IsTypeOr ns (or_declared built declared)
or_declared_is ns (Some k) declared h g = h k refl
or_declared_is ns None None h g = tt
or_declared_is ns None (Some j) h g = g j refl

pub declared_type : (ns : List Node) (name : QName) (j : ℕ) → IsTree ns → component ns type_parts name ≡ Some j → IsType ns (type_at.Node j)
declared_type ns name j tree e =
    let global = component_global ns type_parts name j e in
    (global.there, global_type_kind ns j tree global)

type_of_name_is : (ns : List Node) (name : Option QName) → IsTree ns → IsTypeOr ns (type_of_name ns name)
type_of_name_is ns None tree = tt
type_of_name_is ns (Some name) tree = or_declared_is ns (built_in_of name) (component ns type_parts name) (λ k e. built_in_of_below name k e) (λ j e. declared_type ns name j tree e)

pub named_type_is : (ns : List Node) (i : ℕ) (text : List ℕ) → IsTree ns → IsTypeOr ns (named_type ns i text)
named_type_is ns i text tree = type_of_name_is ns (named ns i text) tree

pub text_names_type_is : (ns : List Node) (i : ℕ) (text : Option (List ℕ)) → IsTree ns → IsTypeOr ns (text_names_type ns i text)
text_names_type_is ns i None tree = tt
text_names_type_is ns i (Some text) tree = named_type_is ns i text tree

-- one that stands within an element that no annotation holds
pub held_type_is : (ns : List Node) (ps : List Part) (i c : ℕ) → IsTree ns → IsHeldBy ns ps i c → is_skipped ns i ≡ false → is_among ps part.Annotation ≡ false → is_among_at ns type_parts c ≡ true → IsType ns (type_at.Node c)
held_type_is ns ps i c tree h free none among = (h.there, type_kind ns c (held_free ns ps i c tree h none free) among)

-- where only a simple, or only a complex one counts
only_is : (ns : List Node) (b : Bool) (t : TypeAt) → IsType ns t → IsTypeOr ns (cond b (Some t) None)
only_is ns true t h = h
only_is ns false t h = tt

pub simple_only_is : (ns : List Node) (o : Option TypeAt) → IsTypeOr ns o → IsTypeOr ns (simple_only ns o)
simple_only_is ns None h = tt
simple_only_is ns (Some t) h = only_is ns (is_simple ns t) t h

not_is : (ns : List Node) (b : Bool) (t : TypeAt) → IsType ns t → IsTypeOr ns (cond b None (Some t))
not_is ns true t h = tt
not_is ns false t h = h

pub complex_only_is : (ns : List Node) (o : Option TypeAt) → IsTypeOr ns o → IsTypeOr ns (complex_only ns o)
complex_only_is ns None h = tt
complex_only_is ns (Some t) h = not_is ns (is_simple ns t) t h
