-- The attributes that a document without a fault declares, and the uses of them: types are simple, and what is used is there.
use Rattle.std.proofs.Common.{◌≡◌, ℕ, ◌+◌, ◌<◌, Bool, true, false, cond, ◌||◌, ◌&&◌, not, Option, Some, None, inl, inr, List, [], ◌∷◌, All, length, refl, sym, ap, ◌∙◌, arith}
use Rattle.std.specs.Prelude.{◌==◌}
use Rattle.std.proofs.lemmas.Bool.{and_from, and_parts, cases_Bool, false≢true, or_cases, or_parts, true≢false}
use Rattle.xsd_model.specs.Parts.{IsAttribute, IsSimpleAt, IsUse, Parts}
use Rattle.xsd_model.specs.declared.parts.AttributeGroup.{AttributeGroup}
use Rattle.xsd_builtins.specs.BuiltIns.{any_simple, any_type}
use Rattle.xsd_tree.specs.Trees.{IsTree}
use Rattle.xsd_tree.specs.declared.node.Node.{Node}
use Rattle.xsd_nodes.specs.Nodes.{child, holder, is_at, is_child, is_global, is_skipped, parent_at, part_at, text_at}
use Rattle.xsd_nodes.specs.PartNames.{is_among, is_part}
use Rattle.xsd_nodes.specs.declared.attribute_name.AttributeName.TheVariants as attribute
use Rattle.xsd_nodes.specs.declared.part.Part.{Part}
use Rattle.xsd_nodes.specs.declared.part.Part.TheVariants as part
use Rattle.xsd_components.specs.References.{at_node, attribute_groups, attributes, is_simple, named_type, simple_only, text_names, text_names_type, type_parts}
use Rattle.xsd_components.specs.declared.type_at.TypeAt.{TypeAt}
use Rattle.xsd_components.specs.declared.type_at.TypeAt.TheVariants as type_at
use Rattle.xsd_conditions.specs.Conditions.{if_told, is_missing}
use Rattle.xsd_declared.specs.Decls.{attribute_decl, attribute_group, attribute_meant, group_meant, or_any_simple, or_zero, told_type, type_told, use_at, uses_at}
use Rattle.xsd_declared.specs.Lists.{attribute_groups_of, attributes_of}
use Rattle.xsd_places.specs.Kinds.{count_before, is_kind, is_prohibited, place_of, place_of_type, refers}
use Rattle.xsd_places.specs.declared.kind.Kind.TheVariants as kind
use Rattle.xsd_slots.specs.Slots.{come_to, is_misplaced, is_out_of, is_told_twice, is_unknown, is_unknown_in, slot_of, slots}
use Rattle.xsd_told.specs.Told.{names_no_simple_type, names_no_type, names_no_type_at_all}
use Rattle.xsd_schema.proofs.Counted.{all_listed, listing_within}
use Rattle.xsd_schema.proofs.Elements.{told_is}
use Rattle.xsd_schema.proofs.Free.{IsFree}
use Rattle.xsd_schema.proofs.Held.{IsHeldBy, child_held, global_parent, held_by, held_free, part_told, same_part}
use Rattle.xsd_schema.proofs.Named.{IsType, IsTypeOr, attribute_group_kind, attribute_kind, kind_free, kind_parts, text_names_global}
use Rattle.xsd_schema.proofs.Refers.{AllFree, attribute_group_referred, attribute_referred, held_local}
use Rattle.xsd_schema.proofs.Tests.{by_test, not_true}

-- ---- the types of the parts: at the places of simple types stand simple types
pub record AreSimple (ns : List Node) (p : Parts) : Type 0 where
  pub built : (place : ℕ) → place < 46 → not (place == any_type) ≡ true → IsSimpleAt p place
  pub declared : (i : ℕ) → i < length ns → is_kind kind.Type ns i ≡ true → is_at ns part.ComplexType i ≡ false → IsSimpleAt p (46 + count_before (is_kind kind.Type ns) i)

pub simple_at : (ns : List Node) (p : Parts) (t : TypeAt) → AreSimple ns p → IsType ns t → is_simple ns t ≡ true → IsSimpleAt p (place_of_type ns t)
simple_at ns p (type_at.Built place) h there e = h.built place there e
simple_at ns p (type_at.Node i) h there e = h.declared i there.0 there.1 (not_true (is_at ns part.ComplexType i) e)

-- ---- the type of an attribute
abbrev pub SimpleOr : List Node → Option TypeAt → Type 0
SimpleOr ns None = Unit {0}
SimpleOr ns (Some t) = is_simple ns t ≡ true

-- a simple type that is named
simple_there : (ns : List Node) (o : Option TypeAt) → is_missing (simple_only ns o) ≡ false → SimpleOr ns o
simple_there ns None e = tt
simple_there ns (Some t) e = elim (cases_Bool (is_simple ns t)) [
  | inl simple ↦ simple
  | inr other_type ↦ absurd (true≢false (sym (ap (λ b. is_missing (cond b (Some t) None)) other_type) ∙ e))
]

-- within an attribute no complex type stands
no_complex : (ns : List Node) (i c : ℕ) → part_at ns i ≡ part.Attribute → parent_at ns c ≡ Some i → is_unknown ns c ≡ false → is_at ns part.ComplexType c ≡ false
no_complex ns i c outer e known = elim (cases_Bool (is_at ns part.ComplexType c)) [
  | inr simple ↦ simple
  | inl complex ↦
      let told : (is_misplaced ns i c || is_told_twice ns i c) ≡ false = sym (ap (is_unknown_in ns c) e) ∙ known in
      let placed : is_out_of (come_to ns c i) (slot_of (slots (holder ns i) (part_at ns i)) (part_at ns c)) ≡ false = (or_parts (is_misplaced ns i c) (is_told_twice ns i c) told).0 in
      let nowhere : slot_of (slots (holder ns i) (part_at ns i)) (part_at ns c) ≡ None =
      ap (λ (q : Part). slot_of (slots (holder ns i) q) (part_at ns c)) outer
      ∙ ap (λ (q : Part). slot_of (slots (holder ns i) part.Attribute) q) (part_told ns part.ComplexType c complex) in
      absurd (true≢false (sym (ap (is_out_of (come_to ns c i)) nowhere) ∙ placed))
]

held_simple : (ns : List Node) (o : Option ℕ) → ((c : ℕ) → o ≡ Some c → is_at ns part.ComplexType c ≡ false) → SimpleOr ns (at_node o)
held_simple ns None h = tt
held_simple ns (Some c) h = ap not (h c refl)

told_simple : (joined : Bool) (ns : List Node) (i : ℕ) (text : Option (List ℕ)) → IsTree ns → AllFree joined ns → is_skipped ns i ≡ false → part_at ns i ≡ part.Attribute → if_told text (is_missing (simple_only ns (text_names_type ns i text))) ≡ false → SimpleOr ns (type_told ns i text)
told_simple joined ns i (Some text) tree free outer e known = simple_there ns (named_type ns i text) known
told_simple joined ns i None tree free outer e known =
    held_simple ns (child ns type_parts i)
    (λ c f.
    let h = child_held ns type_parts i c f in
    no_complex ns i c e h.parent (free c h.there (held_free ns type_parts i c tree h refl outer)).unknown)

-- what is named is there
names_simple : (ns : List Node) (i : ℕ) → part_at ns i ≡ part.Attribute → names_no_type ns i ≡ false → names_no_simple_type ns i ≡ false
names_simple ns i e known = sym (ap (λ (q : Part). cond (is_part part.Element q) (names_no_type_at_all ns i) (is_part part.Attribute q && names_no_simple_type ns i)) e) ∙ known

or_any_is : (ns : List Node) (p : Parts) (o : Option TypeAt) → AreSimple ns p → IsTypeOr ns o → SimpleOr ns o → IsSimpleAt p (place_of_type ns (or_any_simple o))
or_any_is ns p None h there simple = h.built any_simple (omega arith) refl
or_any_is ns p (Some t) h there simple = simple_at ns p t h there simple

attribute_part : (ns : List Node) (i : ℕ) → is_kind kind.Attribute ns i ≡ true → part_at ns i ≡ part.Attribute
attribute_part ns i e =
    let one = and_parts (is_at ns part.Attribute i && not (refers ns i)) (not (is_prohibited ns i)) (kind_parts kind.Attribute ns i e).1 in
    part_told ns part.Attribute i (and_parts (is_at ns part.Attribute i) (not (refers ns i)) one.0).0

pub attribute_fits : (joined : Bool) (ns : List Node) (p : Parts) (i : ℕ) → IsTree ns → AllFree joined ns → AreSimple ns p → i < length ns → is_kind kind.Attribute ns i ≡ true → IsAttribute p (attribute_decl ns i)
attribute_fits joined ns p i tree free h less e =
    let outer = (kind_parts kind.Attribute ns i e).0 in
    let is_it = attribute_part ns i e in
    let known = names_simple ns i is_it (free i less outer).no_type in
    record { simple = or_any_is ns p (told_type ns i) h (told_is ns i (text_at ns attribute.Type i) tree outer) (told_simple joined ns i (text_at ns attribute.Type i) tree free outer is_it known) }

pub attributes_fit : (joined : Bool) (ns : List Node) (p : Parts) → IsTree ns → AllFree joined ns → AreSimple ns p → All (IsAttribute p) (attributes_of ns)
attributes_fit joined ns p tree free h = all_listed (attribute_decl ns) (is_kind kind.Attribute ns) (IsAttribute p) ns (λ i less e. attribute_fits joined ns p i tree free h less e)

-- ---- uses
pub attribute_within : (ns : List Node) (i : ℕ) → i < length ns → is_kind kind.Attribute ns i ≡ true → place_of kind.Attribute ns i < length (attributes_of ns)
attribute_within ns i less e = listing_within (attribute_decl ns) (is_kind kind.Attribute ns) ns i less e

pub attribute_group_within : (ns : List Node) (i : ℕ) → i < length ns → is_kind kind.AttributeGroup ns i ≡ true → place_of kind.AttributeGroup ns i < length (attribute_groups_of ns)
attribute_group_within ns i less e = listing_within (attribute_group ns) (is_kind kind.AttributeGroup ns) ns i less e

-- the parts that hold attributes list these two
abbrev pub used : List Part
used = part.Attribute ∷ part.AttributeGroup ∷ []

attribute_there : (joined : Bool) (ns : List Node) (i : ℕ) → IsTree ns → IsFree joined ns i → i < length ns → is_skipped ns i ≡ false → part_at ns i ≡ part.Attribute → is_prohibited ns i ≡ false → (attribute_meant ns i < length ns) × (is_kind kind.Attribute ns (attribute_meant ns i) ≡ true)
attribute_there joined ns i tree free less outer e allowed = elim (cases_Bool (refers ns i)) [
  | inl told ↦
      let found = attribute_referred joined ns i free e told in
      let global = text_names_global ns attributes i (text_at ns attribute.Ref i) found.0 found.1 in
      let meant : attribute_meant ns i ≡ found.0 = ap (λ b. cond b (or_zero (text_names ns attributes i (text_at ns attribute.Ref i))) i) told ∙ ap or_zero found.1 in
      rw meant (global.there, attribute_kind ns found.0 tree global)
  | inr own ↦
      let meant : attribute_meant ns i ≡ i = ap (λ b. cond b (or_zero (text_names ns attributes i (text_at ns attribute.Ref i))) i) own in
      rw meant (
        less,
        kind_free kind.Attribute ns i outer
            (and_from (is_at ns part.Attribute i && not (refers ns i)) (not (is_prohibited ns i))
            (and_from (is_at ns part.Attribute i) (not (refers ns i)) (ap (is_part part.Attribute) e) (ap not own)) (ap not allowed)),
      )
]

group_there : (joined : Bool) (ns : List Node) (i : ℕ) → IsTree ns → IsFree joined ns i → part_at ns i ≡ part.AttributeGroup → is_global ns i ≡ false → (group_meant ns i < length ns) × (is_kind kind.AttributeGroup ns (group_meant ns i) ≡ true)
group_there joined ns i tree free e local =
    let found = attribute_group_referred joined ns i free e local in
    let global = text_names_global ns attribute_groups i (text_at ns attribute.Ref i) found.0 found.1 in
    let meant : group_meant ns i ≡ found.0 = ap or_zero found.1 in
    rw meant (global.there, attribute_group_kind ns found.0 tree global)

-- of two parts, not the second is the first
first_used : (q : Part) → is_among used q ≡ true → is_part part.AttributeGroup q ≡ false → q ≡ part.Attribute
first_used q e n = elim (or_cases (is_part q part.Attribute) (is_among (part.AttributeGroup ∷ []) q) e) [
  | inl is_it ↦ same_part q part.Attribute is_it
  | inr more ↦ elim (or_cases (is_part q part.AttributeGroup) false more) [
    | inl is_group ↦ absurd (true≢false (sym (ap (is_part part.AttributeGroup) (same_part q part.AttributeGroup is_group)) ∙ n))
    | inr none ↦ absurd (false≢true none)
  ]
]

pub use_fits : (joined : Bool) (ns : List Node) (p : Parts) (i c r : ℕ) → IsTree ns → AllFree joined ns → length p.attributes ≡ length (attributes_of ns) → length p.attribute_groups ≡ length (attribute_groups_of ns) → is_skipped ns i ≡ false → parent_at ns i ≡ Some r → IsHeldBy ns used i c → IsUse p (use_at ns c)
use_fits joined ns p i c r tree free attribute_count group_count outer up h =
    let own = held_free ns used i c tree h refl outer in
    let fine = free c h.there own in
    by_test (IsUse p) (is_at ns part.AttributeGroup c) _ _
    (λ is_it.
    let there = group_there joined ns c tree fine (part_told ns part.AttributeGroup c is_it) (held_local ns i c r h.parent up) in
    let below = attribute_group_within ns (group_meant ns c) there.0 there.1 in
    omega (arith, below, group_count))
    (λ n. by_test (IsUse p) (is_prohibited ns c) _ _ (λ is_it. tt)
    (λ allowed.
    let there = attribute_there joined ns c tree fine h.there own (first_used (part_at ns c) h.among n) allowed in
    let below = attribute_within ns (attribute_meant ns c) there.0 there.1 in
    omega (arith, below, attribute_count)))

pub uses_fit : (joined : Bool) (ns : List Node) (p : Parts) (i r : ℕ) → IsTree ns → AllFree joined ns → length p.attributes ≡ length (attributes_of ns) → length p.attribute_groups ≡ length (attribute_groups_of ns) → is_skipped ns i ≡ false → parent_at ns i ≡ Some r → All (IsUse p) (uses_at ns i)
uses_fit joined ns p i r tree free attribute_count group_count outer up =
    all_listed (use_at ns) (is_child ns used i) (IsUse p) ns
    (λ c less e. use_fits joined ns p i c r tree free attribute_count group_count outer up (held_by ns used i c less e))

-- ---- groups of attributes
pub attribute_group_fits : (joined : Bool) (ns : List Node) (p : Parts) (i : ℕ) → IsTree ns → AllFree joined ns → length p.attributes ≡ length (attributes_of ns) → length p.attribute_groups ≡ length (attribute_groups_of ns) → is_kind kind.AttributeGroup ns i ≡ true → All (IsUse p) (uses_at ns i)
attribute_group_fits joined ns p i tree free attribute_count group_count e =
    let parts = kind_parts kind.AttributeGroup ns i e in
    let both = and_parts (is_at ns part.AttributeGroup i) (is_global ns i) parts.1 in
    let up = global_parent ns i both.1 in
    uses_fit joined ns p i up.0 tree free attribute_count group_count parts.0 up.1

pub attribute_groups_fit : (joined : Bool) (ns : List Node) (p : Parts) → IsTree ns → AllFree joined ns → length p.attributes ≡ length (attributes_of ns) → length p.attribute_groups ≡ length (attribute_groups_of ns) → All (λ g. All (IsUse p) g.uses) (attribute_groups_of ns)
attribute_groups_fit joined ns p tree free attribute_count group_count =
    all_listed (attribute_group ns) (is_kind kind.AttributeGroup ns) (λ (g : AttributeGroup). All (IsUse p) g.uses) ns
    (λ i less e. attribute_group_fits joined ns p i tree free attribute_count group_count e)
