-- The elements that a document without a fault declares: their types and heads are there.
use Rattle.std.proofs.Common.{◌≡◌, ℕ, zero, suc, ◌+◌, ◌<◌, true, false, cond, Option, Some, None, option_map, inl, inr, List, All, length, refl, sym, ap, ◌∙◌, arith}
use Rattle.std.proofs.lemmas.Bool.{cases_Bool}
use Rattle.std.proofs.lemmas.List.Elements.{All-same}
use Rattle.std.proofs.lemmas.Option.{none-some}
use Rattle.xsd_model.specs.Parts.{IsBelow, IsElement, Parts}
use Rattle.xsd_tree.specs.Trees.{IsTree}
use Rattle.xsd_tree.specs.declared.node.Node.{Node}
use Rattle.xsd_nodes.specs.Nodes.{child, is_global, is_skipped, text_at}
use Rattle.xsd_nodes.specs.declared.attribute_name.AttributeName.TheVariants as attribute
use Rattle.xsd_components.specs.References.{at_node, elements, text_names, type_parts}
use Rattle.xsd_components.specs.declared.type_at.TypeAt.{TypeAt}
use Rattle.xsd_components.specs.declared.type_at.TypeAt.TheVariants as type_at
use Rattle.xsd_places.specs.Kinds.{count_before, is_kind, place_of, place_of_type}
use Rattle.xsd_places.specs.declared.kind.Kind.TheVariants as kind
use Rattle.xsd_declared.specs.Decls.{after_step, element_type, element_type_within, head_at, or_head, told_type, type_told}
use Rattle.xsd_declared.specs.Lists.{element_at, elements_of}
use Rattle.xsd_schema.proofs.Counted.{all_listed, count_less, listing_within}
use Rattle.xsd_schema.proofs.Held.{child_held}
use Rattle.xsd_schema.proofs.Named.{IsGlobal, IsType, IsTypeOr, element_kind, global_one_free, held_type_is, kind_parts, named_type_is, text_names_global}

-- how many types there are
abbrev pub type_count : List Node → ℕ
type_count ns = 46 + count_before (is_kind kind.Type ns) (length ns)

pub type_within : (ns : List Node) (t : TypeAt) → IsType ns t → place_of_type ns t < type_count ns
type_within ns (type_at.Built place) h = omega (arith, h)
type_within ns (type_at.Node i) h = let less = count_less (is_kind kind.Type ns) i (length ns) h.1 h.0 in omega (arith, less)

-- ---- the type that is told
node_type : (ns : List Node) (o : Option ℕ) → ((c : ℕ) → o ≡ Some c → IsType ns (type_at.Node c)) → IsTypeOr ns (at_node o)
node_type ns None h = tt
node_type ns (Some c) h = h c refl

pub held_type : (ns : List Node) (i : ℕ) → IsTree ns → is_skipped ns i ≡ false → IsTypeOr ns (at_node (child ns type_parts i))
held_type ns i tree free = node_type ns (child ns type_parts i) (λ c e. let h = child_held ns type_parts i c e in held_type_is ns type_parts i c tree h free refl h.among)

pub told_is : (ns : List Node) (i : ℕ) (text : Option (List ℕ)) → IsTree ns → is_skipped ns i ≡ false → IsTypeOr ns (type_told ns i text)
told_is ns i None tree free = held_type ns i tree free
told_is ns i (Some text) tree free = named_type_is ns i text tree

-- ---- heads
pub head_global : (ns : List Node) (i h : ℕ) → head_at ns i ≡ Some h → IsGlobal ns elements h
head_global ns i h e = elim (cases_Bool (is_global ns i)) [
  | inl global ↦ text_names_global ns elements i (text_at ns attribute.SubstitutionGroup i) h (sym (ap (λ b. cond b (text_names ns elements i (text_at ns attribute.SubstitutionGroup i)) None) global) ∙ e)
  | inr local ↦ absurd (none-some h (sym (ap (λ b. cond b (text_names ns elements i (text_at ns attribute.SubstitutionGroup i)) None) local) ∙ e))
]

-- ---- its own type, or else that of its head
after_is : (ns : List Node) (more : ℕ → TypeAt) (head : Option ℕ) (told : Option TypeAt) → ((h : ℕ) → head ≡ Some h → IsType ns (more h)) → IsTypeOr ns told → IsType ns (after_step more (or_head head told))
after_is ns more head (Some t) h g = g
after_is ns more None None h g = omega arith
after_is ns more (Some j) None h g = h j refl

pub within_is : (n : ℕ) (ns : List Node) (i : ℕ) → IsTree ns → is_skipped ns i ≡ false → IsType ns (element_type_within n ns i)
within_is zero ns i tree free = omega arith
within_is (suc n) ns i tree free =
    after_is ns (element_type_within n ns) (head_at ns i) (told_type ns i)
    (λ h e. within_is n ns h tree (global_one_free ns elements h tree (head_global ns i h e) refl))
    (told_is ns i (text_at ns attribute.Type i) tree free)

pub element_type_is : (ns : List Node) (i : ℕ) → IsTree ns → is_skipped ns i ≡ false → IsType ns (element_type ns i)
element_type_is ns i tree free = within_is (length ns + 1) ns i tree free

-- ---- the elements
pub element_within : (ns : List Node) (i : ℕ) → i < length ns → is_kind kind.Element ns i ≡ true → place_of kind.Element ns i < length (elements_of ns)
element_within ns i less e = listing_within (element_at ns) (is_kind kind.Element ns) ns i less e

below_head : (ns : List Node) (o : Option ℕ) → IsTree ns → ((h : ℕ) → o ≡ Some h → IsGlobal ns elements h) → IsBelow (length (elements_of ns)) (option_map (place_of kind.Element ns) o)
below_head ns None tree g = tt
below_head ns (Some h) tree g = let global = g h refl in element_within ns h global.there (element_kind ns h tree global)

pub element_fits : (ns : List Node) (p : Parts) (i : ℕ) → IsTree ns → p.elements ≡ elements_of ns → length p.types ≡ type_count ns → is_kind kind.Element ns i ≡ true → IsElement p (element_at ns i)
element_fits ns p i tree elements_are types_are e = record {
  type_is = let less = type_within ns (element_type ns i) (element_type_is ns i tree (kind_parts kind.Element ns i e).0) in omega (arith, less, types_are);
  head_is = rw elements_are (below_head ns (head_at ns i) tree (λ h f. head_global ns i h f));
}

pub elements_fit : (ns : List Node) (p : Parts) → IsTree ns → p.elements ≡ elements_of ns → length p.types ≡ type_count ns → All (IsElement p) p.elements
elements_fit ns p tree elements_are types_are =
    All-same (IsElement p) p.elements (elements_of ns) elements_are
    (all_listed (element_at ns) (is_kind kind.Element ns) (IsElement p) ns (λ i less e. element_fits ns p i tree elements_are types_are e))
