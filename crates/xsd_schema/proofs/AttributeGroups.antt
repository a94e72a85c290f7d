-- The groups of attributes that groups of attributes name: each path along them ends.
use Rattle.std.proofs.Common.{◌≡◌, ℕ, ◌<◌, Bool, true, List, [], ◌∷◌, length, refl, sym, ap, ◌∙◌, eq-eqb}
use Rattle.std.specs.List.{list_all, slice_get}
use Rattle.std.proofs.lemmas.Bool.{and_from, and_parts, cond-false, cond-true, cond_both}
use Rattle.xsd_model.specs.Parts.{Parts, all_end, attribute_groups_at, group_in, groups_in}
use Rattle.xsd_model.specs.declared.parts.AttributeGroup.{AttributeGroup}
use Rattle.xsd_model.specs.declared.parts.AttributeUse.{AttributeUse}
use Rattle.xsd_tree.specs.Trees.{IsTree}
use Rattle.xsd_tree.specs.declared.node.Node.{Node}
use Rattle.xsd_nodes.specs.Nodes.{is_among_at, is_at, is_child, is_global, is_place, parent_at, text_at}
use Rattle.xsd_nodes.specs.declared.attribute_name.AttributeName.TheVariants as attribute
use Rattle.xsd_nodes.specs.declared.part.Part.{Part}
use Rattle.xsd_nodes.specs.declared.part.Part.TheVariants as part
use Rattle.xsd_components.specs.References.{attribute_groups}
use Rattle.xsd_declared.specs.Decls.{attribute_group, group_meant, or_zero, use_at, uses_at}
use Rattle.xsd_declared.specs.Lists.{attribute_groups_of}
use Rattle.xsd_derivations.specs.Derivations.{attribute_group_named, attribute_groups_named}
use Rattle.xsd_paths.specs.Paths.{is_whole_within, leads_to}
use Rattle.xsd_paths.proofs.Within.{is_led}
use Rattle.xsd_places.specs.Kinds.{is_prohibited, place_of}
use Rattle.xsd_places.specs.declared.kind.Kind.TheVariants as kind
use Rattle.xsd_steps.specs.Steps.{steps, typed_parts}
use Rattle.xsd_schema.proofs.Ends.{GoesOn, IsOne, all_flat, each_ends, one_passing}
use Rattle.xsd_schema.proofs.Held.{IsHeldBy}
use Rattle.xsd_schema.proofs.Named.{attribute_group_kind, kind_parts, text_names_global}
use Rattle.xsd_schema.proofs.Stays.{all_children}
use Rattle.xsd_schema.proofs.Steps.{AreSure}
use Rattle.xsd_schema.proofs.Sure.{at_among, at_not, at_not_among}

attribute_group_steps : (ns : List Node) (i : ℕ) → is_at ns part.AttributeGroup i ≡ true → is_global ns i ≡ true → steps ns i ≡ attribute_groups_named ns i
attribute_group_steps ns i e global =
    cond-false (is_among_at ns typed_parts i) _ _ (at_not_among ns part.AttributeGroup typed_parts i e refl)
    ∙ cond-false (is_at ns part.Group i) _ _ (at_not ns part.AttributeGroup part.Group i e refl)
    ∙ cond-true (is_at ns part.AttributeGroup i) _ _ e
    ∙ cond-true (is_global ns i) _ _ global

-- the one that an element within names
named_on : (ns : List Node) (n i : ℕ) (test : ℕ → Bool) → IsTree ns → leads_to (is_whole_within n ns) (attribute_group_named ns i) ≡ true → ((j : ℕ) → IsOne kind.AttributeGroup ns n j → test (place_of kind.AttributeGroup ns j) ≡ true) → test (place_of kind.AttributeGroup ns (group_meant ns i)) ≡ true
named_on ns n i test tree whole passes =
    let led = is_led (is_whole_within n ns) (attribute_group_named ns i) whole in
    let global = text_names_global ns attribute_groups i (text_at ns attribute.Ref i) led.0 led.1 in
    ap (λ o. test (place_of kind.AttributeGroup ns (or_zero o))) led.1
    ∙ passes led.0 (record { there = global.there; kind = attribute_group_kind ns led.0 tree global; whole = led.2 })

use_on : (ns : List Node) (test : ℕ → Bool) (c : ℕ) → (is_at ns part.AttributeGroup c ≡ true → test (place_of kind.AttributeGroup ns (group_meant ns c)) ≡ true) → list_all test (group_in (use_at ns c)) ≡ true
use_on ns test c h =
    let P = λ (u : AttributeUse). list_all test (group_in u) ≡ true in
    cond_both (is_at ns part.AttributeGroup c) _ _ P
    (λ g. and_from (test (place_of kind.AttributeGroup ns (group_meant ns c))) true (h g) refl)
    (λ g. cond_both (is_prohibited ns c) _ _ P (λ e. refl) (λ e. refl))

is_child_of : (ns : List Node) (ps qs : List Part) (i c : ℕ) → IsHeldBy ns ps i c → is_among_at ns qs c ≡ true → is_child ns qs i c ≡ true
is_child_of ns ps qs i c h e = and_from (is_place i (parent_at ns c)) (is_among_at ns qs c) (ap (is_place i) h.parent ∙ eq-eqb i i refl) e

attribute_groups_go_on : (ns : List Node) → IsTree ns → GoesOn kind.AttributeGroup ns (attribute_group ns) groups_in
attribute_groups_go_on ns tree n i test h passes =
    let node = and_parts (is_at ns part.AttributeGroup i) (is_global ns i) (kind_parts kind.AttributeGroup ns i h.kind).1 in
    let all = sym (ap (list_all (leads_to (is_whole_within n ns))) (attribute_group_steps ns i node.0 node.1)) ∙ h.whole in
    all_flat test group_in (uses_at ns i)
    (all_children (λ u. list_all test (group_in u)) (use_at ns) ns (part.Attribute ∷ part.AttributeGroup ∷ []) i
    (λ c held. use_on ns test c
    (λ g. named_on ns n c test tree
    (one_passing (leads_to (is_whole_within n ns)) (attribute_group_named ns) (is_child ns attribute_groups i) ns c all held.there (is_child_of ns (part.Attribute ∷ part.AttributeGroup ∷ []) attribute_groups i c held (at_among ns part.AttributeGroup attribute_groups c g refl)))
    passes)))

pub attribute_groups_end : (ns : List Node) (p : Parts) → IsTree ns → AreSure ns → p.attribute_groups ≡ attribute_groups_of ns → (place : ℕ) → place < length p.attribute_groups → (n : ℕ) × (all_end (attribute_groups_at p) n place ≡ true)
attribute_groups_end ns p tree sure e place less =
    let ends = each_ends kind.AttributeGroup ns (attribute_group ns) groups_in (attribute_groups_go_on ns tree) tree sure place (rw (sym e) less) in
    (ends.0, ap (λ (gs : List AttributeGroup). all_end (λ (q : ℕ). groups_in (slice_get gs q)) ends.0 place) e ∙ ends.1)
