-- From an element that no annotation holds, in a document where nothing is wrong, steps lead to such elements alone.
use Rattle.std.proofs.Common.{◌≡◌, ℕ, zero, suc, ◌<◌, true, false, ◌&&◌, not, Option, Some, None, inl, inr, List, [], ◌∷◌, length, refl, sym, ap, ◌∙◌, true≢false, arith}
use Rattle.std.specs.List.{flat_map, list_all}
use Rattle.std.proofs.lemmas.Bool.{and_from, and_parts, cases_Bool, cond-false, cond-true, cond_both, false≢true, or_parts}
use Rattle.std.proofs.lemmas.Option.{none-some}
use Rattle.xsd_tree.specs.Trees.{IsTree}
use Rattle.xsd_tree.specs.declared.node.Node.{Node}
use Rattle.xsd_nodes.specs.Nodes.{child, child_of, has, holder, is_among_at, is_at, is_global, is_root, is_skipped, outwards, parent_at, part_above, part_at, text_at}
use Rattle.xsd_nodes.specs.PartNames.{is_among, is_part}
use Rattle.xsd_nodes.specs.declared.attribute_name.AttributeName.TheVariants as attribute
use Rattle.xsd_nodes.specs.declared.part.Part.{Part}
use Rattle.xsd_nodes.specs.declared.part.Part.TheVariants as part
use Rattle.xsd_components.specs.References.{attribute_groups, derivation, elements, groups, named_component, text_names}
use Rattle.xsd_conditions.specs.Conditions.{if_told}
use Rattle.xsd_derivations.specs.Derivations.{attribute_group_named, attribute_groups_named, derived_from, head_in, head_named}
use Rattle.xsd_document.proofs.Below.{or_zero}
use Rattle.xsd_paths.specs.Paths.{leads_to}
use Rattle.xsd_slots.specs.Slots.{come_to, is_misplaced, is_out_of, is_told_twice, is_unknown_in, slot_of, slots}
use Rattle.xsd_steps.specs.Groups.{behind_first, group_named, groups_named, leads_up, names_group}
use Rattle.xsd_steps.specs.Steps.{if_global, step_to, steps, typed_parts}
use Rattle.xsd_steps.specs.Table.{models, owner}
use Rattle.xsd_steps.proofs.Groups.{leads, no_model, number_is}
use Rattle.xsd_steps.proofs.LiesIn.{owner_is, owner_up}
use Rattle.xsd_told.specs.Told.{names_none, refers_to_none_of}
use Rattle.xsd_schema.proofs.Held.{IsHeldBy, among_not, child_free, child_held, global_parent, held_free, parent_there, part_told, place_told, root_is_schema}
use Rattle.xsd_schema.proofs.Named.{only_at, text_names_global}
use Rattle.xsd_schema.proofs.Stays.{IsDerivation, all_children, all_passing, are_reached, base_holders, content_parts, derived_reached, last_false, not_false, told_false}
use Rattle.xsd_schema.proofs.Sure.{IsSure, among_more, at_among, at_not, is_reached, named_reached, reached_parts}

-- nothing is wrong with any element that no annotation holds
abbrev pub AreSure : List Node → Type 0
AreSure ns = (i : ℕ) → i < length ns → is_skipped ns i ≡ false → IsSure ns i

-- ---- what holds a restriction
in_restriction : (n : ℕ) (outer : Part) → is_out_of n (slot_of (slots outer part.Restriction) part.Restriction) ≡ false → ⊥
in_restriction n part.Schema e = true≢false e
in_restriction n outer e = true≢false e

in_extension : (n : ℕ) (outer : Part) → is_out_of n (slot_of (slots outer part.Extension) part.Restriction) ≡ false → ⊥
in_extension n part.Schema e = true≢false e
in_extension n outer e = true≢false e

in_group : (n : ℕ) (outer : Part) → is_out_of n (slot_of (slots outer part.Group) part.Restriction) ≡ false → ⊥
in_group n part.Schema e = true≢false e
in_group n outer e = true≢false e

in_attribute_group : (n : ℕ) (outer : Part) → is_out_of n (slot_of (slots outer part.AttributeGroup) part.Restriction) ≡ false → ⊥
in_attribute_group n part.Schema e = true≢false e
in_attribute_group n outer e = true≢false e

restriction_in : (n : ℕ) (outer p : Part) → is_out_of n (slot_of (slots outer p) part.Restriction) ≡ false → is_among base_holders p ≡ true
restriction_in n outer part.SimpleType e = refl
restriction_in n outer part.SimpleContent e = refl
restriction_in n outer part.ComplexContent e = refl
restriction_in n outer part.Restriction e = absurd (in_restriction n outer e)
restriction_in n outer part.Extension e = absurd (in_extension n outer e)
restriction_in n outer part.Group e = absurd (in_group n outer e)
restriction_in n outer part.AttributeGroup e = absurd (in_attribute_group n outer e)
restriction_in n outer p e = absurd (true≢false e)

restriction_within : (ns : List Node) (i : ℕ) (o : Option ℕ) → IsTree ns → i < length ns → is_at ns part.Restriction i ≡ true → parent_at ns i ≡ o → is_unknown_in ns i o ≡ false → is_among base_holders (part_above ns o) ≡ true
restriction_within ns i None tree less r e known = absurd (true≢false (sym r ∙ ap (is_part part.Restriction) (root_is_schema ns i tree less e)))
restriction_within ns i (Some p) tree less r e known =
    let placed = (or_parts (is_misplaced ns p i) (is_told_twice ns p i) known).0 in
    restriction_in (come_to ns i p) (holder ns p) (part_at ns p) (sym (ap (λ (q : Part). is_out_of (come_to ns i p) (slot_of (slots (holder ns p) (part_at ns p)) q)) (part_told ns part.Restriction i r)) ∙ placed)

pub restriction_holder : (ns : List Node) (i : ℕ) → IsTree ns → i < length ns → IsSure ns i → is_at ns part.Restriction i ≡ true → is_among base_holders (holder ns i) ≡ true
restriction_holder ns i tree less sure r = restriction_within ns i (parent_at ns i) tree less r refl sure.known

-- ---- how a type is derived
pub in_simple : (ns : List Node) (i d : ℕ) → IsTree ns → is_skipped ns i ≡ false → is_at ns part.SimpleType i ≡ true → IsHeldBy ns (part.Restriction ∷ part.List ∷ part.Union ∷ []) i d → IsDerivation ns d
in_simple ns i d tree free s h = record {
  there = h.there;
  free = held_free ns (part.Restriction ∷ part.List ∷ part.Union ∷ []) i d tree h refl free;
  restricts = λ r. ap (λ (o : Option ℕ). is_among base_holders (part_above ns o)) h.parent ∙ at_among ns part.SimpleType base_holders i s refl;
  extends = λ x. absurd (true≢false (sym x ∙ among_not ns (part.Restriction ∷ part.List ∷ part.Union ∷ []) part.Extension d h.among refl));
}

in_content : (ns : List Node) (c d : ℕ) → IsTree ns → is_skipped ns c ≡ false → is_among_at ns content_parts c ≡ true → IsHeldBy ns (part.Restriction ∷ part.Extension ∷ []) c d → IsDerivation ns d
in_content ns c d tree free m h = record {
  there = h.there;
  free = held_free ns (part.Restriction ∷ part.Extension ∷ []) c d tree h refl free;
  restricts = λ r. ap (λ (o : Option ℕ). is_among base_holders (part_above ns o)) h.parent ∙ among_more ns content_parts base_holders c refl m;
  extends = λ x. (ap (λ (o : Option ℕ). is_part part.SimpleType (part_above ns o)) h.parent ∙ among_not ns content_parts part.SimpleType c m refl, ap (λ (o : Option ℕ). is_among content_parts (part_above ns o)) h.parent ∙ m);
}

pub in_complex : (ns : List Node) (i d : ℕ) (o : Option ℕ) → IsTree ns → is_skipped ns i ≡ false → child ns content_parts i ≡ o → child_of ns (part.Restriction ∷ part.Extension ∷ []) o ≡ Some d → IsDerivation ns d
in_complex ns i d None tree free e f = absurd (none-some d f)
in_complex ns i d (Some c) tree free e f =
    let h = child_held ns content_parts i c e in
    in_content ns c d tree (held_free ns content_parts i c tree h refl free) h.among (child_held ns (part.Restriction ∷ part.Extension ∷ []) c d f)

pub of_itself : (ns : List Node) (i : ℕ) → i < length ns → is_skipped ns i ≡ false → is_at ns part.Restriction i ≡ true → is_among base_holders (holder ns i) ≡ true → IsDerivation ns i
of_itself ns i less free r h = record {
  there = less;
  free = free;
  restricts = λ q. h;
  extends = λ x. absurd (true≢false (sym x ∙ at_not ns part.Restriction part.Extension i r refl));
}

by_derivation : (ns : List Node) (o : Option ℕ) → IsTree ns → AreSure ns → ((d : ℕ) → o ≡ Some d → IsDerivation ns d) → are_reached ns (flat_map step_to (derived_from ns o)) ≡ true
by_derivation ns None tree sure h = refl
by_derivation ns (Some d) tree sure h = let derived = h d refl in derived_reached ns d tree (sure d derived.there derived.free) derived

typed_reached : (ns : List Node) (i : ℕ) → IsTree ns → AreSure ns → i < length ns → is_skipped ns i ≡ false → are_reached ns (flat_map step_to (derived_from ns (derivation ns i))) ≡ true
typed_reached ns i tree sure less free =
    let P = λ (o : Option ℕ). are_reached ns (flat_map step_to (derived_from ns o)) ≡ true in
    cond_both (is_at ns part.SimpleType i) (child ns (part.Restriction ∷ part.List ∷ part.Union ∷ []) i) _ P
    (λ s. by_derivation ns (child ns (part.Restriction ∷ part.List ∷ part.Union ∷ []) i) tree sure (λ d e. in_simple ns i d tree free s (child_held ns (part.Restriction ∷ part.List ∷ part.Union ∷ []) i d e)))
    (λ s. cond_both (is_at ns part.ComplexType i) (child_of ns (part.Restriction ∷ part.Extension ∷ []) (child ns content_parts i)) _ P
    (λ c. by_derivation ns (child_of ns (part.Restriction ∷ part.Extension ∷ []) (child ns content_parts i)) tree sure (λ d e. in_complex ns i d (child ns content_parts i) tree free refl e))
    (λ c. cond_both (is_at ns part.Restriction i) (Some i) None P
    (λ r. derived_reached ns i tree (sure i less free) (of_itself ns i less free r (restriction_holder ns i tree less (sure i less free) r)))
    (λ r. refl)))

-- ---- references
named_leads : (ns : List Node) (kind : List Part) (i : ℕ) (text : Option (List ℕ)) (o : Option ℕ) → IsTree ns → list_all (is_among reached_parts) kind ≡ true → is_among kind part.Annotation ≡ false → text_names ns kind i text ≡ o → has o ≡ true → leads_to (is_reached ns) o ≡ true
named_leads ns kind i text None tree all none e h = absurd (false≢true h)
named_leads ns kind i text (Some j) tree all none e h = named_reached ns kind j tree all none (text_names_global ns kind i text j e)

-- what refers within a type or group names what is there
local_leads : (ns : List Node) (kind : List Part) (i : ℕ) → IsTree ns → IsSure ns i → list_all (is_among reached_parts) kind ≡ true → is_among kind part.Annotation ≡ false → is_among_at ns (part.Group ∷ part.AttributeGroup ∷ []) i ≡ true → is_global ns i ≡ false → refers_to_none_of ns i ≡ names_none ns kind attribute.Ref i → leads_to (is_reached ns) (text_names ns kind i (text_at ns attribute.Ref i)) ≡ true
local_leads ns kind i tree sure all none among local same =
    let text = text_at ns attribute.Ref i in
    let named = text_names ns kind i text in
    let told = not_false (has text) (last_false (is_among_at ns (part.Group ∷ part.AttributeGroup ∷ []) i && not (is_global ns i)) (not (has text)) (and_from (is_among_at ns (part.Group ∷ part.AttributeGroup ∷ []) i) (not (is_global ns i)) among (ap not local)) sure.reference_told) in
    let missing = last_false (not (is_global ns i)) (refers_to_none_of ns i) (ap not local) sure.reference_there in
    named_leads ns kind i text named tree all none refl (not_false (has named) (told_false text (not (has named)) told (sym same ∙ missing)))

group_refers : (ns : List Node) (j : ℕ) → is_at ns part.Group j ≡ true → refers_to_none_of ns j ≡ names_none ns groups attribute.Ref j
group_refers ns j g =
    cond-false (is_at ns part.Element j) _ _ (at_not ns part.Group part.Element j g refl)
    ∙ cond-false (is_at ns part.Attribute j) _ _ (at_not ns part.Group part.Attribute j g refl)
    ∙ cond-true (is_at ns part.Group j) _ _ g

attribute_group_refers : (ns : List Node) (j : ℕ) → is_at ns part.AttributeGroup j ≡ true → refers_to_none_of ns j ≡ names_none ns attribute_groups attribute.Ref j
attribute_group_refers ns j g =
    cond-false (is_at ns part.Element j) _ _ (at_not ns part.AttributeGroup part.Element j g refl)
    ∙ cond-false (is_at ns part.Attribute j) _ _ (at_not ns part.AttributeGroup part.Attribute j g refl)
    ∙ cond-false (is_at ns part.Group j) _ _ (at_not ns part.AttributeGroup part.Group j g refl)
    ∙ ap (λ b. b && names_none ns attribute_groups attribute.Ref j) g

-- ---- what lies in a group
pub has_parent : (ns : List Node) (p : ℕ) (o : Option ℕ) → IsTree ns → p < length ns → is_at ns part.Schema p ≡ false → parent_at ns p ≡ o → has o ≡ true
has_parent ns p None tree less e f = absurd (true≢false (sym (ap (is_part part.Schema) (root_is_schema ns p tree less f)) ∙ e))
has_parent ns p (Some q) tree less e f = refl

-- no annotation holds it, and it is none directly within the schema
pub record IsInside (ns : List Node) (j : ℕ) : Type 0 where
  pub free : is_skipped ns j ≡ false
  pub local : is_global ns j ≡ false

pub not_global : (ns : List Node) (j p : ℕ) → parent_at ns j ≡ Some p → has (parent_at ns p) ≡ true → is_global ns j ≡ false
not_global ns j p e h = ap (is_root ns) e ∙ ap not h

inside : (ns : List Node) (j p : ℕ) → IsTree ns → j < length ns → is_at ns part.Annotation j ≡ false → parent_at ns j ≡ Some p → is_skipped ns p ≡ false → has (parent_at ns p) ≡ true → IsInside ns j
inside ns j p tree less own e free h = record { free = child_free ns j p tree less e own free; local = not_global ns j p e h }

owned_by : (ns : List Node) (i j : ℕ) (o : Option ℕ) → IsTree ns → j < length ns → is_at ns part.Annotation j ≡ false → is_skipped ns i ≡ false → has (parent_at ns i) ≡ true → ((p : ℕ) → p < j → p < length ns → is_at ns part.Annotation p ≡ false → owner ns p ≡ Some i → IsInside ns p) → parent_at ns j ≡ o → owner_up ns o ≡ Some i → IsInside ns j
owned_by ns i j None tree less own free h rest p_is up = absurd (none-some i up)
owned_by ns i j (Some p) tree less own free h rest p_is up =
    let before = parent_there ns j p tree less p_is in elim (cases_Bool (is_among_at ns models p)) [
      | inl m ↦
          let on : owner ns p ≡ Some i = sym (cond-true (is_among_at ns models p) (owner ns p) (Some p) m) ∙ up in
          let outer = rest p before.0 before.1 (among_not ns models part.Annotation p m refl) on in
          inside ns j p tree less own p_is outer.free (has_parent ns p (parent_at ns p) tree before.1 (among_not ns models part.Schema p m refl) refl)
      | inr m ↦
          let same : p ≡ i = ap or_zero (sym (cond-false (is_among_at ns models p) (owner ns p) (Some p) m) ∙ up) in
          inside ns j p tree less own p_is (ap (is_skipped ns) same ∙ free) (ap (λ (k : ℕ). has (parent_at ns k)) same ∙ h)
    ]

owned : (n : ℕ) (ns : List Node) (i j : ℕ) → IsTree ns → j < n → j < length ns → is_at ns part.Annotation j ≡ false → is_skipped ns i ≡ false → has (parent_at ns i) ≡ true → owner ns j ≡ Some i → IsInside ns j
owned zero ns i j tree fuel less own free h e = absurd (omega (arith, fuel))
owned (suc n) ns i j tree fuel less own free h e =
    owned_by ns i j (parent_at ns j) tree less own free h
    (λ p earlier there none on. owned n ns i p tree (omega (arith, fuel, earlier)) there none free h on)
    refl (sym (owner_is ns j tree less) ∙ e)

pub global_has : (ns : List Node) (i : ℕ) → is_global ns i ≡ true → has (parent_at ns i) ≡ true
global_has ns i e = let up = global_parent ns i e in ap has up.1

-- ---- steps of groups
pub group_step : (ns : List Node) (i j : ℕ) → IsTree ns → is_skipped ns i ≡ false → is_at ns part.Group i ≡ true → is_global ns i ≡ true → j < length ns → names_group ns i j ≡ true → (is_at ns part.Group j ≡ true) × IsInside ns j
group_step ns i j tree free g global less e =
    let both = and_parts (is_at ns part.Group j) (leads_up ns i (behind_first (outwards ns j))) e in
    let up : owner ns j ≡ Some i = place_told i (owner ns j) (sym (leads ns i (no_model ns i (number_is ns i g)) (behind_first (outwards ns j))) ∙ both.1) in
    (both.0, owned (suc j) ns i j tree (omega arith) less (at_not ns part.Group part.Annotation j both.0 refl) free (global_has ns i global) up)

groups_reached : (ns : List Node) (i : ℕ) → IsTree ns → AreSure ns → is_skipped ns i ≡ false → is_at ns part.Group i ≡ true → is_global ns i ≡ true → are_reached ns (groups_named ns i) ≡ true
groups_reached ns i tree sure free g global =
    all_passing (leads_to (is_reached ns)) (group_named ns) (names_group ns i) ns
    (λ j less e.
    let step = group_step ns i j tree free g global less e in
    local_leads ns groups j tree (sure j less step.1.free) refl refl (at_among ns part.Group (part.Group ∷ part.AttributeGroup ∷ []) j step.0 refl) step.1.local (group_refers ns j step.0))

attribute_groups_reached : (ns : List Node) (i : ℕ) → IsTree ns → AreSure ns → is_skipped ns i ≡ false → is_global ns i ≡ true → are_reached ns (attribute_groups_named ns i) ≡ true
attribute_groups_reached ns i tree sure free global =
    all_children (leads_to (is_reached ns)) (attribute_group_named ns) ns attribute_groups i
    (λ j h.
    let held = held_free ns attribute_groups i j tree h refl free in
    let g = only_at ns part.AttributeGroup j h.among refl in
    local_leads ns attribute_groups j tree (sure j h.there held) refl refl (at_among ns part.AttributeGroup (part.Group ∷ part.AttributeGroup ∷ []) j g refl) (not_global ns j i h.parent (global_has ns i global)) (attribute_group_refers ns j g))

-- ---- of elements
head_reached : (ns : List Node) (i : ℕ) (text : Option (List ℕ)) → IsTree ns → if_told text (not (has (text_names ns elements i text))) ≡ false → are_reached ns (head_in ns i text) ≡ true
head_reached ns i None tree e = refl
head_reached ns i (Some text) tree e =
    and_from (leads_to (is_reached ns) (named_component ns elements i text)) true
    (named_leads ns elements i (Some text) (named_component ns elements i text) tree refl refl refl (not_false (has (named_component ns elements i text)) e)) refl

heads_reached : (ns : List Node) (i : ℕ) → IsTree ns → IsSure ns i → is_at ns part.Element i ≡ true → is_global ns i ≡ true → are_reached ns (head_named ns i) ≡ true
heads_reached ns i tree sure e global =
    head_reached ns i (text_at ns attribute.SubstitutionGroup i) tree
    (last_false (is_at ns part.Element i && is_global ns i) (names_none ns elements attribute.SubstitutionGroup i) (and_from (is_at ns part.Element i) (is_global ns i) e global) sure.head_there)

-- ---- all
if_reached : (ns : List Node) (i : ℕ) (found : List (Option ℕ)) → (is_global ns i ≡ true → are_reached ns found ≡ true) → are_reached ns (if_global ns i found) ≡ true
if_reached ns i found h = cond_both (is_global ns i) found [] (λ (os : List (Option ℕ)). are_reached ns os ≡ true) h (λ e. refl)

pub steps_reached : (ns : List Node) (i : ℕ) → IsTree ns → AreSure ns → i < length ns → is_skipped ns i ≡ false → are_reached ns (steps ns i) ≡ true
steps_reached ns i tree sure less free =
    let P = λ (os : List (Option ℕ)). are_reached ns os ≡ true in
    cond_both (is_among_at ns typed_parts i) (flat_map step_to (derived_from ns (derivation ns i))) _ P
    (λ t. typed_reached ns i tree sure less free)
    (λ t. cond_both (is_at ns part.Group i) (if_global ns i (groups_named ns i)) _ P
    (λ g. if_reached ns i (groups_named ns i) (groups_reached ns i tree sure free g))
    (λ g. cond_both (is_at ns part.AttributeGroup i) (if_global ns i (attribute_groups_named ns i)) _ P
    (λ a. if_reached ns i (attribute_groups_named ns i) (attribute_groups_reached ns i tree sure free))
    (λ a. cond_both (is_at ns part.Element i) (if_global ns i (head_named ns i)) [] P
    (λ e. if_reached ns i (head_named ns i) (heads_reached ns i tree (sure i less free) e))
    (λ e. refl))))
