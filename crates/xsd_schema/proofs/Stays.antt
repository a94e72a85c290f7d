-- Where steps lead from an element at which nothing is wrong: to what is there, and what no annotation holds.
use Rattle.std.proofs.Common.{◌≡◌, ℕ, suc, ◌+◌, ◌<◌, ◌⊎◌, Bool, true, false, cond, ◌||◌, ◌&&◌, not, Option, Some, None, inl, inr, List, [], ◌∷◌, filter, length, map, refl, sym, ap, ◌∙◌, true≢false, arith, eq-eqb, eqb-true}
use Rattle.std.specs.List.{flat_map, list_all, list_any}
use Rattle.std.proofs.lemmas.Bool.{and_from, and_parts, cases_Bool, cond-true, cond_both, false≢true, or_parts}
use Rattle.std.proofs.lemmas.List.Folds.{list_all-append}
use Rattle.exi_lexical.specs.Spaces.{words}
use Rattle.xsd_tree.specs.Trees.{IsTree}
use Rattle.xsd_tree.specs.declared.node.Node.{Node}
use Rattle.xsd_nodes.specs.Nodes.{child, children, has, holder, is_among_at, is_at, is_child, is_skipped, or_empty, places, places_from, text_at}
use Rattle.xsd_nodes.specs.PartNames.{is_among, is_part, part_number}
use Rattle.xsd_nodes.specs.declared.attribute_name.AttributeName.TheVariants as attribute
use Rattle.xsd_nodes.specs.declared.part.Part.{Part}
use Rattle.xsd_nodes.specs.declared.part.Part.TheVariants as part
use Rattle.xsd_names.specs.Names.{named}
use Rattle.xsd_components.specs.References.{at_node, base, complex_only, inline, is_simple, item, named_type, or_inline, simple_only, text_names_type}
use Rattle.xsd_components.specs.declared.type_at.TypeAt.{TypeAt}
use Rattle.xsd_components.specs.declared.type_at.TypeAt.TheVariants as type_at
use Rattle.xsd_conditions.specs.Conditions.{if_told, is_missing}
use Rattle.xsd_derivations.specs.Derivations.{derived_in, held_type, inline_in, member_held, member_named, members, named_members}
use Rattle.xsd_paths.specs.Paths.{leads_to}
use Rattle.xsd_steps.specs.Steps.{step_to}
use Rattle.xsd_schema.proofs.Held.{IsHeldBy, child_held, held_by}
use Rattle.xsd_schema.proofs.Named.{only_at}
use Rattle.xsd_schema.proofs.Sure.{IsSure, at_among, at_not, at_node_fine, held_reached, is_fine, is_reached, type_of_name_fine}

-- ---- truth
pub last_false : (a b : Bool) → a ≡ true → (a && b) ≡ false → b ≡ false
last_false a b e f = sym (ap (λ c. c && b) e) ∙ f

pub not_false : (b : Bool) → not b ≡ false → b ≡ true
not_false true e = refl
not_false false e = absurd (true≢false e)

pub told_false : (o : Option (List ℕ)) (missing : Bool) → has o ≡ true → if_told o missing ≡ false → missing ≡ false
told_false None missing e f = absurd (false≢true e)
told_false (Some text) missing e f = f

-- a test of two parts, turned around
pub turned : (p q : Part) → is_part q p ≡ true → is_part p q ≡ true
turned p q e = eq-eqb (part_number p) (part_number q) (sym (eqb-true (part_number q) (part_number p) e))

pub turned_not : (p q : Part) → is_part q p ≡ false → is_part p q ≡ false
turned_not p q e = elim (cases_Bool (is_part p q)) [
  | inl is_it ↦ absurd (true≢false (sym (turned q p is_it) ∙ e))
  | inr not_it ↦ not_it
]

-- ---- what is named or stands within
inline_fine : (ns : List Node) (d : ℕ) → IsTree ns → is_skipped ns d ≡ false → is_fine ns (inline ns d) ≡ true
inline_fine ns d tree free = at_node_fine ns (child ns (part.SimpleType ∷ []) d) (λ j e. held_reached ns (part.SimpleType ∷ []) d j tree refl refl free (child_held ns (part.SimpleType ∷ []) d j e))

or_inline_fine : (ns : List Node) (d : ℕ) (text : Option (List ℕ)) → IsTree ns → is_skipped ns d ≡ false → is_fine ns (or_inline ns d text) ≡ true
or_inline_fine ns d None tree free = inline_fine ns d tree free
or_inline_fine ns d (Some text) tree free = type_of_name_fine ns tree (named ns d text)

text_names_type_fine : (ns : List Node) (d : ℕ) (text : Option (List ℕ)) → IsTree ns → is_fine ns (text_names_type ns d text) ≡ true
text_names_type_fine ns d None tree = refl
text_names_type_fine ns d (Some text) tree = type_of_name_fine ns tree (named ns d text)

either_fine : (ns : List Node) (b : Bool) (s t : Option TypeAt) → is_fine ns s ≡ true → is_fine ns t ≡ true → is_fine ns (cond b s t) ≡ true
either_fine ns true s t e f = e
either_fine ns false s t e f = f

simple_only_fine : (ns : List Node) (t : Option TypeAt) → is_fine ns t ≡ true → is_fine ns (simple_only ns t) ≡ true
simple_only_fine ns None e = refl
simple_only_fine ns (Some t) e = either_fine ns (is_simple ns t) (Some t) None e refl

complex_only_fine : (ns : List Node) (t : Option TypeAt) → is_fine ns t ≡ true → is_fine ns (complex_only ns t) ≡ true
complex_only_fine ns None e = refl
complex_only_fine ns (Some t) e = either_fine ns (is_simple ns t) None (Some t) refl e

base_fine : (ns : List Node) (d : ℕ) → IsTree ns → is_skipped ns d ≡ false → is_fine ns (base ns d) ≡ true
base_fine ns d tree free =
    let text = text_at ns attribute.Base d in
    either_fine ns (is_part part.SimpleType (holder ns d)) (simple_only ns (or_inline ns d text)) _ (simple_only_fine ns (or_inline ns d text) (or_inline_fine ns d text tree free))
    (either_fine ns (is_part part.ComplexContent (holder ns d)) (complex_only ns (text_names_type ns d text)) (text_names_type ns d text)
    (complex_only_fine ns (text_names_type ns d text) (text_names_type_fine ns d text tree))
    (text_names_type_fine ns d text tree))

item_fine : (ns : List Node) (d : ℕ) → IsTree ns → is_skipped ns d ≡ false → is_fine ns (item ns d) ≡ true
item_fine ns d tree free = simple_only_fine ns (or_inline ns d (text_at ns attribute.ItemType d)) (or_inline_fine ns d (text_at ns attribute.ItemType d) tree free)

-- ---- none is missing
-- a simple type within
simple_there : (ns : List Node) (c : ℕ) → is_at ns part.SimpleType c ≡ true → is_missing (simple_only ns (Some (type_at.Node c))) ≡ false
simple_there ns c e = ap (λ b. is_missing (cond (not b) (Some (type_at.Node c)) None)) (at_not ns part.SimpleType part.ComplexType c e refl)

child_there : (ns : List Node) (d : ℕ) (o : Option ℕ) → child ns (part.SimpleType ∷ []) d ≡ o → has o ≡ true → is_missing (simple_only ns (at_node o)) ≡ false
child_there ns d None e h = absurd (false≢true h)
child_there ns d (Some c) e h = simple_there ns c (only_at ns part.SimpleType c (child_held ns (part.SimpleType ∷ []) d c e).among refl)

inline_there : (ns : List Node) (d : ℕ) → has (child ns (part.SimpleType ∷ []) d) ≡ true → is_missing (simple_only ns (inline ns d)) ≡ false
inline_there ns d h = child_there ns d (child ns (part.SimpleType ∷ []) d) refl h

-- of the attribute and the type within one stands; what the attribute names is there
told_or_within : (ns : List Node) (d : ℕ) (o : Option (List ℕ)) → ((not (has o) && not (has (child ns (part.SimpleType ∷ []) d))) ≡ false) → (has o ≡ true → is_missing (simple_only ns (or_inline ns d o)) ≡ false) → is_missing (simple_only ns (or_inline ns d o)) ≡ false
told_or_within ns d None e h = inline_there ns d (not_false (has (child ns (part.SimpleType ∷ []) d)) e)
told_or_within ns d (Some text) e h = h refl

three_false : (a b c : Bool) → a ≡ true → ((a && b) && c) ≡ false → (b && c) ≡ false
three_false a b c e f = sym (ap (λ x. (x && b) && c) e) ∙ f

base_in_simple : (ns : List Node) (d : ℕ) → is_part part.SimpleType (holder ns d) ≡ true → base ns d ≡ simple_only ns (or_inline ns d (text_at ns attribute.Base d))
base_in_simple ns d e = cond-true (is_part part.SimpleType (holder ns d)) _ _ e

simple_base_there : (ns : List Node) (d : ℕ) → IsSure ns d → is_at ns part.Restriction d ≡ true → is_part part.SimpleType (holder ns d) ≡ true → is_missing (base ns d) ≡ false
simple_base_there ns d sure r s =
    let text = text_at ns attribute.Base d in
    let within = child ns (part.SimpleType ∷ []) d in
    let lacks = last_false (is_part part.SimpleType (holder ns d)) ((is_at ns part.Restriction d && not (has text)) && not (has within)) s sure.base_held in
    ap is_missing (base_in_simple ns d s)
    ∙ told_or_within ns d text
    (three_false (is_at ns part.Restriction d) (not (has text)) (not (has within)) r lacks)
    (λ told. sym (ap is_missing (base_in_simple ns d s)) ∙ told_false text (is_missing (base ns d)) told (last_false (is_at ns part.Restriction d && is_part part.SimpleType (holder ns d)) (if_told text (is_missing (base ns d))) (and_from (is_at ns part.Restriction d) (is_part part.SimpleType (holder ns d)) r s) sure.simple_base))

content_base_there : (ns : List Node) (d : ℕ) → IsSure ns d → is_among_at ns (part.Restriction ∷ part.Extension ∷ []) d ≡ true → is_part part.SimpleType (holder ns d) ≡ false → is_among (part.SimpleContent ∷ part.ComplexContent ∷ []) (holder ns d) ≡ true → is_missing (base ns d) ≡ false
content_base_there ns d sure r s c =
    let text = text_at ns attribute.Base d in
    let derives = is_among_at ns (part.Restriction ∷ part.Extension ∷ []) d in
    let simple = is_part part.SimpleType (holder ns d) in
    let content = is_among (part.SimpleContent ∷ part.ComplexContent ∷ []) (holder ns d) in
    let told = not_false (has text) (last_false (derives && not simple) (not (has text)) (and_from derives (not simple) r (ap not s)) sure.base_told) in
    told_false text (is_missing (base ns d)) told (last_false (derives && content) (if_told text (is_missing (base ns d))) (and_from derives content r c) sure.content_base)

item_type_there : (ns : List Node) (d : ℕ) → IsSure ns d → is_at ns part.List d ≡ true → is_missing (item ns d) ≡ false
item_type_there ns d sure l =
    let text = text_at ns attribute.ItemType d in
    let within = child ns (part.SimpleType ∷ []) d in
    told_or_within ns d text
    (three_false (is_at ns part.List d) (not (has text)) (not (has within)) l sure.item_told)
    (λ told. told_false text (is_missing (item ns d)) told (last_false (is_at ns part.List d) (if_told text (is_missing (item ns d))) l sure.item_there))

-- ---- steps to types
abbrev pub are_reached : List Node → List (Option ℕ) → Bool
are_reached ns os = list_all (leads_to (is_reached ns)) os

step_reached : (ns : List Node) (t : Option TypeAt) → is_missing t ≡ false → is_fine ns t ≡ true → are_reached ns (step_to t) ≡ true
step_reached ns None e f = absurd (true≢false e)
step_reached ns (Some (type_at.Built place)) e f = refl
step_reached ns (Some (type_at.Node j)) e f = and_from (is_reached ns j) true f refl

all_steps : (ns : List Node) (ts : List (Option TypeAt)) → list_any is_missing ts ≡ false → list_all (is_fine ns) ts ≡ true → are_reached ns (flat_map step_to ts) ≡ true
all_steps ns [] e f = refl
all_steps ns (t ∷ ts) e f =
    let none = or_parts (is_missing t) (list_any is_missing ts) e in
    let fine = and_parts (is_fine ns t) (list_all (is_fine ns) ts) f in
    list_all-append (leads_to (is_reached ns)) (step_to t) (flat_map step_to ts)
    ∙ and_from (are_reached ns (step_to t)) (are_reached ns (flat_map step_to ts)) (step_reached ns t none.0 fine.0) (all_steps ns ts none.1 fine.1)

one_step : (ns : List Node) (t : Option TypeAt) → is_missing t ≡ false → is_fine ns t ≡ true → are_reached ns (flat_map step_to (t ∷ [])) ≡ true
one_step ns t e f = all_steps ns (t ∷ []) (ap (λ b. b || false) e) (ap (λ b. b && true) f)

all_mapped : {X Y : Type 0} (p : Y → Bool) (f : X → Y) (xs : List X) → ((x : X) → p (f x) ≡ true) → list_all p (map f xs) ≡ true
all_mapped p f [] h = refl
all_mapped p f (x ∷ xs) h = and_from (p (f x)) (list_all p (map f xs)) (h x) (all_mapped p f xs h)

-- of what passes among all places
one_of_places : {X : Type 0} (p : X → Bool) (f : ℕ → X) (i : ℕ) (more : List ℕ) (b : Bool) → (b ≡ true → p (f i) ≡ true) → list_all p (map f more) ≡ true → list_all p (map f (cond b (i ∷ more) more)) ≡ true
one_of_places p f i more true h e = and_from (p (f i)) (list_all p (map f more)) (h refl) e
one_of_places p f i more false h e = e

pub from_places : {X : Type 0} (p : X → Bool) (f : ℕ → X) (test : ℕ → Bool) (i : ℕ) (ns : List Node) → ((j : ℕ) → j < i + length ns → test j ≡ true → p (f j) ≡ true) → list_all p (map f (filter test (places_from i ns))) ≡ true
from_places p f test i [] h = refl
from_places p f test i (n ∷ ns) h = one_of_places p f i (filter test (places_from (suc i) ns)) (test i) (h i (omega arith)) (from_places p f test (suc i) ns (λ j less e. h j (omega (arith, less)) e))

pub all_passing : {X : Type 0} (p : X → Bool) (f : ℕ → X) (test : ℕ → Bool) (ns : List Node) → ((j : ℕ) → j < length ns → test j ≡ true → p (f j) ≡ true) → list_all p (map f (filter test (places ns))) ≡ true
all_passing p f test ns h = from_places p f test 0 ns (λ j less e. h j (omega (arith, less)) e)

pub all_children : {X : Type 0} (p : X → Bool) (f : ℕ → X) (ns : List Node) (ps : List Part) (i : ℕ) → ((j : ℕ) → IsHeldBy ns ps i j → p (f j) ≡ true) → list_all p (map f (children ns ps i)) ≡ true
all_children p f ns ps i h = all_passing p f (is_child ns ps i) ns (λ j less e. h j (held_by ns ps i j less e))

-- ---- what a type is derived from
member_fine : (ns : List Node) (d : ℕ) (text : List ℕ) → IsTree ns → is_fine ns (member_named ns d text) ≡ true
member_fine ns d text tree = simple_only_fine ns (named_type ns d text) (type_of_name_fine ns tree (named ns d text))

members_fine : (ns : List Node) (d : ℕ) → IsTree ns → is_skipped ns d ≡ false → list_all (is_fine ns) (members ns d) ≡ true
members_fine ns d tree free =
    let held = map member_held (children ns (part.SimpleType ∷ []) d) in
    list_all-append (is_fine ns) (named_members ns d) held
    ∙ and_from (list_all (is_fine ns) (named_members ns d)) (list_all (is_fine ns) held)
    (all_mapped (is_fine ns) (member_named ns d) (words (or_empty (text_at ns attribute.MemberTypes d))) (λ text. member_fine ns d text tree))
    (all_children (is_fine ns) member_held ns (part.SimpleType ∷ []) d (λ j h. held_reached ns (part.SimpleType ∷ []) d j tree refl refl free h))

held_type_reached : (ns : List Node) (t : Option TypeAt) → is_fine ns t ≡ true → are_reached ns (flat_map step_to (held_type t)) ≡ true
held_type_reached ns None e = refl
held_type_reached ns (Some t) e = one_step ns (Some t) refl e

inline_in_reached : (ns : List Node) (d : ℕ) (b : Bool) → IsTree ns → is_skipped ns d ≡ false → are_reached ns (flat_map step_to (cond b (held_type (inline ns d)) [])) ≡ true
inline_in_reached ns d true tree free = held_type_reached ns (inline ns d) (inline_fine ns d tree free)
inline_in_reached ns d false tree free = refl

first_step : (ns : List Node) (t : Option TypeAt) (ts : List (Option TypeAt)) → is_missing t ≡ false → is_fine ns t ≡ true → are_reached ns (flat_map step_to ts) ≡ true → are_reached ns (flat_map step_to (t ∷ ts)) ≡ true
first_step ns t ts e f rest =
    list_all-append (leads_to (is_reached ns)) (step_to t) (flat_map step_to ts)
    ∙ and_from (are_reached ns (step_to t)) (are_reached ns (flat_map step_to ts)) (step_reached ns t e f) rest

-- what holds a restriction or an extension
abbrev pub base_holders : List Part
base_holders = part.SimpleType ∷ part.SimpleContent ∷ part.ComplexContent ∷ []

abbrev pub content_parts : List Part
content_parts = part.SimpleContent ∷ part.ComplexContent ∷ []

holders_cases : (q : Part) → is_among base_holders q ≡ true → (is_part part.SimpleType q ≡ true) ⊎ ((is_part part.SimpleType q ≡ false) × (is_among content_parts q ≡ true))
holders_cases q e = elim (cases_Bool (is_part q part.SimpleType)) [
  | inl is_it ↦ inl (turned part.SimpleType q is_it)
  | inr not_it ↦ inr (turned_not part.SimpleType q not_it, sym (ap (λ b. b || is_among content_parts q) not_it) ∙ e)
]

restriction_there : (ns : List Node) (d : ℕ) → IsSure ns d → is_at ns part.Restriction d ≡ true → is_among base_holders (holder ns d) ≡ true → is_missing (base ns d) ≡ false
restriction_there ns d sure r h = elim (holders_cases (holder ns d) h) [
  | inl s ↦ simple_base_there ns d sure r s
  | inr c ↦ content_base_there ns d sure (at_among ns part.Restriction (part.Restriction ∷ part.Extension ∷ []) d r refl) c.0 c.1
]

-- what an element is derived by: no extension stands in a simple type
pub record IsDerivation (ns : List Node) (d : ℕ) : Type 0 where
  pub there : d < length ns
  pub free : is_skipped ns d ≡ false
  pub restricts : is_at ns part.Restriction d ≡ true → is_among base_holders (holder ns d) ≡ true
  pub extends : is_at ns part.Extension d ≡ true → (is_part part.SimpleType (holder ns d) ≡ false) × (is_among content_parts (holder ns d) ≡ true)

pub derived_reached : (ns : List Node) (d : ℕ) → IsTree ns → IsSure ns d → IsDerivation ns d → are_reached ns (flat_map step_to (derived_in ns d)) ≡ true
derived_reached ns d tree sure h =
    let P = λ (ts : List (Option TypeAt)). are_reached ns (flat_map step_to ts) ≡ true in
    cond_both (is_at ns part.Restriction d) (base ns d ∷ inline_in ns d) _ P
    (λ r. first_step ns (base ns d) (inline_in ns d) (restriction_there ns d sure r (h.restricts r)) (base_fine ns d tree h.free) (inline_in_reached ns d (is_part part.SimpleContent (holder ns d)) tree h.free))
    (λ r. cond_both (is_at ns part.Extension d) (base ns d ∷ []) _ P
    (λ x. one_step ns (base ns d) (content_base_there ns d sure (at_among ns part.Extension (part.Restriction ∷ part.Extension ∷ []) d x refl) (h.extends x).0 (h.extends x).1) (base_fine ns d tree h.free))
    (λ x. cond_both (is_at ns part.List d) (item ns d ∷ []) _ P
    (λ l. one_step ns (item ns d) (item_type_there ns d sure l) (item_fine ns d tree h.free))
    (λ l. cond_both (is_at ns part.Union d) (members ns d) [] P
    (λ u. all_steps ns (members ns d) (last_false (is_at ns part.Union d) (list_any is_missing (members ns d)) u sure.members_there) (members_fine ns d tree h.free))
    (λ u. refl))))
