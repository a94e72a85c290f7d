-- Each step leads to an element of the document; behind its elements there are no steps.
use Rattle.std.proofs.Common.{◌≡◌, ℕ, suc, ◌+◌, ◌<◌, ◌≤◌, Bool, true, false, cond, Option, Some, None, List, [], ◌∷◌, ◌++◌, filter, length, map, refl, ap, ◌∙◌, arith}
use Rattle.std.specs.List.{find, flat_map, list_all}
use Rattle.std.proofs.lemmas.Bool.{and_from, and_parts}
use Rattle.std.proofs.lemmas.Option.{slice_get_past}
use Rattle.exi_lexical.specs.Spaces.{words}
use Rattle.exi_names.specs.declared.names.QName.{QName}
use Rattle.xsd_tree.specs.declared.node.Node.{Node}
use Rattle.xsd_nodes.specs.Nodes.{child, children, first, holder, is_among_at, is_at, is_child, is_global, or_empty, part_in, places, places_from, text_at}
use Rattle.xsd_nodes.specs.PartNames.{is_among, is_part}
use Rattle.xsd_nodes.specs.declared.attribute_name.AttributeName.TheVariants as attribute
use Rattle.xsd_nodes.specs.declared.part.Part.{Part}
use Rattle.xsd_nodes.specs.declared.part.Part.TheVariants as part
use Rattle.xsd_names.specs.Names.{named}
use Rattle.xsd_components.specs.References.{at_node, attribute_groups, base, built_in_of, complex_only, component, component_of, declares, derivation, elements, groups, inline, is_simple, item, named_component, named_type, or_declared, or_inline, simple_only, text_names, text_names_type, type_of_name, type_parts}
use Rattle.xsd_components.specs.declared.type_at.TypeAt.{TypeAt}
use Rattle.xsd_components.specs.declared.type_at.TypeAt.TheVariants as type_at
use Rattle.xsd_derivations.specs.Derivations.{attribute_group_named, attribute_groups_named, derived_from, derived_in, head_in, head_named, held_type, inline_in, member_held, member_named, members, named_members}
use Rattle.xsd_steps.specs.Groups.{group_named, groups_named, names_group}
use Rattle.xsd_steps.specs.Steps.{if_global, step_to, steps, typed_parts}
use Rattle.xsd_paths.specs.Paths.{is_whole, leads_to}
use Rattle.xsd_paths.proofs.Within.{whole_without_steps}

either : {A : Type 0} (P : A → Type 0) (b : Bool) (x y : A) → P x → P y → P (cond b x y)
either P true x y p q = p
either P false x y p q = q

-- ---- below a number
abbrev pub IsBelow : ℕ → Option ℕ → Type 0
IsBelow n None = Unit {0}
IsBelow n (Some j) = j < n

abbrev pub AreBelow : ℕ → List (Option ℕ) → Type 0
AreBelow n [] = Unit {0}
AreBelow n (o ∷ os) = IsBelow n o × AreBelow n os

abbrev pub NumbersBelow : ℕ → List ℕ → Type 0
NumbersBelow n [] = Unit {0}
NumbersBelow n (j ∷ js) = (j < n) × NumbersBelow n js

places_from_below : (n i : ℕ) (ns : List Node) → i + length ns ≤ n → NumbersBelow n (places_from i ns)
places_from_below n i [] le = tt
places_from_below n i (x ∷ ns) le = (omega (arith, le), places_from_below n (suc i) ns (omega (arith, le)))

places_below : (ns : List Node) → NumbersBelow (length ns) (places ns)
places_below ns = places_from_below (length ns) 0 ns (omega arith)

filter_below : (n : ℕ) (test : ℕ → Bool) (js : List ℕ) → NumbersBelow n js → NumbersBelow n (filter test js)
filter_below n test [] h = tt
filter_below n test (j ∷ js) h = let more = filter_below n test js h.1 in either (NumbersBelow n) (test j) (j ∷ filter test js) (filter test js) (h.0, more) more

find_below : (n : ℕ) (test : ℕ → Bool) (js : List ℕ) → NumbersBelow n js → IsBelow n (find test js)
find_below n test [] h = tt
find_below n test (j ∷ js) h = either (IsBelow n) (test j) (Some j) (find test js) h.0 (find_below n test js h.1)

first_below : (n : ℕ) (js : List ℕ) → NumbersBelow n js → IsBelow n (first js)
first_below n [] h = tt
first_below n (j ∷ js) h = h.0

map_below : (n : ℕ) (f : ℕ → Option ℕ) (js : List ℕ) → ((j : ℕ) → IsBelow n (f j)) → AreBelow n (map f js)
map_below n f [] h = tt
map_below n f (j ∷ js) h = (h j, map_below n f js h)

append_below : (n : ℕ) (os more : List (Option ℕ)) → AreBelow n os → AreBelow n more → AreBelow n (os ++ more)
append_below n [] more h g = g
append_below n (o ∷ os) more h g = (h.0, append_below n os more h.1 g)

-- ---- what is found in the document
children_below : (ns : List Node) (ps : List Part) (i : ℕ) → NumbersBelow (length ns) (children ns ps i)
children_below ns ps i = filter_below (length ns) (is_child ns ps i) (places ns) (places_below ns)

child_below : (ns : List Node) (ps : List Part) (i : ℕ) → IsBelow (length ns) (child ns ps i)
child_below ns ps i = first_below (length ns) (children ns ps i) (children_below ns ps i)

component_below : (ns : List Node) (kind : List Part) (name : QName) → IsBelow (length ns) (component ns kind name)
component_below ns kind name = find_below (length ns) (declares ns kind name) (places ns) (places_below ns)

component_of_below : (ns : List Node) (kind : List Part) (name : Option QName) → IsBelow (length ns) (component_of ns kind name)
component_of_below ns kind None = tt
component_of_below ns kind (Some name) = component_below ns kind name

named_below : (ns : List Node) (kind : List Part) (i : ℕ) (text : List ℕ) → IsBelow (length ns) (named_component ns kind i text)
named_below ns kind i text = component_of_below ns kind (named ns i text)

text_names_below : (ns : List Node) (kind : List Part) (i : ℕ) (text : Option (List ℕ)) → IsBelow (length ns) (text_names ns kind i text)
text_names_below ns kind i None = tt
text_names_below ns kind i (Some text) = named_below ns kind i text

-- ---- types
abbrev TypeBelow : ℕ → Option TypeAt → Type 0
TypeBelow n None = Unit {0}
TypeBelow n (Some (type_at.Built place)) = Unit {0}
TypeBelow n (Some (type_at.Node i)) = i < n

abbrev TypesBelow : ℕ → List (Option TypeAt) → Type 0
TypesBelow n [] = Unit {0}
TypesBelow n (t ∷ ts) = TypeBelow n t × TypesBelow n ts

at_node_below : (n : ℕ) (o : Option ℕ) → IsBelow n o → TypeBelow n (at_node o)
at_node_below n None h = tt
at_node_below n (Some i) h = h

declared_below : (n : ℕ) (built declared : Option ℕ) → IsBelow n declared → TypeBelow n (or_declared built declared)
declared_below n (Some place) declared h = tt
declared_below n None declared h = at_node_below n declared h

type_of_name_below : (ns : List Node) (name : Option QName) → TypeBelow (length ns) (type_of_name ns name)
type_of_name_below ns None = tt
type_of_name_below ns (Some name) = declared_below (length ns) (built_in_of name) (component ns type_parts name) (component_below ns type_parts name)

named_type_below : (ns : List Node) (i : ℕ) (text : List ℕ) → TypeBelow (length ns) (named_type ns i text)
named_type_below ns i text = type_of_name_below ns (named ns i text)

text_names_type_below : (ns : List Node) (i : ℕ) (text : Option (List ℕ)) → TypeBelow (length ns) (text_names_type ns i text)
text_names_type_below ns i None = tt
text_names_type_below ns i (Some text) = named_type_below ns i text

simple_below : (ns : List Node) (t : Option TypeAt) → TypeBelow (length ns) t → TypeBelow (length ns) (simple_only ns t)
simple_below ns None h = tt
simple_below ns (Some t) h = either (TypeBelow (length ns)) (is_simple ns t) (Some t) None h tt

complex_below : (ns : List Node) (t : Option TypeAt) → TypeBelow (length ns) t → TypeBelow (length ns) (complex_only ns t)
complex_below ns None h = tt
complex_below ns (Some t) h = either (TypeBelow (length ns)) (is_simple ns t) None (Some t) tt h

inline_below : (ns : List Node) (d : ℕ) → TypeBelow (length ns) (inline ns d)
inline_below ns d = at_node_below (length ns) (child ns (part.SimpleType ∷ []) d) (child_below ns (part.SimpleType ∷ []) d)

or_inline_below : (ns : List Node) (d : ℕ) (text : Option (List ℕ)) → TypeBelow (length ns) (or_inline ns d text)
or_inline_below ns d None = inline_below ns d
or_inline_below ns d (Some text) = named_type_below ns d text

base_below : (ns : List Node) (d : ℕ) → TypeBelow (length ns) (base ns d)
base_below ns d =
    let text = text_at ns attribute.Base d in
    let by_name = text_names_type ns d text in
    let complex = complex_only ns by_name in
    either (TypeBelow (length ns)) (is_part part.SimpleType (holder ns d)) (simple_only ns (or_inline ns d text)) (cond (is_part part.ComplexContent (holder ns d)) complex by_name)
    (simple_below ns (or_inline ns d text) (or_inline_below ns d text))
    (either (TypeBelow (length ns)) (is_part part.ComplexContent (holder ns d)) complex by_name (complex_below ns by_name (text_names_type_below ns d text)) (text_names_type_below ns d text))

item_below : (ns : List Node) (d : ℕ) → TypeBelow (length ns) (item ns d)
item_below ns d = simple_below ns (or_inline ns d (text_at ns attribute.ItemType d)) (or_inline_below ns d (text_at ns attribute.ItemType d))

-- ---- what a type is derived from
append_types : (n : ℕ) (ts more : List (Option TypeAt)) → TypesBelow n ts → TypesBelow n more → TypesBelow n (ts ++ more)
append_types n [] more h g = g
append_types n (t ∷ ts) more h g = (h.0, append_types n ts more h.1 g)

members_named_below : (ns : List Node) (d : ℕ) (texts : List (List ℕ)) → TypesBelow (length ns) (map (member_named ns d) texts)
members_named_below ns d [] = tt
members_named_below ns d (text ∷ texts) = (simple_below ns (named_type ns d text) (named_type_below ns d text), members_named_below ns d texts)

members_held_below : (n : ℕ) (js : List ℕ) → NumbersBelow n js → TypesBelow n (map member_held js)
members_held_below n [] h = tt
members_held_below n (j ∷ js) h = (h.0, members_held_below n js h.1)

members_below : (ns : List Node) (d : ℕ) → TypesBelow (length ns) (members ns d)
members_below ns d =
    let held = children ns (part.SimpleType ∷ []) d in
    append_types (length ns) (named_members ns d) (map member_held held) (members_named_below ns d (words (or_empty (text_at ns attribute.MemberTypes d)))) (members_held_below (length ns) held (children_below ns (part.SimpleType ∷ []) d))

held_type_below : (n : ℕ) (t : Option TypeAt) → TypeBelow n t → TypesBelow n (held_type t)
held_type_below n None h = tt
held_type_below n (Some t) h = (h, tt)

inline_in_below : (ns : List Node) (d : ℕ) → TypesBelow (length ns) (inline_in ns d)
inline_in_below ns d = either (TypesBelow (length ns)) (is_part part.SimpleContent (holder ns d)) (held_type (inline ns d)) [] (held_type_below (length ns) (inline ns d) (inline_below ns d)) tt

derived_in_below : (ns : List Node) (d : ℕ) → TypesBelow (length ns) (derived_in ns d)
derived_in_below ns d =
    let Good = TypesBelow (length ns) in
    let of_union = cond (is_at ns part.Union d) (members ns d) [] in
    let of_list = cond (is_at ns part.List d) (item ns d ∷ []) of_union in
    let of_extension = cond (is_at ns part.Extension d) (base ns d ∷ []) of_list in
    either Good (is_at ns part.Restriction d) (base ns d ∷ inline_in ns d) of_extension (base_below ns d, inline_in_below ns d)
    (either Good (is_at ns part.Extension d) (base ns d ∷ []) of_list (base_below ns d, tt)
    (either Good (is_at ns part.List d) (item ns d ∷ []) of_union (item_below ns d, tt)
    (either Good (is_at ns part.Union d) (members ns d) [] (members_below ns d) tt)))

derived_from_below : (ns : List Node) (d : Option ℕ) → TypesBelow (length ns) (derived_from ns d)
derived_from_below ns None = tt
derived_from_below ns (Some d) = derived_in_below ns d

step_to_below : (n : ℕ) (t : Option TypeAt) → TypeBelow n t → AreBelow n (step_to t)
step_to_below n None h = (tt, tt)
step_to_below n (Some (type_at.Built place)) h = tt
step_to_below n (Some (type_at.Node i)) h = (h, tt)

steps_to_below : (n : ℕ) (ts : List (Option TypeAt)) → TypesBelow n ts → AreBelow n (flat_map step_to ts)
steps_to_below n [] h = tt
steps_to_below n (t ∷ ts) h = append_below n (step_to t) (flat_map step_to ts) (step_to_below n t h.0) (steps_to_below n ts h.1)

-- ---- groups and heads
groups_below : (ns : List Node) (i : ℕ) → AreBelow (length ns) (groups_named ns i)
groups_below ns i = map_below (length ns) (group_named ns) (filter (names_group ns i) (places ns)) (λ j. text_names_below ns groups j (text_at ns attribute.Ref j))

attribute_groups_below : (ns : List Node) (i : ℕ) → AreBelow (length ns) (attribute_groups_named ns i)
attribute_groups_below ns i = map_below (length ns) (attribute_group_named ns) (children ns (part.AttributeGroup ∷ []) i) (λ j. text_names_below ns attribute_groups j (text_at ns attribute.Ref j))

head_in_below : (ns : List Node) (i : ℕ) (text : Option (List ℕ)) → AreBelow (length ns) (head_in ns i text)
head_in_below ns i None = tt
head_in_below ns i (Some text) = (named_below ns elements i text, tt)

if_global_below : (ns : List Node) (i : ℕ) (found : List (Option ℕ)) → AreBelow (length ns) found → AreBelow (length ns) (if_global ns i found)
if_global_below ns i found h = either (AreBelow (length ns)) (is_global ns i) found [] h tt

-- ---- steps
pub steps_below : (ns : List Node) (i : ℕ) → AreBelow (length ns) (steps ns i)
steps_below ns i =
    let Good = AreBelow (length ns) in
    let of_element = cond (is_at ns part.Element i) (if_global ns i (head_named ns i)) [] in
    let of_attributes = cond (is_at ns part.AttributeGroup i) (if_global ns i (attribute_groups_named ns i)) of_element in
    let of_group = cond (is_at ns part.Group i) (if_global ns i (groups_named ns i)) of_attributes in
    either Good (is_among_at ns typed_parts i) (flat_map step_to (derived_from ns (derivation ns i))) of_group (steps_to_below (length ns) (derived_from ns (derivation ns i)) (derived_from_below ns (derivation ns i)))
    (either Good (is_at ns part.Group i) (if_global ns i (groups_named ns i)) of_attributes (if_global_below ns i (groups_named ns i) (groups_below ns i))
    (either Good (is_at ns part.AttributeGroup i) (if_global ns i (attribute_groups_named ns i)) of_element (if_global_below ns i (attribute_groups_named ns i) (attribute_groups_below ns i))
    (either Good (is_at ns part.Element i) (if_global ns i (head_named ns i)) [] (if_global_below ns i (head_named ns i) (head_in_below ns i (text_at ns attribute.SubstitutionGroup i))) tt)))

-- ---- where a weaker test does for the elements of the document
pub leads_below : (n : ℕ) (p q : ℕ → Bool) (o : Option ℕ) → IsBelow n o → ((j : ℕ) → j < n → p j ≡ true → q j ≡ true) → leads_to p o ≡ true → leads_to q o ≡ true
leads_below n p q None less h e = e
leads_below n p q (Some j) less h e = h j less e

pub all_lead_below : (n : ℕ) (p q : ℕ → Bool) (os : List (Option ℕ)) → AreBelow n os → ((j : ℕ) → j < n → p j ≡ true → q j ≡ true) → list_all (leads_to p) os ≡ true → list_all (leads_to q) os ≡ true
all_lead_below n p q [] less h e = refl
all_lead_below n p q (o ∷ os) less h e =
    let both = and_parts (leads_to p o) (list_all (leads_to p) os) e in
    and_from (leads_to q o) (list_all (leads_to q) os) (leads_below n p q o less.0 h both.0) (all_lead_below n p q os less.1 h both.1)

-- ---- behind the elements
module _ (ns : List Node) (i : ℕ) (behind : length ns ≤ i) where
  among_none : (ps : List Part) → is_among ps part.Other ≡ false → is_among_at ns ps i ≡ false
  among_none ps e = ap (λ (o : Option Node). is_among ps (part_in o)) (slice_get_past ns i behind) ∙ e

  at_none : (p : Part) → is_part p part.Other ≡ false → is_at ns p i ≡ false
  at_none p e = ap (λ (o : Option Node). is_part p (part_in o)) (slice_get_past ns i behind) ∙ e

  pub no_steps : steps ns i ≡ []
  no_steps =
      let of_element = cond (is_at ns part.Element i) (if_global ns i (head_named ns i)) [] in
      let of_attributes = cond (is_at ns part.AttributeGroup i) (if_global ns i (attribute_groups_named ns i)) of_element in
      let of_group = cond (is_at ns part.Group i) (if_global ns i (groups_named ns i)) of_attributes in
      ap (λ b. cond b (flat_map step_to (derived_from ns (derivation ns i))) of_group) (among_none typed_parts refl)
      ∙ ap (λ b. cond b (if_global ns i (groups_named ns i)) of_attributes) (at_none part.Group refl)
      ∙ ap (λ b. cond b (if_global ns i (attribute_groups_named ns i)) of_element) (at_none part.AttributeGroup refl)
      ∙ ap (λ b. cond b (if_global ns i (head_named ns i)) []) (at_none part.Element refl)

  pub whole_behind : is_whole ns i ≡ true
  whole_behind = whole_without_steps ns i no_steps
