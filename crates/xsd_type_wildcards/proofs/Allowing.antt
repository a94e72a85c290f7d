-- What groups of attributes allow, one after another, and what a type allows by where its wildcard is from.
use Rattle.std.proofs.Common.{◌≡◌, ℕ, zero, suc, ◌<◌, ◌≤◌, eqb, Bool, true, false, cond, not, ◌||◌, ◌&&◌, Option, Some, None, List, [], ◌∷◌, ◌++◌, get_or, length, map, take, refl, sym, ap, ◌∙◌, arith}
use Rattle.std.specs.List.{list_all}
use Rattle.std.proofs.lemmas.Bool.{and_parts}
use Rattle.std.proofs.lemmas.List.{take_all}
use Rattle.xsd_tree.specs.declared.node.Node.{Node}
use Rattle.xsd_nodes.specs.Nodes.{is_among_at, is_at, is_global}
use Rattle.xsd_nodes.specs.declared.part.Part.TheVariants as part
use Rattle.xsd_builtins.specs.BuiltIns.{any_type}
use Rattle.xsd_components.specs.References.{attribute_groups, base, is_simple}
use Rattle.xsd_components.specs.declared.type_at.TypeAt.{TypeAt}
use Rattle.xsd_components.specs.declared.type_at.TypeAt.TheVariants as type_at
use Rattle.xsd_derivations.specs.Derivations.{attribute_groups_named}
use Rattle.xsd_paths.specs.Paths.{IsOrder, has_whole_groups, is_in, is_whole, is_whole_within, leads_to}
use Rattle.xsd_paths.proofs.Orders.{order_within}
use Rattle.xsd_wildcards.specs.declared.allowed.Allowed.{Allowed}
use Rattle.xsd_type_wildcards.specs.Sources.{has_own, holder_or, inherited, source_of, source_of_base, source_within}
use Rattle.xsd_type_wildcards.specs.Told.{is_group}
use Rattle.xsd_type_wildcards.specs.TypeWildcards.{all_together, attributes_in, base_groups, has_all_groups, of_group, own_wild, together, whole_groups_within, wild_within}
use Rattle.xsd_type_wildcards.specs.Wilds.{AreWilds, HasWholeGroups, held_wilds, own_wild_by, wild_told}
use Rattle.xsd_type_wildcards.specs.declared.source.Source.{Source}
use Rattle.xsd_type_wildcards.specs.declared.source.Source.TheVariants as source
use Rattle.xsd_type_wildcards.proofs.Named.{global_there}
use Rattle.xsd_type_wildcards.proofs.Own.{group_steps, groups_lead, wild_settled, wilds_agree}

-- ---- those that an element holds, and then those of the groups
all_behind : (found : Option Allowed) (xs ys : List (Option Allowed)) → all_together found (xs ++ ys) ≡ all_together (all_together found xs) ys
all_behind found [] ys = refl
all_behind found (x ∷ xs) ys = all_behind (together found x) xs ys

within_by : (ns : List Node) (n i : ℕ) → wild_within (suc n) ns i ≡ own_wild_by ns (wild_within n ns) i
within_by ns n i = all_behind None (held_wilds ns i) (map (of_group (wild_within n ns)) (attribute_groups_named ns i))

own_by : (ns : List Node) (i : ℕ) → own_wild ns i ≡ own_wild_by ns (wild_within (length ns) ns) i
unfolding own_wild
own_by ns i = within_by ns (length ns) i

by_groups : (ns : List Node) (p : ℕ → Bool) (f g : ℕ → Option Allowed) (i : ℕ) → ((j : ℕ) → p j ≡ true → f j ≡ g j) → list_all (leads_to p) (attribute_groups_named ns i) ≡ true → own_wild_by ns f i ≡ own_wild_by ns g i
by_groups ns p f g i h e = ap (all_together (all_together None (held_wilds ns i))) (wilds_agree p f g (attribute_groups_named ns i) h e)

-- ---- one group after another
abbrev pub group_wild : List Node → ℕ → Option Allowed
group_wild ns i = cond (is_group ns i) (wild_within (length ns) ns i) None

abbrev pub TellsWilds : List Node → List ℕ → List (Option Allowed) → Type 0
TellsWilds ns xs groups = (i : ℕ) → is_in xs i ≡ true → get_or groups i None ≡ group_wild ns i

pub wilds_next : (ns : List Node) (order : List ℕ) (k : ℕ) (groups : List (Option Allowed)) → IsOrder ns order → k < length order → TellsWilds ns (take k order) groups → cond (is_group ns (get_or order k 0)) (own_wild_by ns (wild_told groups) (get_or order k 0)) None ≡ group_wild ns (get_or order k 0)
wilds_next ns order k groups o less each = by (is_group ns (get_or order k 0)) refl
  where
    agree : (j : ℕ) → (is_group ns j && is_in (take k order) j) ≡ true → wild_told groups j ≡ wild_within (length ns) ns j
    agree j p = let q = and_parts (is_group ns j) (is_in (take k order) j) p in each j q.1 ∙ ap (λ b. cond b (wild_within (length ns) ns j) None) q.0

    here : is_group ns (get_or order k 0) ≡ true → own_wild_by ns (wild_told groups) (get_or order k 0) ≡ wild_within (length ns) ns (get_or order k 0)
    here group =
        let place = get_or order k 0 in
        let leads : list_all (leads_to (is_in (take k order))) (attribute_groups_named ns place) ≡ true = ap (list_all (leads_to (is_in (take k order)))) (sym (group_steps ns place group)) ∙ o.before k less in
        let within : is_whole_within (length ns) ns place ≡ true = order_within ns order o.before (length ns) k (omega (arith, less, o.few)) less in
        let le : length ns ≤ suc (length ns) = omega arith in
        by_groups ns (λ j. is_group ns j && is_in (take k order) j) (wild_told groups) (wild_within (length ns) ns) place agree (groups_lead ns (is_in (take k order)) place leads)
        ∙ sym (within_by ns (length ns) place)
        ∙ sym (wild_settled ns (length ns) (suc (length ns)) place le group within)

    by : (b : Bool) → is_group ns (get_or order k 0) ≡ b → cond b (own_wild_by ns (wild_told groups) (get_or order k 0)) None ≡ cond b (wild_within (length ns) ns (get_or order k 0)) None
    by true group = here group
    by false group = refl

pub are_wilds : (ns : List Node) (groups : List (Option Allowed)) (order : List ℕ) (k : ℕ) → IsOrder ns order → length order ≤ k → TellsWilds ns (take k order) groups → AreWilds ns groups
are_wilds ns groups order k o ended each = record { each = λ g group whole. one g group whole }
  where
    one : (g : ℕ) → is_group ns g ≡ true → is_whole ns g ≡ true → wild_told groups g ≡ wild_within (length ns) ns g
    one g group whole =
        let less : g < length ns = global_there ns g (and_parts (is_global ns g) (is_among_at ns attribute_groups g) group).0 in
        let inside : is_in order g ≡ true = o.all g less whole in
        each g (rw (take_all k order ended) inside) ∙ ap (λ b. cond b (wild_within (length ns) ns g) None) group

-- ---- an element that names groups
pub own_by_wilds : (ns : List Node) (groups : List (Option Allowed)) (i : ℕ) → AreWilds ns groups → has_whole_groups ns i ≡ true → own_wild_by ns (wild_told groups) i ≡ own_wild ns i
own_by_wilds ns groups i h whole =
    by_groups ns (λ j. is_group ns j && is_whole ns j) (wild_told groups) (wild_within (length ns) ns) i (λ j p. let q = and_parts (is_group ns j) (is_whole ns j) p in h.each j q.0 q.1) (groups_lead ns (is_whole ns) i whole)
    ∙ sym (own_by ns i)

-- ---- the element that a type has its wildcard from names groups that are there
abbrev AreHeld : List Node → ℕ → ℕ → Type 0
AreHeld ns n d = (t : TypeAt) → whole_groups_within n ns t ≡ true → source_within n ns t ≡ source.Holder d → has_whole_groups ns d ≡ true

built_holds : (ns : List Node) (any : Bool) (d : ℕ) → cond any source.AnyType source.Nowhere ≡ source.Holder d → has_whole_groups ns d ≡ true
built_holds ns true d e = absurd cc
built_holds ns false d e = absurd cc

inherited_holds : (ns : List Node) (n i d : ℕ) → AreHeld ns n d → (extends : Bool) (b : Option TypeAt) → is_at ns part.Extension i ≡ extends → base_groups ns (whole_groups_within n ns) i b ≡ true → cond extends (source_of_base (source_within n ns) b) source.Nowhere ≡ source.Holder d → has_whole_groups ns d ≡ true
inherited_holds ns n i d h false b x whole e = absurd cc
inherited_holds ns n i d h true None x whole e = absurd cc
inherited_holds ns n i d h true (Some t) x whole e = h t (ap (λ c. not c || whole_groups_within n ns t) (sym x) ∙ whole) e

node_holds : (ns : List Node) (n i d : ℕ) → AreHeld ns n d → (simple own : Bool) → (simple || (has_whole_groups ns i && base_groups ns (whole_groups_within n ns) i (base ns i))) ≡ true → cond simple source.Nowhere (holder_or own i (inherited ns (source_within n ns) i)) ≡ source.Holder d → has_whole_groups ns d ≡ true
node_holds ns n i d h true own whole e = absurd cc
node_holds ns n i d h false true whole e =
    let same : i ≡ d = cc in ap (has_whole_groups ns) (sym same) ∙ (and_parts (has_whole_groups ns i) (base_groups ns (whole_groups_within n ns) i (base ns i)) whole).0
node_holds ns n i d h false false whole e =
    inherited_holds ns n i d h (is_at ns part.Extension i) (base ns i) refl (and_parts (has_whole_groups ns i) (base_groups ns (whole_groups_within n ns) i (base ns i)) whole).1 e

holder_within : (ns : List Node) (n d : ℕ) → AreHeld ns n d
holder_within ns zero d t whole e = absurd cc
holder_within ns (suc n) d (type_at.Built place) whole e = built_holds ns (eqb place any_type) d e
holder_within ns (suc n) d (type_at.Node i) whole e = node_holds ns n (attributes_in ns i) d (holder_within ns n d) (is_simple ns (type_at.Node i)) (has_own ns (attributes_in ns i)) whole e

pub holder_whole : (ns : List Node) (t : TypeAt) (d : ℕ) → has_all_groups ns t ≡ true → source_of ns t ≡ source.Holder d → has_whole_groups ns d ≡ true
unfolding source_of
holder_whole ns t d whole e = holder_within ns (suc (length ns)) d t whole e

pub source_groups : (ns : List Node) (t : TypeAt) (s : Source) → has_all_groups ns t ≡ true → s ≡ source_of ns t → HasWholeGroups ns s
source_groups ns t source.Nowhere whole e = tt
source_groups ns t source.AnyType whole e = tt
source_groups ns t (source.Holder d) whole e = holder_whole ns t d whole (sym e)
