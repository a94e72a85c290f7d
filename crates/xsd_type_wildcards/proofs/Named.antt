-- Which groups of attributes have a wildcard, one after another.
use Rattle.std.proofs.Common.{◌≡◌, ℕ, ◌<◌, ◌≤◌, Bool, true, false, ◌||◌, ◌&&◌, Option, Some, None, inl, inr, List, get_or, length, take, refl, sym, ap, ◌∙◌, arith}
use Rattle.std.specs.List.{list_all, list_any}
use Rattle.std.proofs.lemmas.Bool.{and_parts, cases_lt, false≢true}
use Rattle.std.proofs.lemmas.List.{take_all}
use Rattle.std.proofs.lemmas.Option.{slice_get_past}
use Rattle.xsd_tree.specs.declared.node.Node.{Node}
use Rattle.xsd_nodes.specs.Nodes.{is_among_at, is_global, is_root, parent_in}
use Rattle.xsd_components.specs.References.{attribute_groups}
use Rattle.xsd_derivations.specs.Derivations.{attribute_groups_named}
use Rattle.xsd_paths.specs.Paths.{IsOrder, has_whole_groups, is_in, is_whole, is_whole_within, leads_to}
use Rattle.xsd_paths.proofs.Orders.{order_within}
use Rattle.xsd_type_wildcards.specs.Sources.{has_own}
use Rattle.xsd_type_wildcards.specs.Told.{AreGroups, has_deep, has_own_by, holds_wild, if_whole, is_group, is_marked, own_told}
use Rattle.xsd_type_wildcards.proofs.Own.{any_agree, group_steps, groups_lead, own_is, own_settled}

-- what the table has of an element
abbrev pub group_told : List Node → ℕ → Bool
group_told ns i = is_group ns i && has_deep ns i

abbrev pub TellsGroups : List Node → List ℕ → List Bool → Type 0
TellsGroups ns xs groups = (i : ℕ) → is_in xs i ≡ true → get_or groups i false ≡ group_told ns i

pub group_next : (ns : List Node) (order : List ℕ) (k : ℕ) (groups : List Bool) → IsOrder ns order → k < length order → TellsGroups ns (take k order) groups → (is_group ns (get_or order k 0) && has_own_by ns (is_marked groups) (get_or order k 0)) ≡ group_told ns (get_or order k 0)
group_next ns order k groups o less each = by (is_group ns (get_or order k 0)) refl
  where
    agree : (j : ℕ) → (is_group ns j && is_in (take k order) j) ≡ true → is_marked groups j ≡ has_deep ns j
    agree j p = let q = and_parts (is_group ns j) (is_in (take k order) j) p in each j q.1 ∙ ap (λ b. b && has_deep ns j) q.0

    here : is_group ns (get_or order k 0) ≡ true → has_own_by ns (is_marked groups) (get_or order k 0) ≡ has_deep ns (get_or order k 0)
    here group =
        let place = get_or order k 0 in
        let leads : list_all (leads_to (is_in (take k order))) (attribute_groups_named ns place) ≡ true = ap (list_all (leads_to (is_in (take k order)))) (sym (group_steps ns place group)) ∙ o.before k less in
        let within : is_whole_within (length ns) ns place ≡ true = order_within ns order o.before (length ns) k (omega (arith, less, o.few)) less in
        ap (λ b. holds_wild ns place || b) (any_agree (λ j. is_group ns j && is_in (take k order) j) (is_marked groups) (has_deep ns) (attribute_groups_named ns place) agree (groups_lead ns (is_in (take k order)) place leads))
        ∙ sym (own_is ns place)
        ∙ sym (own_settled ns place group within)

    by : (b : Bool) → is_group ns (get_or order k 0) ≡ b → (b && has_own_by ns (is_marked groups) (get_or order k 0)) ≡ (b && has_deep ns (get_or order k 0))
    by true group = here group
    by false group = refl

-- ---- all of them
-- what is declared directly within the schema is there
pub global_there : (ns : List Node) (i : ℕ) → is_global ns i ≡ true → i < length ns
global_there ns i e = elim (cases_lt i (length ns)) [
  | inl less ↦ less
  | inr le ↦ absurd (false≢true (sym (ap (λ (n : Option Node). is_root ns (parent_in n)) (slice_get_past ns i le)) ∙ e))
]

pub are_groups : (ns : List Node) (groups : List Bool) (order : List ℕ) (k : ℕ) → IsOrder ns order → length order ≤ k → TellsGroups ns (take k order) groups → AreGroups ns groups
are_groups ns groups order k o ended each = record { each = λ g group whole. one g group whole }
  where
    one : (g : ℕ) → is_group ns g ≡ true → is_whole ns g ≡ true → is_marked groups g ≡ has_deep ns g
    one g group whole =
        let less : g < length ns = global_there ns g (and_parts (is_global ns g) (is_among_at ns attribute_groups g) group).0 in
        let inside : is_in order g ≡ true = o.all g less whole in
        each g (rw (take_all k order ended) inside) ∙ ap (λ b. b && has_deep ns g) group

-- ---- an element that names groups
pub own_by_groups : (ns : List Node) (groups : List Bool) (i : ℕ) → AreGroups ns groups → has_whole_groups ns i ≡ true → has_own_by ns (is_marked groups) i ≡ has_own ns i
own_by_groups ns groups i h whole =
    ap (λ b. holds_wild ns i || b) (any_agree (λ j. is_group ns j && is_whole ns j) (is_marked groups) (has_deep ns) (attribute_groups_named ns i) (λ j p. let q = and_parts (is_group ns j) (is_whole ns j) p in h.each j q.0 q.1) (groups_lead ns (is_whole ns) i whole))
    ∙ sym (own_is ns i)

pub own_told_whole : (ns : List Node) (groups : List Bool) (i : ℕ) (named : List (Option ℕ)) (whole own : Bool) → AreGroups ns groups → named ≡ attribute_groups_named ns i → whole ≡ list_all (leads_to (is_whole ns)) named → whole ≡ true → own ≡ (holds_wild ns i || list_any (leads_to (is_marked groups)) named) → Some own ≡ own_told ns i
own_told_whole ns groups i named whole own h named_is whole_is all_there found =
    let here : has_whole_groups ns i ≡ true = ap (list_all (leads_to (is_whole ns))) (sym named_is) ∙ sym whole_is ∙ all_there in
    let same : own ≡ has_own ns i = found ∙ ap (λ (l : List (Option ℕ)). holds_wild ns i || list_any (leads_to (is_marked groups)) l) named_is ∙ own_by_groups ns groups i h here in
    ap (λ b. Some b) same ∙ ap (λ b. if_whole b (has_own ns i)) (sym here)

pub own_told_not : (ns : List Node) (i : ℕ) (named : List (Option ℕ)) (whole : Bool) → named ≡ attribute_groups_named ns i → whole ≡ list_all (leads_to (is_whole ns)) named → whole ≡ false → None ≡ own_told ns i
own_told_not ns i named whole named_is whole_is not_all =
    let here : has_whole_groups ns i ≡ false = ap (list_all (leads_to (is_whole ns))) (sym named_is) ∙ sym whole_is ∙ not_all in ap (λ b. if_whole b (has_own ns i)) (sym here)
