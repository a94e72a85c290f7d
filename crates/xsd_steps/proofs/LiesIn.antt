-- What each element lies in, by what its parent lies in.
use Rattle.std.proofs.Common.{◌≡◌, ℕ, zero, suc, ◌+◌, ◌-◌, ◌<◌, cond, Option, Some, None, inl, inr, List, [], ◌∷◌, ◌++◌, get_or, length, refl, sym, ap, ◌∙◌, arith}
use Rattle.std.proofs.lemmas.Bool.{cases_eq}
use Rattle.std.proofs.lemmas.List.{get_or_append_left, get_or_default, get_or_push, length-append}
use Rattle.std.proofs.lemmas.Option.{none-some}
use Rattle.xsd_tree.specs.Trees.{ArePlaced, IsTree}
use Rattle.xsd_tree.specs.declared.node.Node.{Node}
use Rattle.xsd_nodes.specs.Nodes.{is_among_at, outwards_from, parent_at}
use Rattle.xsd_nodes.proofs.Upwards.{no_more}
use Rattle.xsd_document.proofs.Below.{or_zero, placed_parent}
use Rattle.xsd_steps.specs.Groups.{behind_first}
use Rattle.xsd_steps.specs.Table.{AreOwners, first_beyond, models, namer, owner, owner_by}

-- ---- a parent stands before what it holds
pub parent_before : (place : ℕ) (ns : List Node) (j p : ℕ) → ArePlaced place ns → parent_at ns j ≡ Some p → p < place + j
parent_before place [] j p h e = absurd (none-some p e)
parent_before place (n ∷ ns) zero p h e = let less = placed_parent place n.name n.parent p h.0 e in omega (arith, less)
parent_before place (n ∷ ns) (suc j) p h e = let less = parent_before (suc place) ns j p h.1 e in omega (arith, less)

pub before : (ns : List Node) (j p m : ℕ) → IsTree ns → j < suc m → parent_at ns j ≡ Some p → p < m
before ns j p m tree less e = let earlier = parent_before 0 ns j p tree.placed e in omega (arith, earlier, less)

-- so that outwards there are never more elements than the count of those before
pub so_far : (ns : List Node) → IsTree ns → (m k : ℕ) (o : Option ℕ) → ((p : ℕ) → o ≡ Some p → p < m) → ((p : ℕ) → o ≡ Some p → p < k) → outwards_from m ns o ≡ outwards_from k ns o
so_far ns tree zero k None h g = sym (no_more ns k)
so_far ns tree zero k (Some p) h g = let less = h p refl in absurd (omega (arith, less))
so_far ns tree (suc m) zero None h g = refl
so_far ns tree (suc m) zero (Some p) h g = let less = g p refl in absurd (omega (arith, less))
so_far ns tree (suc m) (suc k) None h g = refl
so_far ns tree (suc m) (suc k) (Some p) h g = ap (λ (l : List ℕ). p ∷ l) (so_far ns tree m k (parent_at ns p) (λ q e. before ns p q m tree (h p refl) e) (λ q e. before ns p q k tree (g p refl) e))

-- ---- by the parent
abbrev pub owner_up : List Node → Option ℕ → Option ℕ
owner_up ns None = None
owner_up ns (Some p) = cond (is_among_at ns models p) (owner ns p) (Some p)

pub same_less : (p q m : ℕ) → p < m → Some p ≡ Some q → q < m
same_less p q m less e = let f : p ≡ q = ap or_zero e in omega (arith, f, less)

pub up_is : (ns : List Node) → IsTree ns → (m : ℕ) → length ns ≡ suc m → (o : Option ℕ) → ((p : ℕ) → o ≡ Some p → p < m) → first_beyond ns (outwards_from m ns o) ≡ owner_up ns o
up_is ns tree m e None inside = ap (first_beyond ns) (no_more ns m)
up_is ns tree m e (Some p) inside =
    let less : p < m = inside p refl in
    let more : p < suc m = omega (arith, less) in
    ap (first_beyond ns) (so_far ns tree m (suc m) (Some p) (λ q f. same_less p q m less f) (λ q f. same_less p q (suc m) more f))
    ∙ ap (λ (n : ℕ). cond (is_among_at ns models p) (first_beyond ns (behind_first (outwards_from n ns (Some p)))) (Some p)) (sym e)

pub owner_is : (ns : List Node) (j : ℕ) → IsTree ns → j < length ns → owner ns j ≡ owner_up ns (parent_at ns j)
owner_is ns j tree less =
    let m = length ns - 1 in
    let e : length ns ≡ suc m = omega (arith, less) in
    let inside : j < suc m = omega (arith, less) in
    ap (λ (n : ℕ). first_beyond ns (behind_first (outwards_from n ns (Some j)))) e
    ∙ up_is ns tree m e (parent_at ns j) (λ p f. before ns j p m tree inside f)

-- ---- one more
pub by_those : (ns : List Node) (owners : List (Option ℕ)) (o : Option ℕ) → ((p : ℕ) → o ≡ Some p → get_or owners p None ≡ owner ns p) → owner_by ns owners o ≡ owner_up ns o
by_those ns owners None h = refl
by_those ns owners (Some p) h = ap (λ (x : Option ℕ). cond (is_among_at ns models p) x (Some p)) (h p refl)

pub next_owner : (ns : List Node) (owners : List (Option ℕ)) (j : ℕ) → IsTree ns → j < length ns → ((i : ℕ) → i < j → get_or owners i None ≡ owner ns i) → owner_by ns owners (parent_at ns j) ≡ owner ns j
next_owner ns owners j tree less each =
    by_those ns owners (parent_at ns j) (λ p e. let earlier = parent_before 0 ns j p tree.placed e in each p (omega (arith, earlier))) ∙ sym (owner_is ns j tree less)

pub owners_next : (ns : List Node) (owners new : List (Option ℕ)) (j : ℕ) (r : Option ℕ) → length owners ≡ j → ((i : ℕ) → i < j → get_or owners i None ≡ owner ns i) → r ≡ owner ns j → new ≡ owners ++ r ∷ [] → (i : ℕ) → i < j + 1 → get_or new i None ≡ owner ns i
owners_next ns owners new j r count each r_is new_is i less =
    ap (λ (l : List (Option ℕ)). get_or l i None) new_is ∙ elim (cases_eq i j) [
      | inl e ↦
          let here : length owners ≡ i = omega (arith, count, e) in
          get_or_push owners r None i here ∙ r_is ∙ ap (owner ns) (sym e)
      | inr n ↦
          let earlier : i < j = omega (arith, n, less) in
          let inside : i < length owners = omega (arith, count, earlier) in
          get_or_append_left owners (r ∷ []) None i inside ∙ each i earlier
    ]

pub owners_count : (owners new : List (Option ℕ)) (j : ℕ) (r : Option ℕ) → length owners ≡ j → new ≡ owners ++ r ∷ [] → length new ≡ j + 1
owners_count owners new j r count new_is = ap length new_is ∙ length-append owners (r ∷ []) ∙ ap (λ (k : ℕ). k + 1) count

pub all_owners : (ns : List Node) (owners : List (Option ℕ)) (n : ℕ) → length owners ≡ n → n ≡ length ns → ((i : ℕ) → i < n → get_or owners i None ≡ owner ns i) → AreOwners ns owners
all_owners ns owners n count n_is each = record { count = count ∙ n_is; each = λ i less. let inside : i < n = omega (arith, n_is, less) in each i inside }

-- ---- what names a group at a place
pub named_by : (nodes ns : List Node) (owners items : List (Option ℕ)) (d : Option ℕ) (j : ℕ) (r : Option ℕ) → nodes ≡ ns → items ≡ owners → AreOwners nodes owners → j < length items → r ≡ namer nodes j (get_or items j d) → r ≡ namer ns j (owner ns j)
named_by nodes ns owners items d j r e items_are h less r_is =
    let inside : j < length nodes = omega (arith, less, ap length items_are, h.count) in
    r_is
    ∙ ap (namer nodes j) (get_or_default items j d None less ∙ ap (λ (l : List (Option ℕ)). get_or l j None) items_are ∙ h.each j inside)
    ∙ ap (λ (x : List Node). namer x j (owner x j)) e
