-- What each element holds of those that stand before a place.
use Rattle.std.proofs.Common.{◌≡◌, ℕ, zero, suc, ◌+◌, ◌<◌, ◌≤◌, eqb, ltb, Bool, true, false, cond, Option, Some, None, inl, inr, List, [], ◌∷◌, ◌++◌, All, filter, get_or, length, set, refl, sym, ap, ◌∙◌, arith}
use Rattle.std.proofs.lemmas.Bool.{cases_eq, eq-eqb, ltb-false, ne_eqb}
use Rattle.std.proofs.lemmas.List.{append-nil, append_assoc, get_or-set_other, length-set}
use Rattle.std.proofs.lemmas.Grind.{get_or-set_at}
use Rattle.std.proofs.lemmas.List.Elements.{filter-append}
use Rattle.std.proofs.lemmas.Option.{none-some, slice_get-get_or}
use Rattle.exi_names.specs.declared.names.QName.{QName}
use Rattle.xsd_tree.specs.Trees.{ArePlaced, IsPlaced, IsTree}
use Rattle.xsd_tree.specs.declared.node.Node.{Node}
use Rattle.xsd_nodes.specs.Nodes.{is_place, parent_at, parent_in, places, places_from}
use Rattle.xsd_document.specs.Held.{IsHeld, held, holds, put}

-- the places before one
pub below : ℕ → List ℕ
below zero = []
below (suc n) = below n ++ n ∷ []

pub below_more : (n : ℕ) → below (n + 1) ≡ below n ++ n ∷ []
unfolding below
below_more n = let e : n + 1 ≡ suc n = omega arith in rw e refl

pub below_zero : below 0 ≡ []
unfolding below
below_zero = refl

pub places_below : (i : ℕ) (ns : List Node) → below i ++ places_from i ns ≡ below (i + length ns)
places_below i [] = let e : i + 0 ≡ i = omega arith in append-nil (below i) ∙ ap below (sym e)
places_below i (n ∷ ns) =
    let s : suc i ≡ i + 1 = omega arith in
    let t : suc i + length ns ≡ i + suc (length ns) = omega arith in
    let m : below (suc i) ≡ below i ++ i ∷ [] = ap below s ∙ below_more i in
    sym (append_assoc (below i) (i ∷ []) (places_from (suc i) ns))
    ∙ ap (λ (l : List ℕ). l ++ places_from (suc i) ns) (sym m)
    ∙ places_below (suc i) ns
    ∙ ap below t

pub places_are : (ns : List Node) → places ns ≡ below (length ns)
places_are ns = let e : 0 + length ns ≡ length ns = omega arith in ap (λ (l : List ℕ). l ++ places_from 0 ns) (sym below_zero) ∙ places_below 0 ns ∙ ap below e

-- what an element holds of those before a place
abbrev pub held_below : List Node → ℕ → ℕ → List ℕ
held_below ns j i = filter (holds ns i) (below j)

pub held_all : (ns : List Node) (i : ℕ) → held_below ns (length ns) i ≡ held ns i
held_all ns i = ap (filter (holds ns i)) (sym (places_are ns))

pub held_none : (ns : List Node) (i : ℕ) → [] ≡ held_below ns 0 i
held_none ns i = ap (filter (holds ns i)) (sym below_zero)

pub held_more : (ns : List Node) (j i : ℕ) → held_below ns (j + 1) i ≡ held_below ns j i ++ filter (holds ns i) (j ∷ [])
held_more ns j i = ap (filter (holds ns i)) (below_more j) ∙ filter-append (holds ns i) (below j) (j ∷ [])

-- ---- one more
-- whether it is held by its parent alone
pub one_held : (b : Bool) (j : ℕ) (l : List ℕ) → b ≡ true → l ++ cond b (j ∷ []) [] ≡ l ++ j ∷ []
one_held b j l h = ap (λ c. l ++ cond c (j ∷ []) []) h

pub none_held : (b : Bool) (j : ℕ) (l : List ℕ) → b ≡ false → l ++ cond b (j ∷ []) [] ≡ l
none_held b j l h = ap (λ c. l ++ cond c (j ∷ []) []) h ∙ append-nil l

pub put_one : (parent : Option ℕ) (lists : List (List ℕ)) (j i : ℕ) → i < length lists → get_or (put parent j lists) i [] ≡ get_or lists i [] ++ cond (is_place i parent) (j ∷ []) []
put_one None lists j i less = sym (append-nil (get_or lists i []))
put_one (Some p) lists j i less =
    let more = get_or lists p [] ++ j ∷ [] in elim (cases_eq i p) [
      | inl e ↦
          let q : p < length lists = omega (arith, e, less) in
          let here : get_or (set lists p more) i [] ≡ more = ap (λ (k : ℕ). get_or (set lists p more) k []) e ∙ get_or-set_at lists p p more [] refl q in
          here ∙ ap (λ (k : ℕ). get_or lists k [] ++ j ∷ []) (sym e) ∙ sym (one_held (eqb i p) j (get_or lists i []) (eq-eqb i p e))
      | inr n ↦ get_or-set_other lists p i more [] n ∙ sym (none_held (eqb i p) j (get_or lists i []) (ne_eqb i p n))
    ]

pub put_count : (parent : Option ℕ) (lists : List (List ℕ)) (j : ℕ) → length (put parent j lists) ≡ length lists
put_count None lists j = refl
put_count (Some p) lists j = length-set lists p (get_or lists p [] ++ j ∷ [])

-- an element's parent
pub parent_is : (d : Node) (ns : List Node) (j : ℕ) → j < length ns → (get_or ns j d).parent ≡ parent_at ns j
parent_is d ns j less = ap parent_in (sym (slice_get-get_or ns j d less))

pub put_next : (ns : List Node) (lists new : List (List ℕ)) (parent : Option ℕ) (j : ℕ) → parent ≡ parent_at ns j → length lists ≡ length ns → ((i : ℕ) → i < length ns → get_or lists i [] ≡ held_below ns j i) → new ≡ put parent j lists → (i : ℕ) → i < length ns → get_or new i [] ≡ held_below ns (j + 1) i
put_next ns lists new parent j parent_here count each new_is i less =
    let inside : i < length lists = omega (arith, count, less) in
    ap (λ (l : List (List ℕ)). get_or l i []) new_is
    ∙ put_one parent lists j i inside
    ∙ ap (λ (p : Option ℕ). get_or lists i [] ++ cond (is_place i p) (j ∷ []) []) parent_here
    ∙ ap (λ (l : List ℕ). l ++ cond (holds ns i j) (j ∷ []) []) (each i less)
    ∙ sym (held_more ns j i)

-- ---- behind all
abbrev pub or_zero : Option ℕ → ℕ
or_zero None = 0
or_zero (Some n) = n

pub placed_parent : (place : ℕ) (name : QName) (parent : Option ℕ) (p : ℕ) → IsPlaced place name parent → parent ≡ Some p → p < place
placed_parent place name None p h e = absurd (none-some p e)
placed_parent place name (Some q) p h e = let f : q ≡ p = ap or_zero e in omega (arith, f, h)

pub parent_below : (place : ℕ) (ns : List Node) (j p : ℕ) → ArePlaced place ns → parent_at ns j ≡ Some p → p < place + length ns
parent_below place [] j p h e = absurd (none-some p e)
parent_below place (n ∷ ns) zero p h e = let less = placed_parent place n.name n.parent p h.0 e in omega (arith, less)
parent_below place (n ∷ ns) (suc j) p h e = let less = parent_below (suc place) ns j p h.1 e in omega (arith, less)

pub not_place : (i : ℕ) (parent : Option ℕ) → ((p : ℕ) → parent ≡ Some p → p < i) → is_place i parent ≡ false
not_place i None h = refl
not_place i (Some p) h = let less = h p refl in ne_eqb i p (λ e. omega (arith, e, less))

pub none_passes : (test : ℕ → Bool) (xs : List ℕ) → ((x : ℕ) → test x ≡ false) → [] ≡ filter test xs
none_passes test [] h = refl
none_passes test (x ∷ xs) h = none_passes test xs h ∙ ap (λ b. cond b (x ∷ filter test xs) (filter test xs)) (sym (h x))

pub nothing_held : (ns : List Node) (i : ℕ) → IsTree ns → length ns ≤ i → [] ≡ held ns i
nothing_held ns i tree le = none_passes (holds ns i) (places ns) (λ j. not_place i (parent_at ns j) (λ p e. let less = parent_below 0 ns j p tree.placed e in omega (arith, less, le)))

pub none_there : (ns now : List Node) (lists items : List (List ℕ)) (i : ℕ) → IsTree ns → IsHeld ns lists → items ≡ lists → ns ≡ now → false ≡ ltb i (length items) → [] ≡ held now i
none_there ns now lists items i tree h items_are e outside =
    let le : length items ≤ i = ltb-false i (length items) (sym outside) in
    let behind : length ns ≤ i = omega (arith, le, ap length items_are, h.count) in
    nothing_held ns i tree behind ∙ ap (λ (x : List Node). held x i) e

-- ---- so many empty lists
pub empty_at : (lists : List (List ℕ)) (i : ℕ) → All (λ l. l ≡ []) lists → i < length lists → get_or lists i [] ≡ []
empty_at lists i h less = h i [] less

-- ---- the whole document
pub made : (ns tree : List Node) (lists : List (List ℕ)) (j : ℕ) → ns ≡ tree → IsTree tree → length lists ≡ length tree → ((i : ℕ) → i < length tree → get_or lists i [] ≡ held_below tree j i) → j ≡ length tree → IsTree ns × IsHeld ns lists
made ns tree lists j e t count each j_is =
    rw e (t, record { count = count; each = λ i less. each i less ∙ ap (λ (k : ℕ). held_below tree k i) j_is ∙ held_all tree i })
