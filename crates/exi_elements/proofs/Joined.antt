-- The members of each head, one element at a time.
use Rattle.std.proofs.Common.{◌≡◌, ℕ, zero, suc, ◌+◌, ◌<◌, ◌≤◌, ◌==◌, Bool, true, false, cond, ◌||◌, Option, Some, None, inl, inr, List, [], ◌∷◌, ◌++◌, All, length, get_or, set, take, refl, sym, ap, ◌∙◌, subst, arith}
use Rattle.std.specs.List.{filter, slice_get}
use Rattle.std.specs.Option.{option_to_list}
use Rattle.std.proofs.Math.ListN.{replicate}
use Rattle.std.proofs.lemmas.Bool.{cases_eq, eq-eqb, ne_eqb}
use Rattle.std.proofs.lemmas.List.{append-nil, get_or-replicate, get_or-set_other, get_or-set_same, length-set, take_all}
use Rattle.std.proofs.lemmas.List.Elements.{All-cons, All-from_get_or, All-same, filter_more}
use Rattle.exi_gram.specs.Laws.{places_from}
use Rattle.xsd_model.specs.declared.parts.ElementDecl.{ElementDecl}
use Rattle.xsd_model.specs.Parts.{IsBelow, IsSchemaParts, Parts, head_in, heads_at}
use Rattle.exi_elements.specs.StandIns.{any_of}
use Rattle.exi_elements.specs.Members.{AreMembers, has_none, is_member, members, put_member, roots}
use Rattle.exi_elements.proofs.Counting.{length_places}

pub place_is : {X : Type 0} (n : ℕ) (xs : List X) (i d : ℕ) → i < length xs → get_or (places_from n xs) i d ≡ n + i
place_is n [] i d less = absurd (omega (arith, less))
place_is n (x ∷ xs) zero d less = omega arith
place_is n (x ∷ xs) (suc i) d less = let e = place_is (suc n) xs i d (omega (arith, less)) in omega (arith, e)

slot_is : {X : Type 0} (xs : List X) (i : ℕ) (d : X) → i < length xs → slice_get xs i ≡ Some (get_or xs i d)
slot_is [] i d less = absurd (omega (arith, less))
slot_is (x ∷ xs) zero d less = refl
slot_is (x ∷ xs) (suc i) d less = slot_is xs i d (omega (arith, less))

pub heads_of : (p : Parts) (i : ℕ) (e : ElementDecl) → i < length p.elements → e ≡ get_or p.elements i e → heads_at p i ≡ option_to_list e.head
heads_of p i e less at = ap head_in (slot_is p.elements i e less ∙ ap Some (sym at))

-- one more place that passes, or not
pub kept_more : {X : Type 0} (test : ℕ → Bool) (xs : List X) (i : ℕ) → i < length xs → filter test (take (i + 1) (places_from 0 xs)) ≡ filter test (take i (places_from 0 xs)) ++ cond (test i) (i ∷ []) []
kept_more test xs i less =
    let at : get_or (places_from 0 xs) i 0 ≡ i = place_is 0 xs i 0 less ∙ plus i in
    filter_more test (places_from 0 xs) i 0 (omega (arith, less, length_places 0 xs))
    ∙ ap (λ k. filter test (take i (places_from 0 xs)) ++ cond (test k) (k ∷ []) []) at
  where
    plus : (n : ℕ) → 0 + n ≡ n
    plus n = omega arith

-- ---- members
pub joined_count : (head : Option ℕ) (place : ℕ) (lists : List (List ℕ)) → length (put_member head place lists) ≡ length lists
joined_count None place lists = refl
joined_count (Some h) place lists = length-set lists h (get_or lists h [] ++ place ∷ [])

joined : (head : Option ℕ) (place : ℕ) (lists : List (List ℕ)) (h : ℕ) → IsBelow (length lists) head → get_or (put_member head place lists) h [] ≡ get_or lists h [] ++ cond (any_of (λ y. y == h) (option_to_list head)) (place ∷ []) []
joined None place lists h below = sym (append-nil (get_or lists h []))
joined (Some y) place lists h below = elim (cases_eq y h) [
  | inl e ↦
      ap (λ l. get_or l h []) (ap (λ k. set lists k (get_or lists k [] ++ place ∷ [])) e)
      ∙ get_or-set_same lists h (get_or lists h [] ++ place ∷ []) [] (subst (λ k. k < length lists) e below)
      ∙ ap (λ b. get_or lists h [] ++ cond (b || false) (place ∷ []) []) (sym (eq-eqb y h e))
  | inr n ↦
      get_or-set_other lists y h (get_or lists y [] ++ place ∷ []) [] (λ e. n (sym e))
      ∙ sym (append-nil (get_or lists h []))
      ∙ ap (λ b. get_or lists h [] ++ cond (b || false) (place ∷ []) []) (sym (ne_eqb y h n))
]

pub joined_more : (p : Parts) (lists new : List (List ℕ)) (i : ℕ) (e : ElementDecl) → i < length p.elements → e ≡ get_or p.elements i e → IsBelow (length lists) e.head → new ≡ put_member e.head i lists → (h : ℕ) → get_or lists h [] ≡ filter (is_member p h) (take i (places_from 0 p.elements)) → get_or new h [] ≡ filter (is_member p h) (take (i + 1) (places_from 0 p.elements))
joined_more p lists new i e less at below new_is h so_far =
    ap (λ l. get_or l h []) new_is
    ∙ joined e.head i lists h below
    ∙ ap (λ l. l ++ cond (any_of (λ y. y == h) (option_to_list e.head)) (i ∷ []) []) so_far
    ∙ ap (λ l. filter (is_member p h) (take i (places_from 0 p.elements)) ++ cond (any_of (λ y. y == h) l) (i ∷ []) []) (sym (heads_of p i e less at))
    ∙ sym (kept_more (is_member p h) p.elements i less)

pub join_begun : (p : Parts) (lists : List (List ℕ)) → lists ≡ replicate (length p.elements) [] → (h : ℕ) → h < length p.elements → get_or lists h [] ≡ []
join_begun p lists e h less = ap (λ l. get_or l h []) e ∙ get_or-replicate (length p.elements) h [] [] less

pub join_done : (p : Parts) (lists : List (List ℕ)) (i : ℕ) → length p.elements ≤ i → length lists ≡ length p.elements → ((h : ℕ) → h < length p.elements → get_or lists h [] ≡ filter (is_member p h) (take i (places_from 0 p.elements))) → AreMembers p lists
join_done p lists i done count each = record {
  count = count;
  each = λ h less. each h less ∙ ap (filter (is_member p h)) (take_all i (places_from 0 p.elements) (omega (arith, done, length_places 0 p.elements)));
}

-- a head is there
pub head_is_below : (p : Parts) → IsSchemaParts p → (i n : ℕ) (e : ElementDecl) → i < length p.elements → e ≡ get_or p.elements i e → n ≡ length p.elements → IsBelow n e.head
head_is_below p is i n e less at few = subst (λ k. IsBelow k e.head) (sym few) (subst (λ d. IsBelow (length p.elements) d.head) (sym at) (is.elements i e less).head_is)

-- ---- members are places
pub below_places : {X : Type 0} (test : ℕ → Bool) (n most : ℕ) (xs : List X) → n + length xs ≤ most → All (λ m. m < most) (filter test (places_from n xs))
below_places test n most [] le = λ k d less. absurd (omega (arith, less))
below_places test n most (x ∷ xs) le = by (test n) (below_places test (suc n) most xs (omega (arith, le)))
  where
    first : n < most
    first = omega (arith, le)

    by : (b : Bool) → All (λ m. m < most) (filter test (places_from (suc n) xs)) → All (λ m. m < most) (cond b (n ∷ filter test (places_from (suc n) xs)) (filter test (places_from (suc n) xs)))
    by true all = All-cons (λ m. m < most) n (filter test (places_from (suc n) xs)) first all
    by false all = all

pub members_below : (p : Parts) (lists : List (List ℕ)) → AreMembers p lists → All (All (λ m. m < length lists)) lists
members_below p lists are = All-from_get_or (All (λ m. m < length lists)) lists [] (λ h less.
    let few = are.count in
    All-same (λ m. m < length lists) (get_or lists h []) (members p h) (are.each h (omega (arith, less, few)))
    (below_places (is_member p h) 0 (length lists) p.elements (omega (arith, few))))

pub roots_below : (p : Parts) (lists : List (List ℕ)) → AreMembers p lists → All (λ m. m < length lists) (roots p)
roots_below p lists are = let few = are.count in below_places (λ place. has_none (heads_at p place)) 0 (length lists) p.elements (omega (arith, few))
