-- Places in the order of the names that stand at them.
use Rattle.std.proofs.Common.{◌≡◌, ℕ, zero, suc, ◌+◌, ◌<◌, Option, Some, None, List, [], ◌∷◌, ◌++◌, get_or, length, map, take, All, refl, sym, ap, ◌∙◌, subst, arith, slice_get}
use Rattle.std.proofs.lemmas.List.{length-map, map-append, take_more}
use Rattle.std.proofs.lemmas.List.Elements.{All-head, All-tail}
use Rattle.exi_gram.specs.Orders.{in_order, pair_before}
use Rattle.exi_elements.specs.StandIns.{element_before, element_pair}
use Rattle.exi_order.specs.Keys.{key_of, keys_of}
use Rattle.exi_order.specs.Sorting.{places_in_order}
use Rattle.exi_order.specs.declared.Key.{Key}
use Rattle.exi_order.proofs.ByPlaces.{in_order-places-within, in_order-taken}
use Rattle.xsd_model.specs.declared.parts.ElementDecl.{ElementDecl}
use Rattle.xsd_model.specs.Parts.{Parts}
use Rattle.exi_vocabulary.specs.Vocabulary.{Pair, element_name, pair_at, place_before}

pub pair_there : (ks : List Key) (p : ℕ) (d : Key) → p < length ks → pair_at (keys_of ks) p ≡ key_of (get_or ks p d)
pair_there [] p d less = absurd (omega (arith, less))
pair_there (k ∷ ks) zero d less = refl
pair_there (k ∷ ks) (suc p) d less = pair_there ks p d (let e : suc p < suc (length ks) = less in omega (arith, e))

pub at_place : (most : ℕ) (places : List ℕ) (i : ℕ) → All (λ p. p < most) places → i < length places → get_or places i 0 < most
at_place most [] i all less = absurd (omega (arith, less))
at_place most (p ∷ ps) zero all less = All-head (λ q. q < most) p ps all
at_place most (p ∷ ps) (suc i) all less = at_place most ps i (All-tail (λ q. q < most) p ps all) (let e : suc i < suc (length ps) = less in omega (arith, e))

-- with one more
pub chosen_more : (ks : List Key) (places : List ℕ) (chosen : List Key) (i : ℕ) (k : Key) → i < length places → get_or places i 0 < length ks → k ≡ get_or ks (get_or places i 0) k → keys_of chosen ≡ map (pair_at (keys_of ks)) (take i places) → keys_of (chosen ++ k ∷ []) ≡ map (pair_at (keys_of ks)) (take (i + 1) places)
chosen_more ks places chosen i k less there is so_far =
    map-append key_of chosen (k ∷ [])
    ∙ ap (λ l. l ++ key_of k ∷ []) so_far
    ∙ ap (λ x. map (pair_at (keys_of ks)) (take i places) ++ x ∷ []) (ap key_of is ∙ sym (pair_there ks (get_or places i 0) k there))
    ∙ sym (map-append (pair_at (keys_of ks)) (take i places) (get_or places i 0 ∷ []))
    ∙ ap (map (pair_at (keys_of ks))) (sym (take_more places i 0 less))

pub places_sorted : (names : List Pair) (places : List ℕ) → map (λ p. get_or places p 0) (places_in_order (map (pair_at names) places)) ≡ in_order (place_before names) places
places_sorted names places = in_order-taken (pair_at names) places 0

-- ---- elements
abbrev name_or : Option ElementDecl → Pair
name_or None = ([], [])
name_or (Some e) = element_name e

name_there : (es : List ElementDecl) (i : ℕ) → pair_at (map element_name es) i ≡ name_or (slice_get es i)
name_there [] i = refl
name_there (e ∷ es) zero = refl
name_there (e ∷ es) (suc i) = name_there es i

pair_of_element : (p : Parts) (i : ℕ) (o : Option ElementDecl) → slice_get p.elements i ≡ o → name_or o ≡ element_pair p i
pair_of_element p i None e = rw e refl
pair_of_element p i (Some x) e = rw e refl

one_pair : (p : Parts) (i : ℕ) → pair_at (map element_name p.elements) i ≡ element_pair p i
one_pair p i = name_there p.elements i ∙ pair_of_element p i (slice_get p.elements i) refl

pub elements_sorted : (p : Parts) (names : List Pair) (places : List ℕ) → names ≡ map element_name p.elements → in_order (place_before names) places ≡ in_order (element_before p) places
elements_sorted p names places e =
    ap (λ ns. in_order (place_before ns) places) e
    ∙ ap (λ before. in_order before places) (λ i a b. pair_before (one_pair p a i) (one_pair p b i))

-- each place in order is one of so many
pub place_there : (names : List Pair) (places order : List ℕ) → order ≡ places_in_order (map (pair_at names) places) → (i : ℕ) → i < length order → get_or order i 0 < length places
place_there names places order e i less =
    let long : length (map (pair_at names) places) ≡ length places = length-map places (pair_at names) in
    let all : All (λ p. p < length (map (pair_at names) places)) order = subst (All (λ p. p < length (map (pair_at names) places))) (sym e) (in_order-places-within (map (pair_at names) places)) in
    let one : get_or order i 0 < length (map (pair_at names) places) = at_place (length (map (pair_at names) places)) order i all less in
    omega (arith, long, one)
