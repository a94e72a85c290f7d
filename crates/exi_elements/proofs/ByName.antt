-- Elements put in order by the places of their names.
use Rattle.std.proofs.Common.{◌≡◌, ℕ, zero, suc, ◌+◌, ◌<◌, Some, List, [], ◌∷◌, ◌++◌, length, get_or, map, take, refl, sym, ap, ◌∙◌, arith}
use Rattle.std.specs.List.{slice_get}
use Rattle.std.proofs.lemmas.List.{length-map, map-append, map_more}
use Rattle.std.proofs.lemmas.List.Elements.{All-get_or}
use Rattle.exi_gram.specs.Orders.{in_order}
use Rattle.exi_order.specs.Keys.{key_of, keys_of}
use Rattle.exi_order.specs.Sorting.{places_in_order}
use Rattle.exi_order.specs.declared.Key.{Key}
use Rattle.exi_order.proofs.ByPlaces.{in_order-places-within, in_order-taken}
use Rattle.xsd_model.specs.declared.parts.ElementDecl.{ElementDecl}
use Rattle.xsd_model.specs.Parts.{Parts}
use Rattle.exi_elements.specs.StandIns.{element_before, element_pair}

abbrev pub pairs : Parts → List ℕ → List (List ℕ × List ℕ)
pairs p places = map (element_pair p) places

abbrev pub at : List ℕ → ℕ → ℕ
at places i = get_or places i 0

pub named_is : (p : Parts) (places : List ℕ) → map (at places) (places_in_order (pairs p places)) ≡ in_order (element_before p) places
named_is p places = in_order-taken (element_pair p) places 0

pub index_within : (p : Parts) (places : List ℕ) (i d : ℕ) → i < length (places_in_order (pairs p places)) → get_or (places_in_order (pairs p places)) i d < length places
index_within p places i d less =
    let below = All-get_or (λ k. k < length (pairs p places)) (places_in_order (pairs p places)) i d less (in_order-places-within (pairs p places)) in
    let e = length-map places (element_pair p) in
    omega (arith, below, e)

slot_is : {X : Type 0} (xs : List X) (i : ℕ) (d : X) → i < length xs → slice_get xs i ≡ Some (get_or xs i d)
slot_is [] i d less = absurd (omega (arith, less))
slot_is (x ∷ xs) zero d less = refl
slot_is (x ∷ xs) (suc i) d less = slot_is xs i d (omega (arith, less))

-- what an element is sorted by
pub pair_is : (p : Parts) (place : ℕ) (e : ElementDecl) → place < length p.elements → e ≡ get_or p.elements place e → element_pair p place ≡ (e.name.local, e.name.uri)
pair_is p place e less at = let slot : slice_get p.elements place ≡ Some e = slot_is p.elements place e less ∙ ap Some (sym at) in rw slot refl

-- one more key
pub keys_more : (p : Parts) (keys new : List Key) (k : Key) (places : List ℕ) (i : ℕ) → i < length places → keys_of keys ≡ map (element_pair p) (take i places) → new ≡ keys ++ k ∷ [] → key_of k ≡ element_pair p (get_or places i 0) → keys_of new ≡ map (element_pair p) (take (i + 1) places)
keys_more p keys new k places i less so_far new_is key_is =
    ap keys_of new_is
    ∙ map-append key_of keys (k ∷ [])
    ∙ ap (λ l. l ++ key_of k ∷ []) so_far
    ∙ ap (λ x. map (element_pair p) (take i places) ++ x ∷ []) key_is
    ∙ sym (map_more (element_pair p) places i 0 less)
