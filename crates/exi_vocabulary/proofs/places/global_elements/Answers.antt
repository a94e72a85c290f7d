use Rattle.std.proofs.Common.{◌≡◌, ◌<◌, ◌≤◌, List, ℕ, ap, arith, length, map, ◌∙◌}
use Rattle.std.proofs.lemmas.List.{length-map}
use Rattle.std.proofs.lemmas.List.Elements.{All-same}
use Rattle.exi_gram.specs.Orders.{in_order}
use Rattle.exi_order.specs.Keys.{key_of, keys_of}
use Rattle.exi_vocabulary.specs.Vocabulary.{Pair, element_name, global_places_from, place_before}
use Rattle.exi_vocabulary.proofs.Firsts.{few_globals, globals_within}
use Rattle.exi_vocabulary.proofs.Taken.{elements_sorted}
use Rattle.exi_vocabulary.proofs.Words.{same_ok}
use Rattle.exi_vocabulary.proofs.places.global_elements.Goals as goal

pub sorted_places-requires-clause-within : goal.sorted_places-requires-clause-within
sorted_places-requires-clause-within c =
    let es = c.elements-elements.result.now in
    let keys : keys_of c.as_slice.result.now ≡ map element_name es = ap keys_of c.as_slice.ensures.value ∙ c.in_ok-keys.ensures in
    let same : length (keys_of c.as_slice.result.now) ≡ length (map element_name es) = ap (λ (l : List Pair). length l) keys in
    let long : length (keys_of c.as_slice.result.now) ≡ length c.as_slice.result.now = length-map c.as_slice.result.now key_of in
    let all : length (map element_name es) ≡ length es = length-map es element_name in
    let places : c.as_slice-2.result.now ≡ global_places_from 0 es = c.as_slice-2.ensures.value ∙ c.in_ok-globals.ensures in
    All-same (λ p. p < length c.as_slice.result.now) c.as_slice-2.result.now (global_places_from 0 es) places (globals_within es (length c.as_slice.result.now) (omega (arith, same, long, all)))

pub sorted_places-requires-clause-few : goal.sorted_places-requires-clause-few
sorted_places-requires-clause-few c =
    let es = c.elements-elements.result.now in
    let places : length c.as_slice-2.result.now ≡ length (global_places_from 0 es) = ap (λ (l : List ℕ). length l) (c.as_slice-2.ensures.value ∙ c.in_ok-globals.ensures) in
    let few : length (global_places_from 0 es) ≤ length es = few_globals es in
    let all = ap (λ l. length l) c.elements-elements.ensures.elements in
    omega (arith, places, few, all, c.requires.size)

pub returns : goal.returns
returns c =
    let p = c.args.parts.now in
    let names : keys_of c.as_slice.result.now ≡ map element_name p.elements = ap keys_of c.as_slice.ensures.value ∙ c.in_ok-keys.ensures ∙ ap (map element_name) c.elements-elements.ensures.elements in
    let places : c.as_slice-2.result.now ≡ global_places_from 0 p.elements = c.as_slice-2.ensures.value ∙ c.in_ok-globals.ensures ∙ ap (global_places_from 0) c.elements-elements.ensures.elements in
    same_ok _ _ c.sorted_places.result
    (ap (in_order (place_before (keys_of c.as_slice.result.now))) places ∙ elements_sorted p (keys_of c.as_slice.result.now) (global_places_from 0 p.elements) names)
    c.sorted_places.ensures
