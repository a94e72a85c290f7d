use Rattle.std.proofs.Common.{◌≡◌, ◌<◌, ◌≤◌, List, [], ℕ, ap, arith, length, ◌∙◌}
use Rattle.std.proofs.lemmas.List.{length-map}
use Rattle.std.proofs.lemmas.List.Elements.{All-same}
use Rattle.exi_order.specs.Keys.{key_of, keys_of}
use Rattle.exi_vocabulary.specs.Vocabulary.{firsts_from}
use Rattle.exi_vocabulary.proofs.Firsts.{few_firsts, firsts_within}
use Rattle.exi_vocabulary.proofs.places.names_in_order.Goals as goal

pub sorted_places-requires-clause-within : goal.sorted_places-requires-clause-within
sorted_places-requires-clause-within c =
    let names = keys_of c.args.keys.now in
    let long : length names ≡ length c.args.keys.now = length-map c.args.keys.now key_of in
    let places : c.as_slice.result.now ≡ firsts_from [] 0 names = c.as_slice.ensures.value ∙ c.in_ok-firsts.ensures.firsts in
    All-same (λ p. p < length c.args.keys.now) c.as_slice.result.now (firsts_from [] 0 names) places (firsts_within names (length c.args.keys.now) (omega (arith, long)))

pub sorted_places-requires-clause-few : goal.sorted_places-requires-clause-few
sorted_places-requires-clause-few c =
    let names = keys_of c.args.keys.now in
    let long : length names ≡ length c.args.keys.now = length-map c.args.keys.now key_of in
    let places : length c.as_slice.result.now ≡ length (firsts_from [] 0 names) = ap (λ (l : List ℕ). length l) (c.as_slice.ensures.value ∙ c.in_ok-firsts.ensures.firsts) in
    let few : length (firsts_from [] 0 names) ≤ length names = few_firsts names in
    omega (arith, long, places, few, c.requires.few)
