use Rattle.std.proofs.Common.{◌≡◌, ℕ, ◌<◌, All, List, length, map, get_or, false, sym, ap, ◌∙◌, subst, arith}
use Rattle.std.proofs.lemmas.List.{length-map}
use Rattle.exi_order.specs.Keys.{key_of, keys_of}
use Rattle.exi_order.specs.Sorting.{places_in_order}
use Rattle.exi_order.proofs.ByPlaces.{in_order-places-within, in_order-taken}
use Rattle.exi_inherited.specs.Told.{use_pair}
use Rattle.exi_inherited.specs.declared.uses.Use.{Use}
use Rattle.exi_inherited.proofs.uses.in_order.Goals as goal

pub places_in_order-requires : goal.places_in_order-requires
places_in_order-requires c = record {
  few = let a = ap length c.as_slice.ensures.value in
      let b = ap length c.in_ok-keys.ensures in
      let d = length-map c.in_ok-keys.keys.items key_of in
      let e = length-map c.args.uses.now (use_pair c.args.parts.now) in
      let few = c.if-uses.false in omega (arith, a, b, d, e, few);
}

pub picked-requires : goal.picked-requires
picked-requires c =
    let keys : keys_of c.as_slice.result.now ≡ map (use_pair c.args.parts.now) c.args.uses.now = ap keys_of c.as_slice.ensures.value ∙ c.in_ok-keys.ensures in
    let count : length (keys_of c.as_slice.result.now) ≡ length c.args.uses.now = ap length keys ∙ length-map c.args.uses.now (use_pair c.args.parts.now) in
    let places = c.as_slice-2.ensures.value ∙ c.in_ok-places.ensures in
    record { within = subst (λ (is : List ℕ). All (λ (i : ℕ). i < length c.args.uses.now) is) (sym places) (subst (λ (n : ℕ). All (λ (i : ℕ). i < n) (places_in_order (keys_of c.as_slice.result.now))) count (in_order-places-within (keys_of c.as_slice.result.now))) }

pub returns : goal.returns
returns c =
    let keys : keys_of c.as_slice.result.now ≡ map (use_pair c.args.parts.now) c.args.uses.now = ap keys_of c.as_slice.ensures.value ∙ c.in_ok-keys.ensures in
    let given : Use = record { attribute = 0; required = false } in
    c.in_ok-picked.ensures given
    ∙ ap (map (λ (i : ℕ). get_or c.args.uses.now i given)) (c.as_slice-2.ensures.value ∙ c.in_ok-places.ensures ∙ ap places_in_order keys)
    ∙ in_order-taken (use_pair c.args.parts.now) c.args.uses.now given
