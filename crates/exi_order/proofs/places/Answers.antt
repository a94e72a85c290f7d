use Rattle.std.proofs.Common.{◌≡◌, [], ◌∷◌, ◌++◌, length, ap, ◌∙◌, sym, arith}
use Rattle.std.proofs.lemmas.List.{length-map}
use Rattle.exi_order.specs.Keys.{key_of, keys_of}
use Rattle.exi_order.proofs.Numbering.{places-more}
use Rattle.exi_order.proofs.places.Goals as goal

pub loop-place-preserved : goal.loop-place-preserved
loop-place-preserved c =
    let e : length (keys_of c.args.keys.now) ≡ length c.args.keys.now = length-map c.args.keys.now key_of in
    c.in_ok-push.ensures.items ∙ ap (λ l. l ++ c.loop-place.place ∷ []) c.loop-place.invariant
    ∙ sym (places-more (keys_of c.args.keys.now) c.loop-place.place ([], []) (omega (arith, e)))
