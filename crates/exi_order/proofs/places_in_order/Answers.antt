use Rattle.std.proofs.Common.{rules, ap, ◌∙◌}
use Rattle.std.proofs.lemmas.Fn.{always_returns_same}
use Rattle.exi_gram.specs.Orders.{in_order}
use Rattle.exi_order.specs.Keys.{keys_of}
use Rattle.exi_order.specs.Sorting.{key_at, place_before}
use Rattle.exi_order.proofs.Stable.{is_in_order}
use Rattle.exi_order.proofs.Texts.{pairs_ordered}
use Rattle.exi_order.proofs.places_in_order.Goals as goal

pub returns : goal.returns
returns c =
    let keys = keys_of c.args.keys.now in
    is_in_order (place_before keys) (pairs_ordered (key_at keys)) _ _
    (c.in_ok-sort_by.ensures.sorted (place_before keys) (pairs_ordered (key_at keys)) (always_returns_same _ _ _ (λ a r f h. search rules)))
    (c.in_ok-sort_by.ensures.stable (place_before keys) (pairs_ordered (key_at keys)) (always_returns_same _ _ _ (λ a r f h. search rules)))
    ∙ ap (in_order (place_before keys)) c.in_ok-places.ensures
