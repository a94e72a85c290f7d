use Rattle.std.proofs.Common.{List, ap, arith, length, ℕ}
use Rattle.exi_order.specs.Keys.{keys_of}
use Rattle.exi_vocabulary.proofs.Rows.{known_within}
use Rattle.exi_vocabulary.proofs.tables.locals.Goals as goal

pub row_in_order-requires : goal.row_in_order-requires
row_in_order-requires c =
    let same = ap (λ (l : List (List ℕ)). length l) (c.in_ok-rows.ensures c.uri-item.result) in
    let within = known_within c.uri-item.result (keys_of c.args.names.now) in
    record { known = omega (arith, same, within) }
