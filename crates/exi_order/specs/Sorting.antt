-- The places of keys in the order of the keys; keys that are alike keep their order.
use Rattle.std.specs.Prelude.{ℕ, Bool, List, slice_get, Option, Some, None, []}
use Rattle.exi_gram.specs.Laws.{places_from}
use Rattle.exi_gram.specs.Orders.{in_order, pair_before}

abbrev pub key_at : List (List ℕ × List ℕ) → ℕ → List ℕ × List ℕ
key_at keys place = or_none (slice_get keys place)
  where
    or_none : Option (List ℕ × List ℕ) → List ℕ × List ℕ
    or_none None = ([], [])
    or_none (Some key) = key

abbrev pub place_before : List (List ℕ × List ℕ) → ℕ → ℕ → Bool
place_before keys a b = pair_before (key_at keys a) (key_at keys b)

abbrev pub places_in_order : List (List ℕ × List ℕ) → List ℕ
places_in_order keys = in_order (place_before keys) (places_from 0 keys)
