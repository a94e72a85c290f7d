-- Keys as the pairs of texts that they are.
use Rattle.std.specs.Prelude.{ℕ, List, map}
use Rattle.exi_order.specs.declared.Key.{Key}

abbrev pub key_of : Key → List ℕ × List ℕ
key_of key = (key.first.now, key.second.now)

abbrev pub keys_of : List Key → List (List ℕ × List ℕ)
keys_of keys = map key_of keys
