-- The item at a place of a list.
use Rattle.std.proofs.Common.{◌≡◌, ℕ, zero, suc, ◌<◌, List, [], ◌∷◌, get_or, length, sym, arith}

pub item_is : (xs : List ℕ) (i x : ℕ) → i < length xs → x ≡ get_or xs i x → get_or xs i 0 ≡ x
item_is [] i x less e = absurd (omega arith)
item_is (y ∷ ys) zero x less e = sym e
item_is (y ∷ ys) (suc i) x less e = item_is ys i x (omega arith) e
