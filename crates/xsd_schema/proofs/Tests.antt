-- What holds by the answer of a test.
use Rattle.std.proofs.Common.{◌≡◌, Bool, true, false, cond, not, refl}
use Rattle.std.proofs.lemmas.Bool.{false≢true}

pub by_test : {X : Type 0} (P : X → Type 0) (b : Bool) (x y : X) → (b ≡ true → P x) → (b ≡ false → P y) → P (cond b x y)
by_test P true x y h g = h refl
by_test P false x y h g = g refl

-- what follows from the one of two that is told
pub one_of_two : {X : Type 0} (P : Type 0) (b : Bool) (x y z : X) → (b ≡ true → x ≡ z → P) → (b ≡ false → y ≡ z → P) → cond b x y ≡ z → P
one_of_two P true x y z h g e = h refl e
one_of_two P false x y z h g e = g refl e

pub not_true : (b : Bool) → not b ≡ true → b ≡ false
not_true true e = absurd (false≢true e)
not_true false e = refl
