-- What stands in a text after something was put at its end.
use Rattle.std.proofs.Common.{◌≡◌, ℕ, cond, List, ◌++◌, Result, Ok, Err, ap, ◌∙◌}
use Rattle.std.specs.Result.{OnOk, is_ok}

pub pushed_is : {T E : Type 0} (r : Result T E) (old new found text : List ℕ) → new ≡ cond (is_ok r) (old ++ found) old → found ≡ text → OnOk r (new ≡ old ++ text)
pushed_is (Ok x) old new found text pushed same = pushed ∙ ap (λ (t : List ℕ). old ++ t) same
pushed_is (Err e) old new found text pushed same = tt

pub appended_is : {T E : Type 0} (r : Result T E) (old new found text : List ℕ) → OnOk r (new ≡ old ++ found) → found ≡ text → OnOk r (new ≡ old ++ text)
appended_is (Ok x) old new found text pushed same = pushed ∙ ap (λ (t : List ℕ). old ++ t) same
appended_is (Err e) old new found text pushed same = tt
