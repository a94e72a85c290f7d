-- What holds of each number below a bound, where a test computes to true for all of them.
use Rattle.std.proofs.Common.{◌≡◌, ℕ, zero, suc, ◌<◌, Bool, true, ◌&&◌, inl, inr, ap, ◌∙◌, arith}
use Rattle.std.proofs.lemmas.Bool.{and_parts, cases_eq}

unfoldable pub all_below : (ℕ → Bool) → ℕ → Bool
all_below test zero = true
all_below test (suc n) = test n && all_below test n

pub at_below : (test : ℕ → Bool) (bound n : ℕ) → all_below test bound ≡ true → n < bound → test n ≡ true
unfolding all_below
at_below test zero n h lt = absurd (omega arith)
at_below test (suc bound) n h lt =
    let p = and_parts (test bound) (all_below test bound) h in
    elim (cases_eq n bound) [
      | inl same ↦ ap test same ∙ p.0
      | inr other ↦ at_below test bound n p.1 (omega arith)
    ]
