-- What the options leave of written lists, and what their second parts tell.
use Rattle.std.proofs.Common.{◌≡◌, ℕ, zero, suc, ◌<◌, ◌≤◌, ◌+◌, Bool, cond, ◌||◌, List, [], ◌∷◌, ◌++◌, filter, length, slice_get, refl, ap, arith, inl, inr, Some, None, Result, Ok, Err}
use Rattle.std.specs.List.{list_any}
use Rattle.std.proofs.lemmas.Bool.{cases_Bool}
use Rattle.exi_bits.specs.declared.align.Align.{Align}
use Rattle.exi_bits.specs.declared.fault.Fault.{Fault}
use Rattle.exi_bits.specs.Bits.{Spot}
use Rattle.exi_gram.specs.Codes.{Second, single, group, kept_second, kept_seconds, longer, member_at, part_at, second_at, second_told}
use Rattle.exi_builtin.specs.Layout.{grouped, laid_seconds}

kept_group : {X : Type 0} (keep : X → Bool) (xs : List X) → kept_second keep (group xs) ++ [] ≡ grouped (filter keep xs)
kept_group keep [] = refl
kept_group keep (x ∷ xs) = elim (cases_Bool (keep x)) [
  | inl yes_is ↦ rw yes_is refl
  | inr no_is ↦ rw no_is (kept_group keep xs)
]

kept_grouped : {X : Type 0} (keep : X → Bool) (xs : List X) → kept_seconds keep (grouped xs) ≡ grouped (filter keep xs)
kept_grouped keep [] = refl
kept_grouped keep (x ∷ xs) = kept_group keep (x ∷ xs)

-- what is left of each, laid out
pub kept_laid : {X : Type 0} (keep : X → Bool) (singles members : List X) → kept_seconds keep (laid_seconds singles members) ≡ laid_seconds (filter keep singles) (filter keep members)
kept_laid keep [] members = kept_grouped keep members
kept_laid keep (x ∷ xs) members = elim (cases_Bool (keep x)) [
  | inl yes_is ↦ rw yes_is (ap (λ seconds. single x ∷ seconds) (kept_laid keep xs members))
  | inr no_is ↦ rw no_is (kept_laid keep xs members)
]

-- how many second parts there are
pub laid_length : {X : Type 0} (singles members : List X) → length (laid_seconds singles members) ≡ length singles + length (grouped members)
laid_length [] members = omega arith
laid_length (x ∷ xs) members = omega (arith, laid_length xs members)

pub grouped_some : {X : Type 0} (members : List X) → 0 < length members → length (grouped members) ≡ 1
grouped_some [] some = absurd (omega (arith, some))
grouped_some (x ∷ xs) some = refl

pub grouped_none : {X : Type 0} (members : List X) → length members ≤ 0 → length (grouped members) ≡ 0
grouped_none [] none = refl
grouped_none (x ∷ xs) none = absurd (omega (arith, none))

-- a second part that tells one production
pub tells_single : {X : Type 0} (a : Align) (singles members : List X) (place : ℕ) (x : X) (s : Spot) → slice_get singles place ≡ Some x → second_told a (slice_get (laid_seconds singles members) place) s ≡ Ok (x, s)
tells_single a [] members place x s found = absurd (cc)
tells_single a (y ∷ ys) members zero x s found = let same : y ≡ x = cc in rw same refl
tells_single a (y ∷ ys) members (suc place) x s found = tells_single a ys members place x s found

tells_members : {X : Type 0} (a : Align) (members : List X) (place : ℕ) (s : Spot) → place < length (grouped members) → second_told a (slice_get (grouped members) place) s ≡ member_at a members s
tells_members a [] place s within = absurd (omega (arith, within))
tells_members a (x ∷ xs) zero s within = refl
tells_members a (x ∷ xs) (suc place) s within = absurd (omega (arith, within))

-- the second part that tells the members
pub tells_group : {X : Type 0} (a : Align) (singles members : List X) (place : ℕ) (s : Spot) → slice_get singles place ≡ None → place < length (laid_seconds singles members) → second_told a (slice_get (laid_seconds singles members) place) s ≡ member_at a members s
tells_group a [] members place s behind within = tells_members a members place s within
tells_group a (x ∷ xs) members zero s behind within = absurd (cc)
tells_group a (x ∷ xs) members (suc place) s behind within = tells_group a xs members place s behind (omega (arith, within))

-- whether there is a second part
longer_grouped : {X : Type 0} (keep : X → Bool) (members : List X) → longer (grouped (filter keep members)) ≡ cond (list_any keep members) 1 0
longer_grouped keep [] = refl
longer_grouped keep (x ∷ xs) = elim (cases_Bool (keep x)) [
  | inl yes_is ↦ rw yes_is refl
  | inr no_is ↦ rw no_is (longer_grouped keep xs)
]

longer_laid : {X : Type 0} (keep : X → Bool) (singles members : List X) → longer (laid_seconds (filter keep singles) (filter keep members)) ≡ cond (list_any keep singles || list_any keep members) 1 0
longer_laid keep [] members = longer_grouped keep members
longer_laid keep (x ∷ xs) members = elim (cases_Bool (keep x)) [
  | inl yes_is ↦ rw yes_is refl
  | inr no_is ↦ rw no_is (longer_laid keep xs members)
]

pub any_longer : {X : Type 0} (keep : X → Bool) (singles members : List X) → longer (kept_seconds keep (laid_seconds singles members)) ≡ cond (list_any keep singles || list_any keep members) 1 0
any_longer keep singles members = rw kept_laid (longer_laid keep singles members)

-- ---- step by step
pub second_fails : {X : Type 0} (a b : Align) (seconds : List (Second X)) (count : ℕ) (s : Spot) (f : Fault) → b ≡ a → count ≡ length seconds → part_at count b s ≡ Err f → second_at a seconds s ≡ Err f
unfolding second_at
second_fails a b seconds count s f align same read = rw (← align, ← same, read) refl

pub second_tells : {X : Type 0} (a b : Align) (seconds : List (Second X)) (count place : ℕ) (s t : Spot) (told : Result (X × Spot) Fault) → b ≡ a → count ≡ length seconds → part_at count b s ≡ Ok (place, t) → second_told a (slice_get seconds place) t ≡ told → second_at a seconds s ≡ told
unfolding second_at
second_tells a b seconds count place s t told align same read at =
    let here : part_at (length seconds) a s ≡ Ok (place, t) = rw (← align, ← same) read in rw here at
