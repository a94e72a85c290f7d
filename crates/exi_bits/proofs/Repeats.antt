-- A loop that reads one value after another.
use Rattle.std.proofs.Common.{◌≡◌, ℕ, suc, ◌-◌, ◌+◌, ◌≤◌, ◌<◌, List, [], ◌∷◌, ◌++◌, Result, Ok, Err, refl, sym, ap, ◌∙◌, append_assoc, arith}
use Rattle.std.proofs.lemmas.List.{append-nil}
use Rattle.exi_bits.specs.declared.fault.Fault.{Fault}
use Rattle.exi_bits.specs.Bits.{Spot}
use Rattle.exi_bits.specs.Unsigned.{◌>>=◌}
use Rattle.exi_bits.specs.Repeat.{Reader, times, with_front}

regroup : {X : Type 0} (front : List X) (x : X) (read : Result (List X × Spot) Fault) → with_front front (read >>= λ more. Ok (x ∷ more.0, more.1)) ≡ with_front (front ++ x ∷ []) read
regroup {X} front x (Ok more) = ap (λ (xs : List X). Ok (xs, more.1)) (simp append_assoc)
regroup front x (Err f) = refl

pub times_starts : {X : Type 0} (read : Reader X) (count : ℕ) (s : Spot) → with_front [] (times read (count - 0) s) ≡ times read count s
times_starts read count s = let e : count - 0 ≡ count = omega arith in rw e (same (times read count s))
  where
    same : {X : Type 0} (r : Result (List X × Spot) Fault) → with_front [] r ≡ r
    same (Ok x) = refl
    same (Err f) = refl

pub times_goes_on : {X : Type 0} (read : Reader X) (front : List X) (count i : ℕ) (s t : Spot) (x : X) (total : Result (List X × Spot) Fault) → i < count → read s ≡ Ok (x, t)
    → with_front front (times read (count - i) s) ≡ total → with_front (front ++ x ∷ []) (times read (count - (i + 1)) t) ≡ total
unfolding times
times_goes_on read front count i s t x total lt h so_far =
    let k : count - i ≡ suc (count - (i + 1)) = omega arith in
    let one : with_front front (times read (count - i) s) ≡ with_front (front ++ x ∷ []) (times read (count - (i + 1)) t) = rw (k, h) (regroup front x (times read (count - (i + 1)) t)) in
    sym one ∙ so_far

pub times_fails : {X : Type 0} (read : Reader X) (front : List X) (count i : ℕ) (s : Spot) (f : Fault) (total : Result (List X × Spot) Fault) → i < count → read s ≡ Err f
    → with_front front (times read (count - i) s) ≡ total → total ≡ Err f
unfolding times
times_fails read front count i s f total lt h so_far =
    let k : count - i ≡ suc (count - (i + 1)) = omega arith in
    let one : with_front front (times read (count - i) s) ≡ Err f = rw (k, h) refl in
    sym so_far ∙ one

pub times_done : {X : Type 0} (read : Reader X) (front : List X) (count i : ℕ) (s : Spot) (total : Result (List X × Spot) Fault) → count ≤ i
    → with_front front (times read (count - i) s) ≡ total → total ≡ Ok (front, s)
unfolding times
times_done {X} read front count i s total le so_far =
    let k : count - i ≡ 0 = omega arith in
    let one : with_front front (times read (count - i) s) ≡ Ok (front, s) = rw k (ap (λ (xs : List X). Ok (xs, s)) (append-nil front)) in
    sym so_far ∙ one
