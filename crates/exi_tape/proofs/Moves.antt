-- Pages that move from one chain to another.
use Rattle.std.proofs.Common.{◌≡◌, ℕ, ◌<◌, List, [], ◌∷◌, ◌++◌, length, ap, refl, arith}
use Rattle.exi_pool.specs.Pages.{Sheet, number_of, before, numbers}
use Rattle.exi_pool.specs.Views.{one_if}
use Rattle.exi_pool.proofs.Sums.{total-append}
use Rattle.exi_tape.specs.Rolls.{times}

-- the numbers of a page and of those before it
pub parted : (p : List Sheet) → 0 < length p → numbers p ≡ number_of p ∷ numbers (before p)
parted [] h = absurd (omega arith)
parted (s ∷ ss) h = refl

pub moved : (n : ℕ) (spare page rest new last : List Sheet) → spare ≡ page → 0 < length page → rest ≡ before page → numbers new ≡ number_of page ∷ numbers last
    → times n (numbers rest ++ numbers new) ≡ times n (numbers spare ++ numbers last)
moved n spare page rest new last is some r q =
    omega (
      arith,
      total-append (one_if n) (numbers rest) (numbers new),
      total-append (one_if n) (numbers spare) (numbers last),
      ap (λ l. times n (numbers l)) is,
      ap (times n) (parted page some),
      ap (λ l. times n (numbers l)) r,
      ap (times n) q,
    )

pub fewer : (p : List Sheet) → 0 < length p → length (before p) < length p
fewer [] h = absurd (omega arith)
fewer (s ∷ ss) h = omega arith
