-- Whole numbers by sign and magnitude, without a minus zero.
use Rattle.std.specs.Prelude.{ℕ, Bool, false, zero, suc}

pub record Number : Type 0 where
  pub minus : Bool
  pub size : ℕ

-- the number of this magnitude, negative where `minus` is true; zero has no sign
abbrev pub number : Bool → ℕ → Number
number minus zero = record { minus = false; size = zero }
number minus (suc n) = record { minus = minus; size = suc n }
