-- One reader after another.
use Rattle.std.specs.Prelude.{Result, Ok, ℕ, zero, suc, List, [], ◌∷◌, ◌++◌}
use Rattle.exi_bits.specs.declared.fault.Fault.{Fault}
use Rattle.exi_bits.specs.Bits.{Spot}
use Rattle.exi_bits.specs.declared.align.Align.TheVariants as align
use Rattle.exi_bits.specs.Unsigned.{◌>>=◌, field_at}

abbrev pub Reader : Type 0 → Type 0
Reader X = Spot → Result (X × Spot) Fault

-- so many values, one after another
unfoldable pub times : {X : Type 0} → Reader X → ℕ → Reader (List X)
times read zero s = Ok ([], s)
times read (suc n) s = do
  first ← read s
  others ← times read n first.1
  Ok (first.0 ∷ others.0, others.1)

-- so many octets, each a number of eight bits, or Short at the one at which the bits end
abbrev pub octets_at : ℕ → Reader (List ℕ)
octets_at count = times (field_at 8 align.Bits) count

-- what was read before, and what is still read
abbrev pub with_front : {X : Type 0} → List X → Result (List X × Spot) Fault → Result (List X × Spot) Fault
with_front front read = read >>= λ x. Ok (front ++ x.0, x.1)
