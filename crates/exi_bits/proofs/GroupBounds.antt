-- A group of seven bits more stays in bounds.
use Rattle.std.proofs.Common.{◌≡◌, ℕ, ◌+◌, ◌*◌, ◌^◌, ◌<◌, ◌≤◌, ◌⊎◌, ap, ◌∙◌, arith, inl, inr}
use Rattle.std.proofs.Math.Nat.{mul-le-mul_left}
use Rattle.std.proofs.lemmas.Nat.{pow-add}
use Rattle.exi_bits.proofs.BitLaws.{pow_up}

pub group_below : (g v low : ℕ) → v < 2 ^ (7 * g) → low < 128 → v + 2 ^ (7 * g) * low < 2 ^ (7 * (g + 1))
group_below g v low lt small =
    let e : 2 ^ (7 * (g + 1)) ≡ 2 ^ (7 * g) * 128 = ap (λ (q : ℕ). 2 ^ q) (seven g) ∙ pow-add 2 (7 * g) 7 in
    let k : low ≤ 127 = omega arith in
    omega (arith, mul-le-mul_left (2 ^ (7 * g)) k)
  where
    seven : (g : ℕ) → 7 * (g + 1) ≡ 7 * g + 7
    seven g = omega arith

pub group_fits : (g v low : ℕ) → g < 19 → v < 2 ^ (7 * g) → low < 128 → (((g ≡ 18) × (low ≤ 3)) ⊎ (g ≡ 18 → ⊥)) → v + 2 ^ (7 * g) * low < 2 ^ 128
group_fits g v low small lt seven either =
    elim either [
      | inl last ↦
          let e : 2 ^ (7 * g) ≡ 2 ^ 126 = ap (λ (q : ℕ). 2 ^ (7 * q)) last.0 in
          omega (arith, mul-le-mul_left (2 ^ (7 * g)) last.1)
      | inr before ↦
          let h : v + 2 ^ (7 * g) * low < 2 ^ (7 * (g + 1)) = group_below g v low lt seven in
          let p : 2 ^ (7 * (g + 1)) ≤ 2 ^ 126 = pow_up (7 * (g + 1)) 126 (omega arith) in
          omega arith
    ]
