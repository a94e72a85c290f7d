-- What the tries of a seat say of its view.
use Rattle.std.proofs.Common.{◌≡◌, ◌≢◌, ℕ, ◌+◌, ◌<◌, ◌≤◌, [], ◌∷◌, length, ap, arith, length-append}
use mathlib.Core.Logic.{dite}
use native.Mathlib.Decide.{ℕ_discrete, dec_le}
use Rattle.exi_board.specs.declared.view.SeatView.{SeatView}
use Rattle.exi_board.specs.declared.view.Hints.{Hints}
use Rattle.exi_board.specs.Views.{below, one_if, claims, sees, settles, mentions, tried_by, IsUnsettled, IsNewlyClaimed, with_claimed, with_not_free}
use Rattle.exi_board.specs.Plays.{Seated}
use Rattle.exi_board.proofs.Sums.{added, added_one, once_above}

pub record Tried {P N : Type 0} (k : ℕ) (m n : Seated P N) : Type 0 where
  pub number : n.0.number ≡ m.0.number
  pub putting : n.0.putting ≡ m.0.putting
  pub hints : n.0.hints ≡ m.0.hints
  pub passed : tried_by n.0 ≡ tried_by m.0 + 1
  pub spans : (h : ℕ) → claims h n.0 + sees h n.0 ≡ claims h m.0 + sees h m.0 + one_if h k

module _ {P N : Type 0} (k : ℕ) (m : Seated P N) (r : ℕ) (n : Seated P N) where
  pub tried : (r ≡ 0 → (n ≡ (with_claimed k m.0, m.1)) × (mentions k m.0 ≡ 0)) → (r ≢ 0 → n ≡ (with_not_free k m.0, m.1)) → Tried k m n
  tried hit miss = dite (ℕ_discrete r 0)
      (λ e. let is = ap (λ x. x.0) ((hit e).0) in record {
        number = ap (λ x. x.number) is;
        putting = ap (λ x. x.putting) is;
        hints = ap (λ x. x.hints) is;
        passed = omega (arith, ap (λ x. tried_by x) is, length-append m.0.claimed (k ∷ []));
        spans = λ h. omega (arith, ap (λ x. claims h x + sees h x) is, added_one h k m.0.claimed);
      })
      (λ d. let is = ap (λ x. x.0) (miss d) in record {
        number = ap (λ x. x.number) is;
        putting = ap (λ x. x.putting) is;
        hints = ap (λ x. x.hints) is;
        passed = omega (arith, ap (λ x. tried_by x) is, length-append m.0.not_free (k ∷ []));
        spans = λ h. omega (arith, ap (λ x. claims h x + sees h x) is, added_one h k m.0.not_free);
      })

  pub is_fresh : (n ≡ (with_claimed k m.0, m.1)) × (mentions k m.0 ≡ 0) → IsNewlyClaimed k n.0
  is_fresh t = let is = ap (λ x. x.0) t.0 in (omega (arith, ap (λ x. claims k x) is, added k m.0.claimed, t.1), omega (arith, ap (λ x. settles k x) is, t.1))

-- a hint that a seat has not settled is one of the board
module _ {N : Type 0} where
  pub is_hint : (h next : ℕ) (v : SeatView N) (hints : Hints N) → claims h v + sees h v ≡ below (one_if h) next → next ≤ length v.hints.offsets.items → v.hints ≡ hints → IsUnsettled h v → h < length hints.offsets.items
  is_hint h next v hints spans within same mine =
      dite (dec_le next h) (λ le. absurd (omega (arith, once_above h next le, spans, mine))) (λ gt. omega (arith, within, ap (λ (a : Hints N). length a.offsets.items) same))
