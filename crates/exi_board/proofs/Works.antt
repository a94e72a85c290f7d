-- For a worker's loop: it settles what it claims.
use Rattle.std.proofs.Common.{◌≡◌, ℕ, zero, suc, ◌+◌, ◌-◌, List, [], ◌∷◌, refl, sym, ap, ◌∙◌, subst, arith}
use mathlib.Core.Logic.{dite}
use native.Mathlib.Decide.{ℕ_discrete}
use Rattle.exi_board.specs.declared.view.SeatView.{SeatView}
use Rattle.exi_board.specs.declared.view.PostRecord.{PostRecord}
use Rattle.exi_board.specs.Views.{one_if, claims, settles, IsUnsettled, IsNewlyClaimed, IsSettled, IsSettledBut, tried_by, passing, passing_to, claiming, with_claimed, with_posted, with_late, with_given_up}
use Rattle.exi_board.proofs.Sums.{total-append, same_one, other_one, added_one, added_other}

module _ {N : Type 0} where
  passing_same : (n : ℕ) (v : SeatView N) (g : ℕ) → (claims g (passing n v) ≡ claims g v) × (settles g (passing n v) ≡ settles g v)
  passing_same zero v g = (refl, refl)
  passing_same (suc n) v g = passing_same n v g

  -- what was not settled still is not
  pub unsettled_after_none : (g n : ℕ) (v w : SeatView N) → w ≡ passing n v → IsUnsettled g v → IsUnsettled g w
  unsettled_after_none g n v w is o = let same = passing_same n v g in omega (arith, ap (λ x. settles g x) is, ap (λ x. claims g x) is, same.0, same.1, o)

  pub unsettled_after_claim : (g h n : ℕ) (v w : SeatView N) → w ≡ with_claimed h (passing n v) → IsUnsettled g v → IsUnsettled g w
  unsettled_after_claim g h n v w is o = let same = passing_same n v g in omega (arith, ap (λ x. settles g x) is, ap (λ x. claims g x) is, same.0, same.1, o, added_one g h (passing n v).claimed)

  -- after a claim
  pub claim_leaves : (h : ℕ) (v w : SeatView N) → IsSettled v → w ≡ claiming h v → IsSettledBut h w
  claim_leaves h v w all is g d =
      let same = passing_same (h - tried_by v) v g in
      ap (λ x. settles g x) is ∙ omega (arith, same.0, same.1, all g, added_other g h (passing_to h v).claimed d) ∙ ap (λ x. claims g x) (sym is)

  -- after a claim that found none
  pub none_leaves : (n : ℕ) (v w : SeatView N) → IsSettled v → w ≡ passing_to n v → IsSettled w
  none_leaves n v w all is g = let same = passing_same (n - tried_by v) v g in ap (λ x. settles g x) is ∙ same.1 ∙ all g ∙ sym same.0 ∙ ap (λ x. claims g x) (sym is)

  settled_by : (h : ℕ) (v w : SeatView N) → IsNewlyClaimed h v → IsSettledBut h v → ((g : ℕ) → (settles g w ≡ settles g v + one_if g h) × (claims g w ≡ claims g v)) → IsSettled w
  settled_by h v w fresh but more g = let t = more g in dite (ℕ_discrete g h)
      (λ e. subst (λ (j : ℕ). settles j w ≡ claims j w) (sym e) (let u = more h in omega (arith, u.0, u.1, fresh.0, fresh.1, same_one h)))
      (λ d. omega (arith, t.0, t.1, but g d, other_one g h (λ z. d (sym z))))

  pub post_settles : (h : ℕ) (pages : List ℕ) (v w : SeatView N) → IsNewlyClaimed h v → IsSettledBut h v → w ≡ with_posted h pages v → IsSettled w
  post_settles h pages v w fresh but is = settled_by h v w fresh but
      (λ g. (ap (λ x. settles g x) is ∙ omega (arith, total-append (λ (s : PostRecord). one_if g s.hint) v.posted (record { hint = h; pages = pages } ∷ [])), ap (λ x. claims g x) is))

  pub loss_settles : (h : ℕ) (v w : SeatView N) → IsNewlyClaimed h v → IsSettledBut h v → w ≡ with_late h v → IsSettled w
  loss_settles h v w fresh but is = settled_by h v w fresh but (λ g. (ap (λ x. settles g x) is ∙ omega (arith, added_one g h v.late), ap (λ x. claims g x) is))

  pub give_settles : (h : ℕ) (v w : SeatView N) → IsNewlyClaimed h v → IsSettledBut h v → w ≡ with_given_up h v → IsSettled w
  give_settles h v w fresh but is = settled_by h v w fresh but (λ g. (ap (λ x. settles g x) is ∙ omega (arith, added_one g h v.given_up), ap (λ x. claims g x) is))
