-- The laws of the rule.
use Rattle.std.proofs.Common.{◌≡◌, ◌⊎◌, ℕ, suc, ◌+◌, ◌<◌, ◌≤◌, List, [], ◌∷◌, Option, refl, sym, ap, ◌∙◌, subst, inl, inr, arith, get_or}
use mathlib.Core.Logic.{dite}
use native.Mathlib.Decide.{ℕ_discrete, dec_le}
use mathlib.Core.Option.{some, Option as Maybe}
use lib.ListN.{get_elem?}
use Rattle.exi_board.specs.declared.view.SeatView.{SeatView}
use Rattle.exi_board.specs.Views.{total, one_if, claims, posts, finds, spends, mentions}
use Rattle.exi_board.specs.Rule.{IsClaimedOrMet, HintRule}
use Rattle.exi_board.specs.Laws.{SeatsDiffer, SeatsAreCounted, FreeIsUntouched, OneClaimant, ClaimedOnce, SpentIsTwo, PostedWord, ClaimedWord, UnsettledWord, PostedByClaimant, PostedIsHeld, FoundOnce}
use Rattle.exi_board.proofs.Sums.{total_le, total_le_at, term_le, terms_le, other_one, same_one}
use Rattle.exi_board.proofs.Keeps.{at_length, finds_le}

-- a sum that is not 0 has a term that is not 0
some_term : {A : Type 0} (g : A → ℕ) (l : List A) → 0 < total g l → (i : ℕ) × (x : A) × (get_elem? l i ≡ some x) × (0 < g x)
some_term g [] h = absurd (omega arith)
some_term g (x ∷ xs) h = dite (dec_le 1 (g x)) (λ le. (0, x, refl, omega arith)) (λ gt. let more = some_term g xs (omega arith) in (suc more.0, more.1, more.2, more.3))

module _ {P N : Type 0} (fits : P → Type 0) (h w : ℕ) (homes : List (Maybe (Option P))) (views : List (SeatView N)) (f : HintRule fits h w homes views) where
  posts_once : total (posts h) views ≤ 1
  posts_once = omega (arith, total_le_at (posts h) (claims h) views (λ i v p. omega (arith, f.settled i v p)), f.once)

  was_posted : (i : ℕ) (v : SeatView N) → get_elem? views i ≡ some v → 0 < posts h v → (w ≡ 1) ⊎ ((w ≡ 2) × (total (finds h 1) views ≡ 1))
  was_posted i v p was =
      let mine = term_le (posts h) views i v p in
      let found : total (finds h 1) views ≤ total (spends h) views = total_le (finds h 1) (spends h) views (λ x. finds_le h 1 x) in
      dite (ℕ_discrete w 1) (λ e. inl e)
      (λ d. let none : one_if 1 w ≡ 0 = other_one 1 w d in
      let once : total (finds h 1) views ≡ 1 = omega (arith, f.posted, posts_once) in
      inr (dite (ℕ_discrete w 2) (λ e. e) (λ n. absurd (omega (arith, f.early n))), once))

  posted_by : w ≡ 1 → (i : ℕ) × (v : SeatView N) × (get_elem? views i ≡ some v) × (0 < claims h v) × (0 < posts h v)
  posted_by e =
      let one : one_if 1 w ≡ 1 = ap (one_if 1) e ∙ same_one 1 in
      let there = some_term (posts h) views (omega (arith, f.posted)) in
      (there.0, there.1, there.2, omega (arith, f.settled there.0 there.1 there.2, there.3), there.3)

  is_spent : (i : ℕ) (v : SeatView N) → get_elem? views i ≡ some v → 0 < spends h v → w ≡ 2
  is_spent i v p was = let mine = term_le (spends h) views i v p in dite (ℕ_discrete w 2) (λ e. e) (λ d. absurd (omega (arith, f.early d)))

module _ {P N : Type 0} (fits : N → ℕ → P → Type 0) where
  pub seats_differ : SeatsDiffer fits
  seats_differ hints s kept i j v w p q e = sym ((kept.numbered i v p).0) ∙ e ∙ (kept.numbered j w q).0

  pub seats_are_counted : SeatsAreCounted fits
  seats_are_counted hints s kept i v first p q = let near = at_length s.views i v p in omega (arith, (kept.numbered i v p).0, kept.seats first q)

  pub free_is_untouched : FreeIsUntouched fits
  free_is_untouched hints s kept h lt e i v p = omega (arith, (kept.fair h lt).free e, term_le (mentions h) s.views i v p)

  pub one_claimant : OneClaimant fits
  one_claimant hints s kept h lt i j v w p q a b =
      dite (ℕ_discrete i j) (λ e. e) (λ d. absurd (omega (arith, terms_le (claims h) s.views j i w v d q p, (kept.fair h lt).once)))

  pub claimed_once : ClaimedOnce fits
  claimed_once hints s kept h lt i v p = (omega (arith, term_le (claims h) s.views i v p, (kept.fair h lt).once), (kept.fair h lt).settled i v p)

  pub spent_is_two : SpentIsTwo fits
  spent_is_two hints s kept h lt = is_spent (fits hints.note (get_or hints.offsets.items h 0)) h (get_or s.words h 0) s.homes s.views (kept.fair h lt)

  pub posted_word : PostedWord fits
  posted_word hints s kept h lt = was_posted (fits hints.note (get_or hints.offsets.items h 0)) h (get_or s.words h 0) s.homes s.views (kept.fair h lt)

  pub claimed_word : ClaimedWord fits
  claimed_word hints s kept h lt = (kept.fair h lt).holder

  pub unsettled_word : UnsettledWord fits
  unsettled_word hints s kept h lt i v p o =
      subst (λ (n : ℕ). IsClaimedOrMet (get_or s.words h 0) n (total (finds h (3 + n)) s.views)) (sym (kept.numbered i v p).0) ((kept.fair h lt).unsettled i v p o)

  pub posted_by_claimant : PostedByClaimant fits
  posted_by_claimant hints s kept h lt = posted_by (fits hints.note (get_or hints.offsets.items h 0)) h (get_or s.words h 0) s.homes s.views (kept.fair h lt)

  pub posted_is_held : PostedIsHeld fits
  posted_is_held hints s kept h lt = (kept.fair h lt).shelved

  pub found_once : FoundOnce fits
  found_once hints s kept h lt = omega (arith, (kept.fair h lt).posted, posts_once (fits hints.note (get_or hints.offsets.items h 0)) h (get_or s.words h 0) s.homes s.views (kept.fair h lt))
