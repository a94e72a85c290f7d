-- A new board keeps the rule, and so does each seat that is seats.
use Rattle.std.proofs.Common.{◌≡◌, ◌≢◌, ◌⊎◌, ℕ, zero, suc, ◌+◌, ◌-◌, ◌<◌, ◌≤◌, List, [], ◌∷◌, ◌++◌, map, replicate, length, get_or, set, Option, None, refl, sym, ap, ◌∙◌, subst, inl, inr, ⊎_elim, arith, length-append, length-set}
use Rattle.std.proofs.lemmas.List.{map-append}
use mathlib.Core.Option.{some, some-injective, some-ne-none, Option as Maybe}
use lib.ListN.{get_elem?}
use Rattle.atomic_table.specs.Table.{opening, Splits}
use Rattle.atomic_table.proofs.Lists.{at_longer}
use Rattle.exi_board.specs.declared.view.SeatView.{SeatView}
use Rattle.exi_board.specs.declared.view.Hints.{Hints}
use Rattle.exi_board.specs.Views.{total, claims, posts, finds, settles, spends, mentions, IsUnsettled, new_view, later_views, with_seats}
use Rattle.exi_board.specs.Rule.{IsClaimedOrMet, HintRule, BoardRule}
use Rattle.exi_board.proofs.Sums.{total-append}
use Rattle.exi_board.proofs.Keeps.{elsewhere, at_each, at_length}

module _ {A : Type 0} where
  alone : (w : A) (Q : ℕ → A → Type 0) → Q 0 w → (i : ℕ) (u : A) → get_elem? (w ∷ []) i ≡ some u → Q i u
  alone w Q here zero u e = subst (λ (x : A). Q 0 x) (some-injective w u e) here
  alone w Q here (suc i) u e = absurd (some-ne-none u (sym e))

  at_end : (l : List A) (a b : A) (j : ℕ) → get_elem? (l ++ a ∷ []) j ≡ some b → (get_elem? l j ≡ some b) ⊎ ((j ≡ length l) × (a ≡ b))
  at_end [] a b zero e = inr (refl, some-injective a b e)
  at_end [] a b (suc j) e = absurd (some-ne-none b (sym e))
  at_end (x ∷ xs) a b zero e = inl e
  at_end (x ∷ xs) a b (suc j) e = ⊎_elim (λ t. inl t) (λ t. inr (ap suc t.0, t.1)) (at_end xs a b j e)

  all_empty : (a : A) (n i : ℕ) → i < n → get_elem? (map some (replicate n a)) i ≡ some (some a)
  all_empty a zero i h = absurd (omega arith)
  all_empty a (suc n) zero h = refl
  all_empty a (suc n) (suc i) h = all_empty a n i (omega arith)

zeros : (n i : ℕ) → get_or (replicate {A = ℕ} n 0) i 0 ≡ 0
zeros zero i = refl
zeros (suc n) zero = refl
zeros (suc n) (suc i) = zeros n i

module _ {P N : Type 0} (fits : N → ℕ → P → Type 0) (hints : Hints N) where
  pub starts : (count : ℕ) (words : List ℕ) → count ≡ length hints.offsets.items → words ≡ replicate (count + 1) 0 → count + 1 ≡ length words
      → BoardRule fits hints (opening words (replicate count None) (new_view hints 0 1))
  starts count words same is long = record {
    wide = omega arith;
    numbered = alone (new_view hints 0 1) (λ i u. (u.number ≡ i) × (u.hints ≡ hints)) (refl, refl);
    seats = λ v e. ap (λ (x : SeatView N). x.seats) (sym (some-injective (new_view hints 0 1) v e));
    few = omega arith;
    fair = λ h lt. subst (λ (m : ℕ). HintRule (fits hints.note (get_or hints.offsets.items h 0)) h m (map some (replicate count None)) (new_view hints 0 1 ∷ []))
        (sym (ap (λ (l : List ℕ). get_or l h 0) is ∙ zeros (count + 1) h))
        record {
          free = λ _. refl;
          vacant = λ _. all_empty None count h (omega arith);
          once = omega arith;
          settled = alone (new_view hints 0 1) (λ i u. settles h u ≤ claims h u) (omega arith);
          early = λ _. refl;
          posted = refl;
          holder = λ s e. absurd (omega arith);
          unsettled = alone (new_view hints 0 1) (λ i u. IsUnsettled h u → IsClaimedOrMet 0 i (total (finds h (3 + i)) (new_view hints 0 1 ∷ []))) (λ o. absurd (omega arith));
          shelved = λ e. absurd (omega arith);
          empty = alone (new_view hints 0 1) (λ i u. IsUnsettled h u → u.putting ≢ suc h → get_elem? (map some (replicate count None)) h ≡ some (some None)) (λ o. absurd (omega arith));
        };
  }

  -- one more seat that has done nothing
  joined : (part : P → Type 0) (h n k : ℕ) (homes : List (Maybe (Option P))) (views : List (SeatView N)) → HintRule part h n homes views → HintRule part h n homes (views ++ new_view hints k 0 ∷ [])
  joined part h n k homes views f =
      let w : SeatView N = new_view hints k 0 in
      let t = λ (g : SeatView N → ℕ). total-append g views (w ∷ []) in
      record {
        free = λ e. omega (arith, f.free e, t (mentions h));
        vacant = f.vacant;
        once = omega (arith, f.once, t (claims h));
        settled = λ i u e. ⊎_elim (λ a. f.settled i u a) (λ b. subst (λ (x : SeatView N). settles h x ≤ claims h x) b.1 (omega arith)) (at_end views w u i e);
        early = λ d. omega (arith, f.early d, t (spends h));
        posted = omega (arith, f.posted, t (posts h), t (finds h 1));
        holder = λ s e. let there = f.holder s e in (there.0, at_longer views (w ∷ []) s there.0 there.1, there.2);
        unsettled = λ i u e. ⊎_elim (λ a o. ⊎_elim (λ x. inl x) (λ y. inr (y.0, omega (arith, y.1, t (finds h (3 + i))))) (f.unsettled i u a o))
            (λ b. subst (λ (x : SeatView N). IsUnsettled h x → IsClaimedOrMet n i (total (finds h (3 + i)) (views ++ w ∷ []))) b.1 (λ o. absurd (omega arith))) (at_end views w u i e);
        shelved = f.shelved;
        empty = λ i u e. ⊎_elim (λ a. f.empty i u a) (λ b. subst (λ (x : SeatView N). IsUnsettled h x → x.putting ≢ suc h → get_elem? homes h ≡ some (some None)) b.1 (λ o. absurd (omega arith))) (at_end views w u i e);
      }

  pub makes : (id : ℕ) (v : SeatView N) → v.number ≡ 0 → v.hints ≡ hints → v.seats < 4294967296 → Splits (BoardRule fits hints) id v (with_seats (v.seats + 1) v) (new_view v.hints v.seats 0)
  makes id v num same few s kept at =
      let w : SeatView N = with_seats (v.seats + 1) v in let x : SeatView N = new_view hints v.seats 0 in
      let first : id ≡ 0 = sym (kept.numbered id v at).0 ∙ num in
      let count : v.seats ≡ length s.views = kept.seats v (subst (λ (j : ℕ). get_elem? s.views j ≡ some v) first at) in
      let many : length (set s.views id w) ≡ length s.views = length-set s.views id w in
      let longer : length (set s.views id w ++ x ∷ []) ≡ v.seats + 1 = omega (arith, length-append (set s.views id w) (x ∷ [])) in
      let near = at_length s.views id v at in
      subst (λ (a : Hints N). BoardRule fits hints record { words = s.words; homes = s.homes; views = set s.views id w ++ new_view a v.seats 0 ∷ [] }) (sym same)
      record {
        wide = kept.wide;
        numbered = λ i u e. ⊎_elim
            (at_each s.views id w (λ i u. (u.number ≡ i) × (u.hints ≡ hints)) (kept.numbered id v at) (λ i u _ there. kept.numbered i u there) i u)
            (λ b. subst (λ (y : SeatView N). (y.number ≡ i) × (y.hints ≡ hints)) b.1 (omega arith, refl)) (at_end (set s.views id w) x u i e);
        seats = λ u e. ⊎_elim
            (λ a. at_each s.views id w (λ i y. i ≡ 0 → y.seats ≡ length (set s.views id w ++ x ∷ [])) (λ _. sym longer) (λ i y d there z. absurd (d (z ∙ sym first))) 0 u a refl)
            (λ b. absurd (omega (arith, b.0))) (at_end (set s.views id w) x u 0 e);
        few = omega arith;
        fair = λ h lt. joined (fits hints.note (get_or hints.offsets.items h 0)) h (get_or s.words h 0) v.seats s.homes (set s.views id w)
            (elsewhere (fits hints.note (get_or hints.offsets.items h 0)) h (get_or s.words h 0) s.homes s.homes s.views id v w (kept.fair h lt) at
            record { claims = refl; posts = refl; posts_late = refl; gives_up = refl; arrives = refl; finds = λ m. refl } refl (λ d. d) refl);
      }

  pub later_views_more : (n : ℕ) → 1 ≤ n → later_views hints (n + 1 - 1) ≡ later_views hints (n - 1) ++ new_view hints n 0 ∷ []
  later_views_more n h =
      let e : suc (n - 1) ≡ n + 1 - 1 = omega arith in let f : suc (n - 1) ≡ n = omega arith in
      subst (λ (j : ℕ). later_views hints j ≡ later_views hints (n - 1) ++ new_view hints n 0 ∷ []) e (ap (λ (j : ℕ). later_views hints (n - 1) ++ new_view hints j 0 ∷ []) f)

  -- one more seat in the list of the seats that were seats
  pub pushed : {S : Type 0} (f : S → SeatView N) (xs ys : List S) (y : S) (n : ℕ) (v : SeatView N) → ys ≡ xs ++ y ∷ [] → map f xs ≡ later_views hints (n - 1) → f y ≡ new_view v.hints v.seats 0 → v ≡ new_view hints 0 n → 1 ≤ n → map f ys ≡ later_views hints (n + 1 - 1)
  pushed f xs ys y n v is before one mine least =
      ap (map f) is ∙ map-append f xs (y ∷ []) ∙ ap (λ (l : List (SeatView N)). l ++ f y ∷ []) before
      ∙ ap (λ (u : SeatView N). later_views hints (n - 1) ++ u ∷ []) (one ∙ ap (λ (u : SeatView N). new_view u.hints u.seats 0) mine) ∙ sym (later_views_more n least)
