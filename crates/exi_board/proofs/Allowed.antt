-- Each step on a hint's word is allowed: it keeps the rule and tells what it says.
use Rattle.std.proofs.Common.{◌≡◌, ◌≢◌, ℕ, suc, ◌+◌, ◌-◌, ◌<◌, List, [], ◌∷◌, length, get_or, set, Option, Some, None, refl, sym, ap, ◌∙◌, subst, ⊎_elim, eqb, arith}
use mathlib.Core.Logic.{dite}
use mathlib.Core.Option.{some, none}
use native.Mathlib.Decide.{ℕ_discrete, dec_le}
use prog.Atomic.{either}
use Rattle.atomic_table.specs.Table.{State, step, Act, keeps, takes, gives, Valid, stepped, carried_after, Allows}
use Rattle.atomic_table.proofs.Lists.{set_else, exchanged}
use Rattle.exi_board.specs.declared.view.SeatView.{SeatView}
use Rattle.exi_board.specs.declared.view.Hints.{Hints}
use Rattle.exi_board.specs.declared.view.PostRecord.{PostRecord}
use Rattle.exi_board.specs.declared.view.ArrivalRecord.{ArrivalRecord}
use Rattle.exi_board.specs.Views.{one_if, mentions, IsUnsettled, with_claimed, with_not_free, with_putting, with_posted, with_late, with_given_up, with_arrival}
use Rattle.exi_board.specs.Rule.{HintRule, BoardRule}
use Rattle.exi_board.specs.Plays.{Seated, Claims, TakesOut, Posts, GivesUp, Arrives}
use Rattle.exi_board.proofs.Sums.{total-append, term_le, other_one, added_other}
use Rattle.exi_board.proofs.Keeps as kept
use Rattle.exi_board.proofs.Keeps.{Same, steps, at_length, open_word}

module _ {P N : Type 0} (fits : N → ℕ → P → Type 0) (hints : Hints N) where
  abbrev Goes : State (Option P) (SeatView N) → ℕ → Seated P N → ℕ → (ℕ → Seated P N → Type 0) → ℕ → Type 0
  Goes s id m k then x = (w : SeatView N) × (a : Act (Option P)) × Valid s.homes m.1 a × BoardRule fits hints (stepped s k x id m.1 w a) × then (get_or s.words k 0) (w, carried_after m.1 a)

  abbrev At : ℕ → P → Type 0
  At k = fits hints.note (get_or hints.offsets.items k 0)

  pub claim_allowed : (slots id k number : ℕ) (m : Seated P N) → m.0.number ≡ number → k < length hints.offsets.items
      → Allows (BoardRule fits hints) slots id m k (λ n. either (eqb n 0) (3 + number) n) (Claims (step slots k 0 (3 + number) none) m)
  claim_allowed slots id k number m num room s h len at lt =
      let n : ℕ = get_or s.words k 0 in
      let v : SeatView N = m.0 in
      let f = h.fair k room in
      let me : id ≡ number = sym ((h.numbered id v at).0) ∙ num in
      exchanged n 0 (3 + number) (Goes s id m k (Claims (step slots k 0 (3 + number) none) m))
      (λ e. let w : SeatView N = with_claimed k v in (
        w,
        keeps,
        tt,
        steps fits hints s h id k (3 + number) v w s.homes at room
            (λ g d. record { claims = added_other g k v.claimed d; posts = refl; posts_late = refl; gives_up = refl; arrives = refl; finds = λ x. refl }) (λ g d. refl) (λ g d p. p) (refl, refl, refl) (λ g d. refl)
            (subst (λ (j : ℕ). HintRule (At k) k (3 + j) s.homes (set s.views id w)) me (kept.claimed (At k) k s.homes s.views id v (subst (λ (j : ℕ). HintRule (At k) k j s.homes s.views) e f) at)),
        ((λ _. (refl, omega (arith, term_le (mentions k) s.views id v at, f.free e))), λ d. absurd (d e)),
      ))
      (λ d. let w : SeatView N = with_not_free k v in (
        w,
        keeps,
        tt,
        steps fits hints s h id k n v w s.homes at room
            (λ g d. record { claims = refl; posts = refl; posts_late = refl; gives_up = refl; arrives = refl; finds = λ x. refl }) (λ g d. added_other g k v.not_free d) (λ g d p. p) (refl, refl, refl) (λ g d. refl)
            (kept.seen (At k) k s.homes s.views id v n d f at),
        ((λ e. absurd (d e)), λ _. refl),
      ))

  pub take_allowed : (slots id k : ℕ) (m : Seated P N) → m.0.putting ≡ 0 → IsUnsettled k m.0 → k < length hints.offsets.items
      → Allows (BoardRule fits hints) slots id m k (λ n. n) (TakesOut (step slots k 0 0 none) m)
  take_allowed slots id k m still mine room s h len at lt =
      let v : SeatView N = m.0 in let w : SeatView N = with_putting k v in let f = h.fair k room in (
        w,
        takes k None,
        f.empty id v at mine (λ z. omega arith),
        steps fits hints s h id k (get_or s.words k 0) v w (set s.homes k none) at room
            (λ g d. record { claims = refl; posts = refl; posts_late = refl; gives_up = refl; arrives = refl; finds = λ x. refl }) (λ g d. refl) (λ g d p z. omega arith) (refl, refl, refl) (λ g d. set_else s.homes k g none d)
            (kept.taken (At k) k s.homes s.views id v (get_or s.words k 0) mine f at),
        refl,
      )

  pub post_allowed : (pages : P → List ℕ) (slots id k number : ℕ) (v : SeatView N) (p : P) (more : List (ℕ × Option P)) → v.number ≡ number → v.putting ≡ suc k → IsUnsettled k v → k < slots → k < length hints.offsets.items → At k p
      → Allows (BoardRule fits hints) slots id (v, (k, Some p) ∷ more) k (λ n. either (eqb n (3 + number)) 1 n) (Posts pages (step slots k (3 + number) 1 none) (v, (k, Some p) ∷ more))
  post_allowed pages slots id k number v p more num put mine home room fit s h len at lt =
      let n : ℕ = get_or s.words k 0 in
      let m : Seated P N = (v, (k, Some p) ∷ more) in
      let f = h.fair k room in
      let me : id ≡ number = sym ((h.numbered id v at).0) ∙ num in
      let word = open_word (At k) k s.homes s.views id v n f at mine in
      exchanged n (3 + number) 1 (Goes s id m k (Posts pages (step slots k (3 + number) 1 none) m))
      (λ e. let w : SeatView N = with_posted k (pages p) v in (
        w,
        gives,
        tt,
        steps fits hints s h id k 1 v w (set s.homes k (some (Some p))) at room
            (λ g d. record { claims = refl; posts = omega (arith, total-append (λ (x : PostRecord). one_if g x.hint) v.posted (record { hint = k; pages = pages p } ∷ []), other_one g k (λ z. d (sym z))); posts_late = refl; gives_up = refl; arrives = refl; finds = λ x. refl })
            (λ g d. refl) (λ g d q z. d (omega arith)) (refl, refl, refl) (λ g d. set_else s.homes k g (some (Some p)) d)
            (kept.posted (At k) k s.homes s.views id v p (pages p) mine (omega arith) fit (subst (λ (j : ℕ). HintRule (At k) k j s.homes s.views) (e ∙ ap (λ (j : ℕ). 3 + j) (sym me)) f) at),
        ((λ _. refl), λ d. absurd (d e)),
      ))
      (λ d. let two : n ≡ 2 = ⊎_elim (λ a. absurd (d (a ∙ ap (λ (j : ℕ). 3 + j) me))) (λ b. b) word in
      let w : SeatView N = with_late k v in (
        w,
        keeps,
        tt,
        steps fits hints s h id k n v w s.homes at room
            (λ g d. record { claims = refl; posts = refl; posts_late = added_other g k v.late d; gives_up = refl; arrives = refl; finds = λ x. refl }) (λ g d. refl) (λ g d q z. d (omega arith)) (refl, refl, refl) (λ g d. refl)
            (subst (λ (j : ℕ). HintRule (At k) k j s.homes (set s.views id w)) (sym two) (kept.lost (At k) k s.homes s.views id v mine (subst (λ (j : ℕ). HintRule (At k) k j s.homes s.views) two f) at)),
        ((λ e. absurd (d e)), λ _. (two, refl)),
      ))

  pub give_allowed : (slots id k : ℕ) (m : Seated P N) → IsUnsettled k m.0 → k < length hints.offsets.items
      → Allows (BoardRule fits hints) slots id m k (λ _. 2) (GivesUp (step slots k 2 0 none) m)
  give_allowed slots id k m mine room s h len at lt =
      let v : SeatView N = m.0 in let w : SeatView N = with_given_up k v in (
        w,
        keeps,
        tt,
        steps fits hints s h id k 2 v w s.homes at room
            (λ g d. record { claims = refl; posts = refl; posts_late = refl; gives_up = added_other g k v.given_up d; arrives = refl; finds = λ x. refl }) (λ g d. refl) (λ g d p. p) (refl, refl, refl) (λ g d. refl)
            (kept.given_up (At k) k s.homes s.views id v (get_or s.words k 0) mine (h.fair k room) at),
        refl,
      )

  -- a word names a seat below 2 ^ 32
  word_below : (s : State (Option P) (SeatView N)) (k n : ℕ) → BoardRule fits hints s → k < length hints.offsets.items → get_or s.words k 0 ≡ n → n < 4294967299
  word_below s k n h room is = dite (dec_le 3 n)
      (λ le. let e : get_or s.words k 0 ≡ 3 + (n - 3) = omega arith in let there = (h.fair k room).holder (n - 3) e in let near = at_length s.views (n - 3) there.0 there.1 in omega (arith, h.few))
      (λ gt. omega arith)

  pub arrive_allowed : (pages : P → List ℕ) (slots id k : ℕ) (m : Seated P N) → m.0.putting ≡ 0 → k < length hints.offsets.items
      → Allows (BoardRule fits hints) slots id m k (λ _. 2) (Arrives fits pages (step slots k 2 0 none) m)
  arrive_allowed pages slots id k m still room s h len at lt =
      let n : ℕ = get_or s.words k 0 in let v : SeatView N = m.0 in let f = h.fair k room in
      let same : (r : ℕ) (ps : List ℕ) (g : ℕ) → g ≢ k → Same g v (with_arrival k r ps v) = λ r ps g d.
      let other = other_one g k (λ z. d (sym z)) in
      record {
        claims = refl;
        posts = refl;
        posts_late = refl;
        gives_up = refl;
        arrives = omega (arith, total-append (λ (c : ArrivalRecord). one_if g c.hint) v.arrivals (record { hint = k; found = r; pages = ps } ∷ []), other);
        finds = λ x. kept.no_more g k r x ps v d;
      } in
      dite (ℕ_discrete n 1)
      (λ e. let there = f.shelved e in let w : SeatView N = with_arrival k 1 (pages there.0) v in (
        w,
        takes k (Some there.0),
        there.1,
        steps fits hints s h id k 2 v w (set s.homes k none) at room (same 1 (pages there.0)) (λ g d. refl) (λ g d p. p) (refl, refl, refl) (λ g d. set_else s.homes k g none d)
            (kept.arrived (At k) k s.homes s.views id v 1 (pages there.0) (set s.homes k none) (λ z. omega arith) (λ d. absurd (d refl)) (subst (λ (j : ℕ). HintRule (At k) k j s.homes s.views) e f) at),
        ((λ _. (there.0, refl, subst (λ (a : Hints N). fits a.note (get_or a.offsets.items k 0) there.0) (sym (h.numbered id v at).1) there.2)), (λ d. absurd (d e)), omega arith),
      ))
      (λ d. let w : SeatView N = with_arrival k n [] v in (
        w,
        keeps,
        tt,
        steps fits hints s h id k 2 v w s.homes at room (same n []) (λ g d. refl) (λ g d p. p) (refl, refl, refl) (λ g d. refl)
            (kept.arrived (At k) k s.homes s.views id v n [] s.homes (λ z. omega arith) (λ _. refl) f at),
        ((λ e. absurd (d e)), (λ _. refl), word_below s k n h room refl),
      ))
