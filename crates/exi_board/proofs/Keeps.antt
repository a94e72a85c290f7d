-- Each step keeps the rule.
use Rattle.std.proofs.Common.{◌≡◌, ◌≢◌, ◌⊎◌, ℕ, zero, suc, ◌+◌, ◌<◌, ◌≤◌, Bool, true, false, List, [], ◌∷◌, length, get_or, set, Option, Some, None, refl, sym, ap, ◌∙◌, subst, inl, inr, ⊎_elim, eqb, cond, ne_eqb, eq-eqb, arith, length-set, get_or-set_same, get_or-set_other}
use mathlib.Core.Logic.{dite}
use mathlib.Core.Option.{some, none, some-injective, some-ne-none, Option as Maybe}
use native.Mathlib.Decide.{ℕ_discrete}
use lib.ListN.{get_elem?}
use Rattle.atomic_table.specs.Table.{State}
use Rattle.atomic_table.proofs.Lists.{at_set, set_here, set_else}
use Rattle.exi_board.specs.declared.view.SeatView.{SeatView}
use Rattle.exi_board.specs.declared.view.Hints.{Hints}
use Rattle.exi_board.specs.declared.view.PostRecord.{PostRecord}
use Rattle.exi_board.specs.declared.view.ArrivalRecord.{ArrivalRecord}
use Rattle.exi_board.specs.Views.{total, one_if, claims, sees, posts, posts_late, gives_up, arrives, finds, settles, spends, mentions, IsUnsettled, with_claimed, with_not_free, with_putting, with_posted, with_late, with_given_up, with_arrival}
use Rattle.exi_board.specs.Rule.{IsClaimedOrMet, HintRule, BoardRule}
use Rattle.exi_board.proofs.Sums.{total_le, total-append, total-set, term_le, terms_le, same_one, other_one, added}

-- what a seat's lists say of the hint h stays the same, but for the hints that it saw not free
pub record Same {N : Type 0} (h : ℕ) (v w : SeatView N) : Type 0 where
  pub claims : claims h w ≡ claims h v
  pub posts : posts h w ≡ posts h v
  pub posts_late : posts_late h w ≡ posts_late h v
  pub gives_up : gives_up h w ≡ gives_up h v
  pub arrives : arrives h w ≡ arrives h v
  pub finds : (n : ℕ) → finds h n w ≡ finds h n v

module _ {A : Type 0} where
  -- a fact of each view, after one view has changed
  pub at_each : (views : List A) (id : ℕ) (w : A) (Q : ℕ → A → Type 0) → Q id w → ((i : ℕ) (u : A) → i ≢ id → get_elem? views i ≡ some u → Q i u) → (i : ℕ) (u : A) → get_elem? (set views id w) i ≡ some u → Q i u
  at_each views id w Q here other i u e =
      ⊎_elim (λ t. subst (λ (j : ℕ). Q j u) (sym t.0) (subst (λ (x : A). Q id x) t.1 here)) (λ t. other i u t.0 t.1) (at_set views id i w u e)

  pub at_length : (views : List A) (i : ℕ) (a : A) → get_elem? views i ≡ some a → i < length views
  at_length [] i a e = absurd (some-ne-none a (sym e))
  at_length (x ∷ xs) zero a e = omega arith
  at_length (x ∷ xs) (suc i) a e = omega (arith, at_length xs i a e)

  pub same_at : (views : List A) (i : ℕ) (a b : A) → get_elem? views i ≡ some a → get_elem? views i ≡ some b → a ≡ b
  same_at views i a b p q = some-injective a b (sym p ∙ q)

found_le : (b c : Bool) → cond b (cond c 1 0) 0 ≤ cond b 1 0
found_le true true = omega arith
found_le true false = omega arith
found_le false c = omega arith

pub finds_le : {N : Type 0} (h n : ℕ) (v : SeatView N) → finds h n v ≤ spends h v
finds_le h n v = let a : finds h n v ≤ arrives h v = total_le (λ (c : ArrivalRecord). cond (eqb c.hint h) (one_if n c.found) 0) (λ (c : ArrivalRecord). one_if h c.hint) v.arrivals (λ c. found_le (eqb c.hint h) (eqb c.found n)) in omega (arith, a)

-- an arrival at another hint
pub no_more : {N : Type 0} (h k r n : ℕ) (pages : List ℕ) (v : SeatView N) → h ≢ k → finds h n (with_arrival k r pages v) ≡ finds h n v
no_more h k r n pages v d = omega (arith, total-append (λ (c : ArrivalRecord). cond (eqb c.hint h) (one_if n c.found) 0) v.arrivals (record { hint = k; found = r; pages = pages } ∷ []), ap (λ b. cond b (one_if n r) 0) (ne_eqb k h (λ z. d (sym z))))

module _ {P N : Type 0} (fits : P → Type 0) (h n : ℕ) (homes after : List (Maybe (Option P))) (views : List (SeatView N)) (id : ℕ) (v w : SeatView N) where
  -- the word stays, and the lists say the same of the hint
  pub alike : HintRule fits h n homes views → get_elem? views id ≡ some v → Same h v w → (n ≡ 0 → sees h w ≡ sees h v)
      → (n ≡ 0 → get_elem? after h ≡ some (some None))
      → (n ≡ 1 → (p : P) × (get_elem? after h ≡ some (some (Some p))) × fits p)
      → ((i : ℕ) (u : SeatView N) → get_elem? (set views id w) i ≡ some u → IsUnsettled h u → u.putting ≢ suc h → get_elem? after h ≡ some (some None))
      → HintRule fits h n after (set views id w)
  alike f at e seen vacant shelved empty =
      let t = λ (g : SeatView N → ℕ). total-set g views id v w at in
      record {
        free = λ z. omega (arith, t (mentions h), f.free z, seen z, e.claims, e.posts, e.posts_late, e.gives_up, e.arrives);
        vacant = vacant;
        once = omega (arith, t (claims h), f.once, e.claims);
        settled = at_each views id w (λ i u. settles h u ≤ claims h u) (omega (arith, f.settled id v at, e.claims, e.posts, e.posts_late, e.gives_up)) (λ i u d there. f.settled i u there);
        early = λ d. omega (arith, f.early d, t (spends h), e.posts_late, e.gives_up, e.arrives);
        posted = omega (arith, f.posted, t (posts h), t (finds h 1), e.posts, e.finds 1);
        holder = λ s is. let there = f.holder s is in
            dite (ℕ_discrete s id)
            (λ me. let mine : there.0 ≡ v = same_at views id there.0 v (subst (λ (j : ℕ). get_elem? views j ≡ some there.0) me there.1) at in
            let still : IsUnsettled h v = subst (IsUnsettled h) mine there.2 in
            (w, subst (λ (j : ℕ). get_elem? (set views id w) j ≡ some w) (sym me) (set_here views id w (at_length views id v at)), omega (arith, still, e.claims, e.posts, e.posts_late, e.gives_up)))
            (λ other. (there.0, set_else views id s w other ∙ there.1, there.2));
        unsettled = at_each views id w (λ i u. IsUnsettled h u → IsClaimedOrMet n i (total (finds h (3 + i)) (set views id w)))
            (λ o. ⊎_elim (λ a. inl a) (λ b. inr (b.0, omega (arith, b.1, t (finds h (3 + id)), e.finds (3 + id)))) (f.unsettled id v at (omega (arith, o, e.claims, e.posts, e.posts_late, e.gives_up))))
            (λ i u d there o. ⊎_elim (λ a. inl a) (λ b. inr (b.0, omega (arith, b.1, t (finds h (3 + i)), e.finds (3 + i)))) (f.unsettled i u there o));
        shelved = shelved;
        empty = empty;
      }

  -- the step was at another hint
  pub elsewhere : HintRule fits h n homes views → get_elem? views id ≡ some v → Same h v w → sees h w ≡ sees h v → (w.putting ≢ suc h → v.putting ≢ suc h) → get_elem? after h ≡ get_elem? homes h
      → HintRule fits h n after (set views id w)
  elsewhere f at e seen put same =
      alike f at e (λ _. seen) (λ z. same ∙ f.vacant z) (λ z. let p = f.shelved z in (p.0, same ∙ p.1, p.2))
      (at_each views id w (λ i u. IsUnsettled h u → u.putting ≢ suc h → get_elem? after h ≡ some (some None))
      (λ o d. same ∙ f.empty id v at (omega (arith, o, e.claims, e.posts, e.posts_late, e.gives_up)) (put d))
      (λ i u _ there o d. same ∙ f.empty i u there o d))

  -- the word became 2, and the seat's lists say that it is spent
  pub spent : HintRule fits h n homes views → get_elem? views id ≡ some v → claims h w ≡ claims h v → posts h w ≡ posts h v → settles h w ≤ claims h w
      → total (finds h 1) (set views id w) ≡ total (finds h 1) views + one_if 1 n
      → (IsUnsettled h w → IsUnsettled h v × (v.putting ≢ suc h))
      → ((i : ℕ) → (i ≡ id → IsUnsettled h w) → total (finds h (3 + i)) (set views id w) ≡ total (finds h (3 + i)) views + one_if (3 + i) n)
      → (n ≢ 1 → get_elem? after h ≡ get_elem? homes h)
      → HintRule fits h 2 after (set views id w)
  spent f at claimed sent settled found still holders same =
      let t = λ (g : SeatView N → ℕ). total-set g views id v w at in
      let unsettled : (i : ℕ) (u : SeatView N) → get_elem? views i ≡ some u → IsUnsettled h u → (i ≡ id → IsUnsettled h w) → IsClaimedOrMet 2 i (total (finds h (3 + i)) (set views id w)) =
      λ i u there o back. let counts = holders i back in inr (
        refl,
        ⊎_elim
            (λ a. let none : total (finds h (3 + i)) views ≤ total (spends h) views = total_le (finds h (3 + i)) (spends h) views (λ x. finds_le h (3 + i) x) in
            let d : n ≢ 2 = λ z. omega arith in
            let one : one_if (3 + i) n ≡ 1 = ap (one_if (3 + i)) a ∙ same_one (3 + i) in
            omega (arith, none, f.early d, counts, one))
            (λ b. let zero-more : one_if (3 + i) n ≡ 0 = ap (one_if (3 + i)) b.0 ∙ other_one (3 + i) 2 (λ z. omega arith) in omega (arith, counts, b.1, zero-more))
            (f.unsettled i u there o),
      ) in
      let empty : (i : ℕ) (u : SeatView N) → get_elem? views i ≡ some u → IsUnsettled h u → u.putting ≢ suc h → get_elem? after h ≡ some (some None) =
      λ i u there o d. same (λ z. ⊎_elim (λ a. omega arith) (λ b. let c = b.0 in omega arith) (f.unsettled i u there o)) ∙ f.empty i u there o d in
      record {
        free = λ z. absurd (omega arith);
        vacant = λ z. absurd (omega arith);
        once = omega (arith, t (claims h), f.once, claimed);
        settled = at_each views id w (λ i u. settles h u ≤ claims h u) settled (λ i u d there. f.settled i u there);
        early = λ d. absurd (d refl);
        posted = omega (arith, f.posted, t (posts h), found, sent);
        holder = λ s z. absurd (omega arith);
        unsettled = at_each views id w (λ i u. IsUnsettled h u → IsClaimedOrMet 2 i (total (finds h (3 + i)) (set views id w))) (λ o. unsettled id v at (still o).0 (λ _. o)) (λ i u d there o. unsettled i u there o (λ e. absurd (d e)));
        shelved = λ z. absurd (omega arith);
        empty = at_each views id w (λ i u. IsUnsettled h u → u.putting ≢ suc h → get_elem? after h ≡ some (some None)) (λ o d. empty id v at (still o).0 (still o).1) (λ i u _ there o d. empty i u there o d);
      }

abbrev Homes : Type 0 → Type 0
Homes P = List (Maybe (Option P))

module _ {P N : Type 0} (fits : P → Type 0) (k : ℕ) (homes : Homes P) (views : List (SeatView N)) (id : ℕ) (v : SeatView N) where
  -- whoever has the hint open, its word says so or is 2
  pub open_word : (n : ℕ) → HintRule fits k n homes views → get_elem? views id ≡ some v → IsUnsettled k v → (n ≡ 3 + id) ⊎ (n ≡ 2)
  open_word n f at o = ⊎_elim (λ a. inl a) (λ b. inr b.0) (f.unsettled id v at o)

  -- a free hint was claimed
  pub claimed : HintRule fits k 0 homes views → get_elem? views id ≡ some v → HintRule fits k (3 + id) homes (set views id (with_claimed k v))
  claimed f at =
      let w : SeatView N = with_claimed k v in
      let t = λ (g : SeatView N → ℕ). total-set g views id v w at in
      let more = added k v.claimed in
      let none : total (claims k) views ≤ total (mentions k) views = total_le (claims k) (mentions k) views (λ x. omega arith) in
      let mine : mentions k v ≤ total (mentions k) views = term_le (mentions k) views id v at in
      let no_other : (i : ℕ) (u : SeatView N) → get_elem? views i ≡ some u → ¬ IsUnsettled k u = λ i u there o. let c : claims k u ≤ total (claims k) views = term_le (claims k) views i u there in omega (arith, f.free refl) in
      record {
        free = λ z. absurd (omega arith);
        vacant = λ z. absurd (omega arith);
        once = omega (arith, t (claims k), more, f.free refl);
        settled = at_each views id w (λ i u. settles k u ≤ claims k u) (omega (arith, f.settled id v at, more)) (λ i u d there. f.settled i u there);
        early = λ d. omega (arith, f.early (λ z. omega arith), t (spends k));
        posted = let later_views : one_if 1 (3 + id) ≡ 0 = other_one 1 (3 + id) (λ z. omega arith) in omega (arith, f.posted, t (posts k), t (finds k 1), later_views);
        holder = λ s is. let me : s ≡ id = omega arith in
            (w, subst (λ (j : ℕ). get_elem? (set views id w) j ≡ some w) (sym me) (set_here views id w (at_length views id v at)), omega (arith, more, f.free refl));
        unsettled = at_each views id w (λ i u. IsUnsettled k u → IsClaimedOrMet (3 + id) i (total (finds k (3 + i)) (set views id w)))
            (λ o. inl refl) (λ i u d there o. absurd (no_other i u there o));
        shelved = λ z. absurd (omega arith);
        empty = at_each views id w (λ i u. IsUnsettled k u → u.putting ≢ suc k → get_elem? homes k ≡ some (some None)) (λ o d. f.vacant refl) (λ i u d there o. absurd (no_other i u there o));
      }

  -- a hint was seen not free
  pub seen : (n : ℕ) → n ≢ 0 → HintRule fits k n homes views → get_elem? views id ≡ some v → HintRule fits k n homes (set views id (with_not_free k v))
  seen n d f at = alike fits k n homes homes views id v (with_not_free k v) f at
      record { claims = refl; posts = refl; posts_late = refl; gives_up = refl; arrives = refl; finds = λ m. refl }
      (λ z. absurd (d z)) f.vacant f.shelved
      (at_each views id (with_not_free k v) (λ i u. IsUnsettled k u → u.putting ≢ suc k → get_elem? homes k ≡ some (some None)) (f.empty id v at) (λ i u _ there. f.empty i u there))

  -- the slot was taken out for a post
  pub taken : (n : ℕ) → IsUnsettled k v → HintRule fits k n homes views → get_elem? views id ≡ some v → HintRule fits k n (set homes k none) (set views id (with_putting k v))
  taken n mine f at = let word = open_word n f at mine in
      alike fits k n homes (set homes k none) views id v (with_putting k v) f at
      record { claims = refl; posts = refl; posts_late = refl; gives_up = refl; arrives = refl; finds = λ m. refl }
      (λ z. absurd (⊎_elim (λ a. omega arith) (λ b. omega arith) word))
      (λ z. absurd (⊎_elim (λ a. omega arith) (λ b. omega arith) word))
      (λ z. absurd (⊎_elim (λ a. omega arith) (λ b. omega arith) word))
      (at_each views id (with_putting k v) (λ i u. IsUnsettled k u → u.putting ≢ suc k → get_elem? (set homes k none) k ≡ some (some None))
      (λ o d. absurd (d refl))
      (λ i u other there o d. absurd (omega (arith, terms_le (claims k) views id i v u other at there, f.once))))

  -- the posting went home
  pub posted : (p : P) (pages : List ℕ) → IsUnsettled k v → k < length homes → fits p → HintRule fits k (3 + id) homes views → get_elem? views id ≡ some v
      → HintRule fits k 1 (set homes k (some (Some p))) (set views id (with_posted k pages v))
  posted p pages mine room fit f at =
      let w : SeatView N = with_posted k pages v in
      let t = λ (g : SeatView N → ℕ). total-set g views id v w at in
      let more : posts k w ≡ posts k v + 1 = omega (arith, total-append (λ (s : PostRecord). one_if k s.hint) v.posted (record { hint = k; pages = pages } ∷ []), same_one k) in
      let few : claims k v ≤ total (claims k) views = term_le (claims k) views id v at in
      let closed : ¬ IsUnsettled k w = λ o. omega (arith, more, f.once) in
      let no_other : (i : ℕ) (u : SeatView N) → i ≢ id → get_elem? views i ≡ some u → ¬ IsUnsettled k u = λ i u other there o. omega (arith, terms_le (claims k) views id i v u other at there, f.once) in
      record {
        free = λ z. absurd (omega arith);
        vacant = λ z. absurd (omega arith);
        once = omega (arith, t (claims k), f.once);
        settled = at_each views id w (λ i u. settles k u ≤ claims k u) (omega (arith, more)) (λ i u d there. f.settled i u there);
        early = λ d. omega (arith, f.early (λ z. omega arith), t (spends k));
        posted = let before : one_if 1 (3 + id) ≡ 0 = other_one 1 (3 + id) (λ z. omega arith) in omega (arith, f.posted, t (posts k), t (finds k 1), more, before);
        holder = λ s z. absurd (omega arith);
        unsettled = at_each views id w (λ i u. IsUnsettled k u → IsClaimedOrMet 1 i (total (finds k (3 + i)) (set views id w))) (λ o. absurd (closed o)) (λ i u d there o. absurd (no_other i u d there o));
        shelved = λ z. (p, set_here homes k (some (Some p)) room, fit);
        empty = at_each views id w (λ i u. IsUnsettled k u → u.putting ≢ suc k → get_elem? (set homes k (some (Some p))) k ≡ some (some None)) (λ o. absurd (closed o)) (λ i u d there o. absurd (no_other i u d there o));
      }

  -- the posting came late
  pub lost : IsUnsettled k v → HintRule fits k 2 homes views → get_elem? views id ≡ some v → HintRule fits k 2 homes (set views id (with_late k v))
  lost mine f at =
      let w : SeatView N = with_late k v in let t = λ (g : SeatView N → ℕ). total-set g views id v w at in
      let more : posts_late k w ≡ posts_late k v + 1 = added k v.late in
      let few : claims k v ≤ total (claims k) views = term_le (claims k) views id v at in
      spent fits k 2 homes homes views id v w f at refl refl (omega (arith, more)) (omega (arith, t (finds k 1), other_one 1 2 (λ z. omega arith)))
      (λ o. absurd (omega (arith, more, f.once)))
      (λ i _. omega (arith, t (finds k (3 + i)), other_one (3 + i) 2 (λ z. omega arith)))
      (λ _. refl)

  -- the hint was given up
  pub given_up : (n : ℕ) → IsUnsettled k v → HintRule fits k n homes views → get_elem? views id ≡ some v → HintRule fits k 2 homes (set views id (with_given_up k v))
  given_up n mine f at =
      let w : SeatView N = with_given_up k v in let t = λ (g : SeatView N → ℕ). total-set g views id v w at in
      let word = open_word n f at mine in
      let more : gives_up k w ≡ gives_up k v + 1 = added k v.given_up in
      let few : claims k v ≤ total (claims k) views = term_le (claims k) views id v at in
      let closed : ¬ IsUnsettled k w = λ o. omega (arith, more, f.once) in
      spent fits k n homes homes views id v w f at refl refl (omega (arith, more))
      (omega (arith, t (finds k 1), other_one 1 n (λ z. ⊎_elim (λ a. omega arith) (λ b. omega arith) word)))
      (λ o. absurd (closed o))
      (λ i back. omega (arith, t (finds k (3 + i)), other_one (3 + i) n (λ z. ⊎_elim (λ a. closed (back (omega arith))) (λ b. omega arith) word)))
      (λ _. refl)

  -- a seat arrived at the hint
  pub arrived : (n : ℕ) (pages : List ℕ) (after : Homes P) → v.putting ≢ suc k → (n ≢ 1 → get_elem? after k ≡ get_elem? homes k) → HintRule fits k n homes views → get_elem? views id ≡ some v
      → HintRule fits k 2 after (set views id (with_arrival k n pages v))
  arrived n pages after put same f at =
      let w : SeatView N = with_arrival k n pages v in let t = λ (g : SeatView N → ℕ). total-set g views id v w at in
      let came : (m : ℕ) → finds k m w ≡ finds k m v + one_if m n = λ m. omega (arith, total-append (λ (c : ArrivalRecord). cond (eqb c.hint k) (one_if m c.found) 0) v.arrivals (record { hint = k; found = n; pages = pages } ∷ []), ap (λ b. cond b (one_if m n) 0) (eq-eqb k k refl)) in
      spent fits k n homes after views id v w f at refl refl (f.settled id v at) (omega (arith, t (finds k 1), came 1))
      (λ o. (o, put))
      (λ i _. omega (arith, t (finds k (3 + i)), came (3 + i)))
      same

-- what holds at one hint holds at all of them, after a step at it
module _ {P N : Type 0} (fits : N → ℕ → P → Type 0) (hints : Hints N) (s : State (Option P) (SeatView N)) (kept : BoardRule fits hints s) (id k n : ℕ) (v w : SeatView N) (after : Homes P) where
  pub steps : get_elem? s.views id ≡ some v → k < length hints.offsets.items
      → ((h : ℕ) → h ≢ k → Same h v w) → ((h : ℕ) → h ≢ k → sees h w ≡ sees h v) → ((h : ℕ) → h ≢ k → w.putting ≢ suc h → v.putting ≢ suc h)
      → (w.number ≡ v.number) × (w.hints ≡ v.hints) × (w.seats ≡ v.seats)
      → ((h : ℕ) → h ≢ k → get_elem? after h ≡ get_elem? s.homes h)
      → HintRule (fits hints.note (get_or hints.offsets.items k 0)) k n after (set s.views id w)
      → BoardRule fits hints record { words = set s.words k n; homes = after; views = set s.views id w }
  steps at room same seen put names others here =
      let wide : length (set s.words k n) ≡ length s.words = length-set s.words k n in
      let many : length (set s.views id w) ≡ length s.views = length-set s.views id w in
      record {
        wide = omega (arith, kept.wide);
        numbered = at_each s.views id w (λ i u. (u.number ≡ i) × (u.hints ≡ hints)) (let old = kept.numbered id v at in (names.0 ∙ old.0, names.1 ∙ old.1)) (λ i u _ there. kept.numbered i u there);
        seats = λ u there. at_each s.views id w (λ i x. (get_elem? (set s.views id w) i ≡ some x → i ≡ 0 → x.seats ≡ length (set s.views id w)))
            (λ _ z. names.2 ∙ kept.seats v (subst (λ (j : ℕ). get_elem? s.views j ≡ some v) z at) ∙ sym many)
            (λ i x _ here _ z. kept.seats x (subst (λ (j : ℕ). get_elem? s.views j ≡ some x) z here) ∙ sym many) 0 u there there refl;
        few = omega (arith, kept.few);
        fair = λ h lt. dite (ℕ_discrete h k)
            (λ e. subst (λ (j : ℕ). HintRule (fits hints.note (get_or hints.offsets.items j 0)) j (get_or (set s.words k n) j 0) after (set s.views id w)) (sym e)
            (subst (λ (m : ℕ). HintRule (fits hints.note (get_or hints.offsets.items k 0)) k m after (set s.views id w)) (sym (get_or-set_same s.words k n 0 (omega (arith, kept.wide)))) here))
            (λ d. subst (λ (m : ℕ). HintRule (fits hints.note (get_or hints.offsets.items h 0)) h m after (set s.views id w)) (sym (get_or-set_other s.words k h n 0 d))
            (elsewhere (fits hints.note (get_or hints.offsets.items h 0)) h (get_or s.words h 0) s.homes after s.views id v w (kept.fair h lt) at (same h d) (seen h d) (put h d) (others h d)));
      }
