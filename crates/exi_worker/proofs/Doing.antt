-- The loop of a worker: what stands after some hints were claimed and settled.
use Rattle.std.proofs.Common.{◌≡◌, ℕ, zero, suc, ◌+◌, ◌-◌, ◌≤◌, [], ◌∷◌, length, Result, Ok, Err, refl, sym, ap, subst, arith, ◌∙◌, length-append}
use Rattle.std.specs.Prelude.{⊤}
use Rattle.exi_board.specs.declared.view.SeatView.{SeatView}
use Rattle.exi_board.specs.declared.view.PostRecord.{PostRecord}
use Rattle.exi_board.specs.declared.view.ArrivalRecord.{ArrivalRecord}
use Rattle.exi_board.specs.Views.{IsNewlyClaimed, IsSettled, IsSettledBut, claiming, passing, passing_to, tried_by, with_given_up}
use Rattle.exi_board.proofs.Works.{claim_leaves, give_settles, loss_settles, none_leaves, post_settles}
use Rattle.exi_pool.specs.Passes.{dry_of}
use Rattle.exi_pool.specs.Views.{total}
use Rattle.exi_pool.specs.declared.pass.PoolPass.{PoolPass}
use Rattle.exi_tape.specs.Rolls.{times}
use Rattle.exi_worker.specs.declared.fate.Fate.{Fate}
use Rattle.exi_worker.specs.declared.fate.Fate.TheVariants as fate
use Rattle.exi_worker.specs.declared.fate.Loss.{Loss}
use Rattle.exi_worker.specs.declared.fate.Loss.TheVariants as loss
use Rattle.exi_worker.specs.declared.posting.Posting.{Posting}
use Rattle.exi_worker.specs.declared.worked.Worked.{Worked}
use Rattle.exi_worker.specs.Hands.{HasInHand, SettledAs, Settles, WasDry, Works, counted, given_up_in, received, sent, settled_in}
use Rattle.exi_worker.specs.Outcomes.{pages_in}
use Rattle.exi_worker.proofs.Pages.{moves_none, moves_then}

-- what was read is posted, in time or late; or it is given up
abbrev FateOf : Result Posting Loss → Fate → Type 0
FateOf (Ok p) fate.Posted = ⊤
FateOf (Ok p) fate.Late = ⊤
FateOf (Ok p) (fate.GivenUp l) = ⊥
FateOf (Err l) f = f ≡ fate.GivenUp l

one_more : (f : Fate) (k : Worked) → settled_in (counted f k) ≡ settled_in k + 1
one_more fate.Posted k = omega arith
one_more fate.Late k = omega arith
one_more (fate.GivenUp loss.Full) k = omega arith
one_more (fate.GivenUp loss.Memory) k = omega arith
one_more (fate.GivenUp loss.Outside) k = omega arith

dries : (r : Result Posting Loss) (f : Fate) (k : Worked) (p q : PoolPass) → FateOf r f → WasDry r p q → (counted f k).full + dry_of p ≤ k.full + dry_of q
dries (Ok p) fate.Posted k q r f d = omega (arith, d)
dries (Ok p) fate.Late k q r f d = omega (arith, d)
dries (Ok p) (fate.GivenUp l) k q r f d = absurd f
dries (Err loss.Full) f k q r is d = subst (λ (x : Fate). (counted x k).full + dry_of q ≤ k.full + dry_of r) (sym is) (omega (arith, d))
dries (Err loss.Memory) f k q r is d = subst (λ (x : Fate). (counted x k).full + dry_of q ≤ k.full + dry_of r) (sym is) (omega (arith, d))
dries (Err loss.Outside) f k q r is d = subst (λ (x : Fate). (counted x k).full + dry_of q ≤ k.full + dry_of r) (sym is) (omega (arith, d))

module _ {N : Type 0} where
  -- the lists of what was settled, and of arrivals, are as before
  pub record SameLists (v w : SeatView N) : Type 0 where
    pub posted : w.posted ≡ v.posted
    pub late : w.late ≡ v.late
    pub given_up : w.given_up ≡ v.given_up
    pub arrivals : w.arrivals ≡ v.arrivals

  passing_lists : (n : ℕ) (v : SeatView N) → SameLists v (passing n v)
  passing_lists zero v = record { posted = refl; late = refl; given_up = refl; arrivals = refl }
  passing_lists (suc n) v = let s = passing_lists n v in record { posted = s.posted; late = s.late; given_up = s.given_up; arrivals = s.arrivals }

  after_claim : (h : ℕ) (v w : SeatView N) → w ≡ claiming h v → SameLists v w
  after_claim h v w is = let s = passing_lists (h - tried_by v) v in record {
    posted = ap (λ x. x.posted) is ∙ s.posted;
    late = ap (λ x. x.late) is ∙ s.late;
    given_up = ap (λ x. x.given_up) is ∙ s.given_up;
    arrivals = ap (λ x. x.arrivals) is ∙ s.arrivals;
  }

  after_none : (n : ℕ) (v w : SeatView N) → w ≡ passing_to n v → SameLists v w
  after_none n v w is = let s = passing_lists (n - tried_by v) v in record {
    posted = ap (λ x. x.posted) is ∙ s.posted;
    late = ap (λ x. x.late) is ∙ s.late;
    given_up = ap (λ x. x.given_up) is ∙ s.given_up;
    arrivals = ap (λ x. x.arrivals) is ∙ s.arrivals;
  }

  pub starts : (v : SeatView N) (p : PoolPass) (k : Worked) → settled_in k ≡ 0 → Works v p v p k
  starts v p k none = record {
    settled = λ s. s;
    posted = omega (arith, none);
    late = omega (arith, none);
    given_up = omega (arith, none);
    full = omega (arith, none);
    pages = λ n. omega arith;
    moves = moves_none p;
    arrivals = refl;
  }

  sent_same : (n : ℕ) (v w : SeatView N) → SameLists v w → sent n w ≡ sent n v
  sent_same n v w s = ap (λ l. total (λ (r : PostRecord). times n r.pages) l) s.posted

  received_same : (n : ℕ) (v w : SeatView N) → SameLists v w → received n w ≡ received n v
  received_same n v w s = ap (λ l. total (λ (r : ArrivalRecord). times n r.pages) l) s.arrivals

  -- what one hint adds: m is the view after its claim, w after it was settled
  record Adds (h : ℕ) (m w : SeatView N) (k l : Worked) : Type 0 where
    posted : length w.posted + k.posted ≡ length m.posted + l.posted
    late : length w.late + k.late ≡ length m.late + l.late
    given_up : length w.given_up + given_up_in k ≡ length m.given_up + given_up_in l
    arrivals : w.arrivals ≡ m.arrivals
    tried : tried_by w ≡ tried_by m
    settled : IsSettledBut h m → IsSettled w

  adds_lost : (l : Loss) (h : ℕ) (m w : SeatView N) (k : Worked) → given_up_in (counted (fate.GivenUp l) k) ≡ given_up_in k + 1 → (counted (fate.GivenUp l) k).posted ≡ k.posted → (counted (fate.GivenUp l) k).late ≡ k.late → IsNewlyClaimed h m → w ≡ with_given_up h m → Adds h m w k (counted (fate.GivenUp l) k)
  adds_lost l h m w k one same other new is = record {
    posted = omega (arith, same, ap (λ x. length x.posted) is);
    late = omega (arith, other, ap (λ x. length x.late) is);
    given_up = omega (arith, one, ap (λ x. length x.given_up) is, length-append m.given_up (h ∷ []));
    arrivals = ap (λ x. x.arrivals) is;
    tried = ap (λ x. tried_by x) is;
    settled = λ but. give_settles h m w new but is;
  }

  adds_given_up : (l : Loss) (h : ℕ) (m w : SeatView N) (k : Worked) → IsNewlyClaimed h m → w ≡ with_given_up h m → Adds h m w k (counted (fate.GivenUp l) k)
  adds_given_up loss.Full h m w k new is = adds_lost loss.Full h m w k (omega arith) refl refl new is
  adds_given_up loss.Memory h m w k new is = adds_lost loss.Memory h m w k (omega arith) refl refl new is
  adds_given_up loss.Outside h m w k new is = adds_lost loss.Outside h m w k (omega arith) refl refl new is

  adds : (r : Result Posting Loss) (f : Fate) (h : ℕ) (m w : SeatView N) (k : Worked) → IsNewlyClaimed h m → SettledAs r f h m w → Adds h m w k (counted f k)
  adds (Ok p) fate.Posted h m w k new is = record {
    posted = omega (arith, ap (λ x. length x.posted) is, length-append m.posted (record { hint = h; pages = pages_in p } ∷ []));
    late = omega (arith, ap (λ x. length x.late) is);
    given_up = omega (arith, ap (λ x. length x.given_up) is);
    arrivals = ap (λ x. x.arrivals) is;
    tried = ap (λ x. tried_by x) is;
    settled = λ but. post_settles h (pages_in p) m w new but is;
  }
  adds (Ok p) fate.Late h m w k new is = record {
    posted = omega (arith, ap (λ x. length x.posted) is);
    late = omega (arith, ap (λ x. length x.late) is, length-append m.late (h ∷ []));
    given_up = omega (arith, ap (λ x. length x.given_up) is);
    arrivals = ap (λ x. x.arrivals) is;
    tried = ap (λ x. tried_by x) is;
    settled = λ but. loss_settles h m w new but is;
  }
  adds (Ok p) (fate.GivenUp l) h m w k new is = absurd is
  adds (Err l) f h m w k new is = subst (λ (x : Fate). Adds h m w k (counted x k)) (sym is.0) (adds_given_up l h m w k new is.1)

  fate_of : (r : Result Posting Loss) (f : Fate) (h : ℕ) (m w : SeatView N) → SettledAs r f h m w → FateOf r f
  fate_of (Ok p) fate.Posted h m w is = tt
  fate_of (Ok p) fate.Late h m w is = tt
  fate_of (Ok p) (fate.GivenUp l) h m w is = is
  fate_of (Err l) f h m w is = is.0

  module _ (v : SeatView N) (p : PoolPass) (w : SeatView N) (q : PoolPass) (k : Worked) where
    -- one more hint was claimed, read and settled
    pub goes : (read : Result Posting Loss) (f : Fate) (h : ℕ) (m x : SeatView N) (r s : PoolPass) → Works v p w q k → m ≡ claiming h w → IsNewlyClaimed h m → HasInHand q read r → WasDry read q r → SettledAs read f h m x → Settles read m r x s → dry_of s ≡ dry_of r → Works v p x s (counted f k)
    goes read f h m x r s d is new hand dry fate settles same =
        let l = after_claim h w m is in
        let a = adds read f h m x k new fate in
        record {
          settled = λ all. a.settled (claim_leaves h w m (d.settled all) is);
          posted = omega (arith, d.posted, a.posted, ap length l.posted);
          late = omega (arith, d.late, a.late, ap length l.late);
          given_up = omega (arith, d.given_up, a.given_up, ap length l.given_up);
          full = omega (arith, d.full, dries read f k q r (fate_of read f h m x fate) dry, same);
          pages = λ n. omega (arith, d.pages n, hand.pages n, settles.pages n, settles.received n, ap (times n) settles.takes, sent_same n w m l, received_same n w m l);
          moves = moves_then p q s d.moves (moves_then q r s hand.moves settles.moves);
          arrivals = a.arrivals ∙ l.arrivals ∙ d.arrivals;
        }

    pub few_more : (read : Result Posting Loss) (f : Fate) (h : ℕ) (m x : SeatView N) → settled_in k ≤ tried_by w → tried_by w ≤ h → tried_by m ≡ h + 1 → IsNewlyClaimed h m → SettledAs read f h m x → settled_in (counted f k) ≤ tried_by x
    few_more read f h m x few next tried new fate = let a = adds read f h m x k new fate in omega (arith, few, next, tried, a.tried, one_more f k)

    -- no hint is left
    pub ends : (n : ℕ) (m : SeatView N) → Works v p w q k → m ≡ passing_to n w → Works v p m q k
    ends n m d is =
        let l = after_none n w m is in
        record {
          settled = λ all. none_leaves n w m (d.settled all) is;
          posted = omega (arith, d.posted, ap length l.posted);
          late = omega (arith, d.late, ap length l.late);
          given_up = omega (arith, d.given_up, ap length l.given_up);
          full = d.full;
          pages = λ i. omega (arith, d.pages i, sent_same i w m l, received_same i w m l);
          moves = d.moves;
          arrivals = l.arrivals ∙ d.arrivals;
        }
