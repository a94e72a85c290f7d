-- The pages of one hint: those that were taken for it are sent with its posting, or given back.
use Rattle.std.proofs.Common.{◌≡◌, ℕ, ◌+◌, [], ◌∷◌, Ok, Err, refl, ap, arith, ◌∙◌}
use Rattle.exi_board.specs.declared.view.SeatView.{SeatView}
use Rattle.exi_board.specs.declared.view.PostRecord.{PostRecord}
use Rattle.exi_board.specs.Views.{with_given_up, with_late, with_posted}
use Rattle.exi_pool.specs.Passes.{view_of}
use Rattle.exi_pool.specs.Views.{SameStart, gives}
use Rattle.exi_pool.specs.declared.pass.PoolPass.{PoolPass}
use Rattle.exi_pool.proofs.Sums.{total-append}
use Rattle.exi_tape.specs.Lists.{pages_of}
use Rattle.exi_tape.specs.Rolls.{times}
use Rattle.exi_tape.specs.declared.tape.Tape.{Tape}
use Rattle.exi_worker.specs.declared.fate.Loss.{Loss}
use Rattle.exi_worker.specs.declared.posting.Posting.{Posting}
use Rattle.exi_worker.specs.Hands.{HasInHand, HasTaken, OnlyMoves, Settles, received, sent}
use Rattle.exi_worker.specs.Outcomes.{pages_in}

pub moves_none : (p : PoolPass) → OnlyMoves p p
moves_none p = (refl, refl, refl)

pub moves_then : (p q r : PoolPass) → OnlyMoves p q → OnlyMoves q r → OnlyMoves p r
moves_then p q r a b = (b.0 ∙ a.0, b.1 ∙ a.1, b.2 ∙ a.2)

-- ---- reading
-- nothing was taken
pub hand_none : (l : Loss) (p : PoolPass) → HasInHand p (Err l) p
hand_none l p = record { pages = λ n. omega arith; moves = moves_none p }

-- pages were taken for a tape, which is in hand
pub hand_taken : (p : Posting) (old new : PoolPass) → HasTaken old p.tape new → HasInHand old (Ok p) new
hand_taken p old new t = record { pages = λ n. omega (arith, t.pages n, ap (times n) t.gives); moves = t.moves }

-- pages were taken for a tape, and given back
pub hand_given : (l : Loss) (t : Tape) (old mid new : PoolPass) → HasTaken old t mid → ((n : ℕ) → gives n (view_of new) ≡ gives n (view_of mid) + times n (pages_of t)) → (view_of new).takes ≡ (view_of mid).takes → SameStart (view_of mid) (view_of new) → HasInHand old (Err l) new
hand_given l t old mid new taken gave took start = record {
  pages = λ n. omega (arith, taken.pages n, ap (times n) taken.gives, gave n, ap (times n) took);
  moves = moves_then old mid new taken.moves start;
}

-- ---- settling
module _ {N : Type 0} (h : ℕ) (v w : SeatView N) where
  -- a posting was sent
  pub settles_sent : (p : Posting) (q : PoolPass) → w ≡ with_posted h (pages_in p) v → Settles (Ok p) v q w q
  settles_sent p q is = record {
    pages = λ n. omega (arith, ap (sent n) is, total-append (λ (r : PostRecord). times n r.pages) v.posted (record { hint = h; pages = pages_in p } ∷ []));
    received = λ n. ap (received n) is;
    takes = refl;
    moves = moves_none q;
  }

  -- it came too late, and its pages went back
  pub settles_late : (p back : Posting) (old new : PoolPass) → w ≡ with_late h v → back ≡ p → ((n : ℕ) → gives n (view_of new) ≡ gives n (view_of old) + times n (pages_of back.tape)) → (view_of new).takes ≡ (view_of old).takes → SameStart (view_of old) (view_of new) → Settles (Ok p) v old w new
  settles_late p back old new is same gave took start = record {
    pages = λ n. omega (arith, ap (sent n) is, gave n, ap (λ (u : Posting). times n (pages_in u)) same);
    received = λ n. ap (received n) is;
    takes = took;
    moves = start;
  }

  -- the hint was given up
  pub settles_lost : (l : Loss) (q : PoolPass) → w ≡ with_given_up h v → Settles (Err l) v q w q
  settles_lost l q is = record {
    pages = λ n. omega (arith, ap (sent n) is);
    received = λ n. ap (received n) is;
    takes = refl;
    moves = moves_none q;
  }
