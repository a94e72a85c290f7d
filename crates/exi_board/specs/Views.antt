-- The view of a seat: how a step changes it, and how often a hint stands in its lists.
use Rattle.std.specs.Prelude.{◌≡◌, ◌≢◌, ℕ, zero, suc, ◌+◌, ◌-◌, ◌<◌, Bool, true, false, List, [], ◌∷◌, ◌++◌, length, cond, ◌==◌}
use Rattle.exi_board.specs.declared.view.SeatView.{SeatView}
use Rattle.exi_board.specs.declared.view.Hints.{Hints}
use Rattle.exi_board.specs.declared.view.PostRecord.{PostRecord}
use Rattle.exi_board.specs.declared.view.ArrivalRecord.{ArrivalRecord}

-- the sum of f over a list
abbrev pub total : {A : Type 0} → (A → ℕ) → List A → ℕ
total f [] = 0
total f (x ∷ xs) = f x + total f xs

-- the sum of f over the numbers below n
abbrev pub below : (ℕ → ℕ) → ℕ → ℕ
below f zero = 0
below f (suc n) = below f n + f n

-- 1 where x is h, else 0
abbrev pub one_if : ℕ → ℕ → ℕ
one_if h x = cond (x == h) 1 0

abbrev view : {N : Type 0} → Hints N → ℕ → ℕ → ℕ → List ℕ → List ℕ → List PostRecord → List ℕ → List ℕ → List ArrivalRecord → SeatView N
view hints number seats putting claimed not_free posted late given_up arrivals = record { hints = hints; number = number; seats = seats; putting = putting; claimed = claimed; not_free = not_free; posted = posted; late = late; given_up = given_up; arrivals = arrivals }

-- the view of a seat that has done nothing
abbrev pub new_view : {N : Type 0} → Hints N → ℕ → ℕ → SeatView N
new_view hints number seats = view hints number seats 0 [] [] [] [] [] []

-- the views of the seats 1 to n, in order
abbrev pub later_views : {N : Type 0} → Hints N → ℕ → List (SeatView N)
later_views hints zero = []
later_views hints (suc n) = later_views hints n ++ new_view hints (suc n) 0 ∷ []

-- the views of all seats of a new board, in order; seat 0 knows how many there are
abbrev pub new_views : {N : Type 0} → Hints N → ℕ → List (SeatView N)
new_views hints seats = new_view hints 0 seats ∷ later_views hints (seats - 1)

-- seat 0, after the number of seats became n
abbrev pub with_seats : {N : Type 0} → ℕ → SeatView N → SeatView N
with_seats n v = view v.hints v.number n v.putting v.claimed v.not_free v.posted v.late v.given_up v.arrivals

-- after the seat claimed h
abbrev pub with_claimed : {N : Type 0} → ℕ → SeatView N → SeatView N
with_claimed h v = view v.hints v.number v.seats v.putting (v.claimed ++ h ∷ []) v.not_free v.posted v.late v.given_up v.arrivals

-- after the seat saw h not free
abbrev pub with_not_free : {N : Type 0} → ℕ → SeatView N → SeatView N
with_not_free h v = view v.hints v.number v.seats v.putting v.claimed (v.not_free ++ h ∷ []) v.posted v.late v.given_up v.arrivals

-- while the seat posts h and has its slot
abbrev pub with_putting : {N : Type 0} → ℕ → SeatView N → SeatView N
with_putting h v = view v.hints v.number v.seats (suc h) v.claimed v.not_free v.posted v.late v.given_up v.arrivals

-- after the seat posted h, with a posting that carries these pages
abbrev pub with_posted : {N : Type 0} → ℕ → List ℕ → SeatView N → SeatView N
with_posted h pages v = view v.hints v.number v.seats 0 v.claimed v.not_free (v.posted ++ record { hint = h; pages = pages } ∷ []) v.late v.given_up v.arrivals

-- after the seat posted h late
abbrev pub with_late : {N : Type 0} → ℕ → SeatView N → SeatView N
with_late h v = view v.hints v.number v.seats 0 v.claimed v.not_free v.posted (v.late ++ h ∷ []) v.given_up v.arrivals

-- after the seat gave h up
abbrev pub with_given_up : {N : Type 0} → ℕ → SeatView N → SeatView N
with_given_up h v = view v.hints v.number v.seats v.putting v.claimed v.not_free v.posted v.late (v.given_up ++ h ∷ []) v.arrivals

-- after the seat arrived at h, found this word, and took a posting that carries these pages
abbrev pub with_arrival : {N : Type 0} → ℕ → ℕ → List ℕ → SeatView N → SeatView N
with_arrival h found pages v = view v.hints v.number v.seats v.putting v.claimed v.not_free v.posted v.late v.given_up (v.arrivals ++ record { hint = h; found = found; pages = pages } ∷ [])

-- how many hints the seat has tried to claim: it has tried exactly those below this number
abbrev pub tried_by : {N : Type 0} → SeatView N → ℕ
tried_by v = length v.claimed + length v.not_free

-- after the seat saw the next n hints not free, in order
abbrev pub passing : {N : Type 0} → ℕ → SeatView N → SeatView N
passing zero v = v
passing (suc n) v = with_not_free (tried_by v + n) (passing n v)

-- after the seat saw each hint below n that it had not tried not free, in order
abbrev pub passing_to : {N : Type 0} → ℕ → SeatView N → SeatView N
passing_to n v = passing (n - tried_by v) v

-- after the seat passed over the hints below h, and claimed h
abbrev pub claiming : {N : Type 0} → ℕ → SeatView N → SeatView N
claiming h v = with_claimed h (passing_to h v)

-- after one try of the hint h, which claimed it or saw it not free
abbrev pub IsTry : {N : Type 0} → ℕ → SeatView N → Bool → SeatView N → Type 0
IsTry h v true w = w ≡ with_claimed h v
IsTry h v false w = w ≡ with_not_free h v

-- how often the hint h stands in each list
abbrev pub claims : {N : Type 0} → ℕ → SeatView N → ℕ
claims h v = total (one_if h) v.claimed

abbrev pub sees : {N : Type 0} → ℕ → SeatView N → ℕ
sees h v = total (one_if h) v.not_free

abbrev pub posts : {N : Type 0} → ℕ → SeatView N → ℕ
posts h v = total (λ (s : PostRecord). one_if h s.hint) v.posted

abbrev pub posts_late : {N : Type 0} → ℕ → SeatView N → ℕ
posts_late h v = total (one_if h) v.late

abbrev pub gives_up : {N : Type 0} → ℕ → SeatView N → ℕ
gives_up h v = total (one_if h) v.given_up

abbrev pub arrives : {N : Type 0} → ℕ → SeatView N → ℕ
arrives h v = total (λ (c : ArrivalRecord). one_if h c.hint) v.arrivals

-- how many arrivals at h found the word n
abbrev pub finds : {N : Type 0} → ℕ → ℕ → SeatView N → ℕ
finds h n v = total (λ (c : ArrivalRecord). cond (c.hint == h) (one_if n c.found) 0) v.arrivals

-- how often the seat settled h: posted it, posted it late or gave it up
abbrev pub settles : {N : Type 0} → ℕ → SeatView N → ℕ
settles h v = posts h v + posts_late h v + gives_up h v

-- how often the seat did to h what leaves the word 2
abbrev pub spends : {N : Type 0} → ℕ → SeatView N → ℕ
spends h v = posts_late h v + gives_up h v + arrives h v

-- how often h stands in any list
abbrev pub mentions : {N : Type 0} → ℕ → SeatView N → ℕ
mentions h v = claims h v + sees h v + settles h v + arrives h v

-- the seat has claimed h and has not settled it
abbrev pub IsUnsettled : {N : Type 0} → ℕ → SeatView N → Type 0
IsUnsettled h v = settles h v < claims h v

-- the seat has claimed h once, and settled nothing of it
abbrev pub IsNewlyClaimed : {N : Type 0} → ℕ → SeatView N → Type 0
IsNewlyClaimed h v = (claims h v ≡ 1) × (settles h v ≡ 0)

-- the seat has tried h once: it claimed it or saw it not free
abbrev pub HasTried : {N : Type 0} → ℕ → SeatView N → Type 0
HasTried h v = claims h v + sees h v ≡ 1

abbrev pub HasNotTried : {N : Type 0} → ℕ → SeatView N → Type 0
HasNotTried h v = claims h v + sees h v ≡ 0

-- what was not settled still is not
abbrev pub StaysUnsettled : {N : Type 0} → SeatView N → SeatView N → Type 0
StaysUnsettled v w = (h : ℕ) → IsUnsettled h v → IsUnsettled h w

-- the seat has settled each hint that it claimed
abbrev pub IsSettled : {N : Type 0} → SeatView N → Type 0
IsSettled v = (h : ℕ) → settles h v ≡ claims h v

-- the same of each hint but h
abbrev pub IsSettledBut : {N : Type 0} → ℕ → SeatView N → Type 0
IsSettledBut h v = (g : ℕ) → g ≢ h → settles g v ≡ claims g v
