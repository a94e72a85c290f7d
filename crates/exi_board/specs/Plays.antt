-- The kinds of step on a board's words: what each says of the step, the seat before, the word found and the seat after.
use Rattle.std.specs.Prelude.{◌≡◌, ◌≢◌, ℕ, ◌<◌, List, [], ◌∷◌, slice_index, Option, Some, None}
use Rattle.atomic_table.specs.Table.{Me, Step, rest}
use Rattle.exi_board.specs.declared.view.SeatView.{SeatView}
use Rattle.exi_board.specs.Views.{mentions, with_claimed, with_not_free, with_putting, with_posted, with_late, with_given_up, with_arrival}

-- a seat: its view, and the slots that it has, the last that it took first
abbrev pub Seated : Type 0 → Type 0 → Type 0
Seated P N = Me (Option P) (SeatView N)

abbrev pub StepFact : Type 0 → Type 0 → Type 1
StepFact P N = Step (Option P) → Seated P N → ℕ → Seated P N → Type 0

-- the pages of what a slot holds
abbrev pub pages_of : {P : Type 0} → (P → List ℕ) → Option P → List ℕ
pages_of pages None = []
pages_of pages (Some p) = pages p

-- the pages of what lies in the slot taken last
abbrev pub held : {P : Type 0} → (P → List ℕ) → List (ℕ × Option P) → List ℕ
held pages [] = []
held pages (x ∷ xs) = pages_of pages x.1

-- a hint was found free, which stood in no list of the seat, and is claimed; or it was seen not free
abbrev pub Claims : {P N : Type 0} → StepFact P N
Claims st m r n = (r ≡ 0 → (n ≡ (with_claimed st.word m.0, m.1)) × (mentions st.word m.0 ≡ 0)) × (r ≢ 0 → n ≡ (with_not_free st.word m.0, m.1))

-- the seat has the slot of a hint, which is empty
abbrev pub TakesOut : {P N : Type 0} → StepFact P N
TakesOut st m r n = n ≡ (with_putting st.word m.0, (st.word, None) ∷ m.1)

-- the word was that of the claim, the hint is posted, and the slot is no longer the seat's; or the word was 2, and the posting is late
abbrev pub Posts : {P N : Type 0} → (P → List ℕ) → StepFact P N
Posts pages st m r n = (r ≡ st.first → n ≡ (with_posted st.word (held pages m.1) m.0, rest m.1)) × (r ≢ st.first → (r ≡ 2) × (n ≡ (with_late st.word m.0, m.1)))

-- a hint was given up
abbrev pub GivesUp : {P N : Type 0} → StepFact P N
GivesUp st m r n = n ≡ (with_given_up st.word m.0, m.1)

-- an arrival at h found 1: the seat has its slot, and in it a posting that fits
abbrev pub TookOne : {P N : Type 0} → (N → ℕ → P → Type 0) → (P → List ℕ) → ℕ → Seated P N → Seated P N → Type 0
TookOne {P} fits pages h m n = (p : P) × (n ≡ (with_arrival h 1 (pages p) m.0, (h, Some p) ∷ m.1)) × fits m.0.hints.note (slice_index m.0.hints.offsets.items h) p

-- an arrival; a seat's number is below 2^32
abbrev pub Arrives : {P N : Type 0} → (N → ℕ → P → Type 0) → (P → List ℕ) → StepFact P N
Arrives fits pages st m r n =
    (r ≡ 1 → TookOne fits pages st.word m n)
    × (r ≢ 1 → n ≡ (with_arrival st.word r [] m.0, m.1))
    × (r < 4294967299)
