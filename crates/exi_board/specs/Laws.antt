-- What the rule of a board says over all its seats.
use Rattle.std.specs.Prelude.{◌≡◌, ◌⊎◌, ℕ, ◌+◌, ◌<◌, ◌≤◌, length, slice_index, Option, Some}
use mathlib.Core.Option.{some}
use lib.ListN.{get_elem?}
use Rattle.atomic_table.specs.Table.{State}
use Rattle.exi_board.specs.declared.view.SeatView.{SeatView}
use Rattle.exi_board.specs.declared.view.Hints.{Hints}
use Rattle.exi_board.specs.Views.{total, claims, posts, settles, finds, spends, mentions, IsUnsettled}
use Rattle.exi_board.specs.Rule.{IsClaimedOrMet, BoardRule}

-- this seat has this view
abbrev pub Has : {P N : Type 0} → State (Option P) (SeatView N) → ℕ → SeatView N → Type 0
Has s i v = get_elem? s.views i ≡ some v

-- the word of a hint
abbrev pub word_of : {P N : Type 0} → State (Option P) (SeatView N) → ℕ → ℕ
word_of s h = slice_index s.words h

-- two seats have two numbers, and each number is below the count of seats, which seat 0 knows
abbrev pub SeatsDiffer : {P N : Type 0} → (N → ℕ → P → Type 0) → Type 0
SeatsDiffer {P} {N} fits = (hints : Hints N) (s : State (Option P) (SeatView N)) → BoardRule fits hints s
    → (i j : ℕ) (v w : SeatView N) → Has s i v → Has s j w → v.number ≡ w.number → i ≡ j

abbrev pub SeatsAreCounted : {P N : Type 0} → (N → ℕ → P → Type 0) → Type 0
SeatsAreCounted {P} {N} fits = (hints : Hints N) (s : State (Option P) (SeatView N)) → BoardRule fits hints s
    → (i : ℕ) (v first : SeatView N) → Has s i v → Has s 0 first → v.number < first.seats

-- a fact of each hint of a board that keeps its rule
abbrev pub OfEachHint : {P N : Type 0} → (N → ℕ → P → Type 0) → (Hints N → State (Option P) (SeatView N) → ℕ → Type 0) → Type 0
OfEachHint {P} {N} fits fact = (hints : Hints N) (s : State (Option P) (SeatView N)) → BoardRule fits hints s → (h : ℕ) → h < length hints.offsets.items → fact hints s h

-- a hint whose word is 0 stands in no list of any seat
abbrev pub FreeIsUntouched : {P N : Type 0} → (N → ℕ → P → Type 0) → Type 0
FreeIsUntouched {P} {N} fits = OfEachHint fits (λ hints s h. word_of s h ≡ 0 → (i : ℕ) (v : SeatView N) → Has s i v → mentions h v ≡ 0)

-- a hint stands in the claimed list of at most one seat, once, and in at most one of that seat's lists of posted, late and given up
abbrev pub OneClaimant : {P N : Type 0} → (N → ℕ → P → Type 0) → Type 0
OneClaimant {P} {N} fits = OfEachHint fits (λ hints s h. (i j : ℕ) (v w : SeatView N) → Has s i v → Has s j w → 0 < claims h v → 0 < claims h w → i ≡ j)

abbrev pub ClaimedOnce : {P N : Type 0} → (N → ℕ → P → Type 0) → Type 0
ClaimedOnce {P} {N} fits = OfEachHint fits (λ hints s h. (i : ℕ) (v : SeatView N) → Has s i v → (claims h v ≤ 1) × (settles h v ≤ claims h v))

-- a hint that a seat posted late, gave up or arrived at has the word 2
abbrev pub SpentIsTwo : {P N : Type 0} → (N → ℕ → P → Type 0) → Type 0
SpentIsTwo {P} {N} fits = OfEachHint fits (λ hints s h. (i : ℕ) (v : SeatView N) → Has s i v → 0 < spends h v → word_of s h ≡ 2)

-- a hint that was posted has the word 1, or the word 2 after exactly one arrival that found 1
abbrev pub PostedWord : {P N : Type 0} → (N → ℕ → P → Type 0) → Type 0
PostedWord {P} {N} fits = OfEachHint fits (λ hints s h. (i : ℕ) (v : SeatView N) → Has s i v → 0 < posts h v → (word_of s h ≡ 1) ⊎ ((word_of s h ≡ 2) × (total (finds h 1) s.views ≡ 1)))

-- a word 3 + s is that of a hint which seat s has claimed and not settled
abbrev pub ClaimedWord : {P N : Type 0} → (N → ℕ → P → Type 0) → Type 0
ClaimedWord {P} {N} fits = OfEachHint fits (λ hints s h. (i : ℕ) → word_of s h ≡ 3 + i → (v : SeatView N) × Has s i v × IsUnsettled h v)

-- a hint that seat s has claimed and not settled has the word 3 + s, or the word 2 after exactly one arrival that found 3 + s
abbrev pub UnsettledWord : {P N : Type 0} → (N → ℕ → P → Type 0) → Type 0
UnsettledWord {P} {N} fits = OfEachHint fits (λ hints s h. (i : ℕ) (v : SeatView N) → Has s i v → IsUnsettled h v → IsClaimedOrMet (word_of s h) v.number (total (finds h (3 + v.number)) s.views))

-- where the word is 1, a seat claimed the hint and posted it, and its slot holds a posting that fits its offset
abbrev pub PostedByClaimant : {P N : Type 0} → (N → ℕ → P → Type 0) → Type 0
PostedByClaimant {P} {N} fits = OfEachHint fits (λ hints s h. word_of s h ≡ 1 → (i : ℕ) × (v : SeatView N) × Has s i v × (0 < claims h v) × (0 < posts h v))

abbrev pub PostedIsHeld : {P N : Type 0} → (N → ℕ → P → Type 0) → Type 0
PostedIsHeld {P} {N} fits = OfEachHint fits (λ hints s h. word_of s h ≡ 1 → (p : P) × (get_elem? s.homes h ≡ some (some (Some p))) × fits hints.note (slice_index hints.offsets.items h) p)

-- over all seats at most one arrival at a hint finds 1
abbrev pub FoundOnce : {P N : Type 0} → (N → ℕ → P → Type 0) → Type 0
FoundOnce {P} {N} fits = OfEachHint fits (λ hints s h. total (finds h 1) s.views ≤ 1)
