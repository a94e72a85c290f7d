-- The rule of a board, between any two steps of any threads.
-- The word of a hint is 0 free, 1 posted, 2 spent, 3 + s claimed by seat s. A home is a hint's slot: `some` what is in it while no seat has it.
use Rattle.std.specs.Prelude.{◌≡◌, ◌≢◌, ◌⊎◌, ℕ, suc, ◌+◌, ◌<◌, ◌≤◌, List, length, slice_index, Option, Some, None}
use mathlib.Core.Option.{some, Option as Maybe}
use lib.ListN.{get_elem?}
use Rattle.atomic_table.specs.Table.{State}
use Rattle.exi_board.specs.declared.view.SeatView.{SeatView}
use Rattle.exi_board.specs.declared.view.Hints.{Hints}
use Rattle.exi_board.specs.Views.{total, one_if, claims, settles, posts, finds, spends, mentions, IsUnsettled}

-- the word w is that of a claim by seat i, or it is 2 and exactly one arrival found that of the claim
abbrev pub IsClaimedOrMet : ℕ → ℕ → ℕ → Type 0
IsClaimedOrMet w i found = (w ≡ 3 + i) ⊎ ((w ≡ 2) × (found ≡ 1))

-- the rule of one hint h, whose word is w, and under which postings may stand of which `fits` holds
pub record HintRule {P N : Type 0} (fits : P → Type 0) (h w : ℕ) (homes : List (Maybe (Option P))) (views : List (SeatView N)) : Type 0 where
  -- a free hint stands in no list of any seat, and its slot is empty
  pub free : w ≡ 0 → total (mentions h) views ≡ 0
  pub vacant : w ≡ 0 → get_elem? homes h ≡ some (some None)
  -- at most one seat has claimed it, once, and settles it at most once
  pub once : total (claims h) views ≤ 1
  pub settled : (i : ℕ) (v : SeatView N) → get_elem? views i ≡ some v → settles h v ≤ claims h v
  -- once it was posted late, given up or arrived at, its word is 2
  pub early : w ≢ 2 → total (spends h) views ≡ 0
  -- it was posted as often as an arrival found it posted, and once more while its word is 1
  pub posted : total (posts h) views ≡ total (finds h 1) views + one_if 1 w
  -- the seat of which its word says that it claimed it did, and has not settled it
  pub holder : (s : ℕ) → w ≡ 3 + s → (v : SeatView N) × (get_elem? views s ≡ some v) × IsUnsettled h v
  -- while a seat has not settled it, its word is that of the claim, or 2 after exactly one arrival that found that of the claim
  pub unsettled : (i : ℕ) (v : SeatView N) → get_elem? views i ≡ some v → IsUnsettled h v → IsClaimedOrMet w i (total (finds h (3 + i)) views)
  -- while its word is 1, its slot holds a posting that fits
  pub shelved : w ≡ 1 → (p : P) × (get_elem? homes h ≡ some (some (Some p))) × fits p
  -- while a seat has not settled it and does not have its slot, the slot is empty
  pub empty : (i : ℕ) (v : SeatView N) → get_elem? views i ≡ some v → IsUnsettled h v → v.putting ≢ suc h → get_elem? homes h ≡ some (some None)

-- the rule of a board
pub record BoardRule {P N : Type 0} (fits : N → ℕ → P → Type 0) (hints : Hints N) (s : State (Option P) (SeatView N)) : Type 0 where
  -- each hint has a word
  pub wide : length hints.offsets.items ≤ length s.words
  -- seats are numbered in the order in which they were made, and know the hints
  pub numbered : (i : ℕ) (v : SeatView N) → get_elem? s.views i ≡ some v → (v.number ≡ i) × (v.hints ≡ hints)
  -- seat 0 knows how many seats there are
  pub seats : (v : SeatView N) → get_elem? s.views 0 ≡ some v → v.seats ≡ length s.views
  pub few : length s.views ≤ 4294967296
  -- and each hint has its rule
  pub fair : (h : ℕ) → h < length hints.offsets.items → HintRule (fits hints.note (slice_index hints.offsets.items h)) h (slice_index s.words h) s.homes s.views
