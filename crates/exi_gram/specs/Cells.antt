-- Codes as cells: how a compiled table keeps them.
use Rattle.std.specs.Prelude.{◌≡◌, ℕ, zero, suc, ◌+◌, ◌-◌, ◌^◌, ◌<◌, ◌≤◌, ◌⊎◌, Bool, true, false, Option, Some, None, List, [], ◌∷◌, ◌++◌, All, drop, length, map, get_or, slice_get}
use Rattle.exi_bits.specs.declared.align.Align.{Align}
use Rattle.exi_bits.specs.Bits.{Spot}
use Rattle.exi_gram.specs.declared.cell.Branch.{Branch}
use Rattle.exi_gram.specs.declared.cell.Cell.{Cell}
use Rattle.exi_gram.specs.declared.cell.Cell.TheVariants as cell
use Rattle.exi_gram.specs.declared.front.Front.{Front}
use Rattle.exi_gram.specs.declared.front.Front.TheVariants as front
use Rattle.exi_gram.specs.declared.code.Code.{Code}
use Rattle.exi_gram.specs.Codes.{Coded, code_bits, values_of}
use Rattle.exi_gram.specs.CodeTrees.{behind, chosen_at, counted, ended, parts_in, place_read}
use Rattle.exi_gram.specs.Tables.{parts_of}

-- the parts before the next, and how many may follow
abbrev pub front_parts : Front → List ℕ
front_parts front.Empty = []
front_parts (front.First first) = first ∷ []
front_parts (front.Second first second) = first ∷ second ∷ []

abbrev pub parts_left : Front → ℕ
parts_left front.Empty = 3
parts_left (front.First first) = 2
parts_left (front.Second first second) = 1

-- of what is left of a code, its next part, and whether that is the last
abbrev pub next_part : Option (List ℕ) → Option (ℕ × Bool)
next_part None = None
next_part (Some []) = None
next_part (Some (part ∷ [])) = Some (part, true)
next_part (Some (part ∷ other ∷ parts)) = Some (part, false)

-- the parts of codes, one after another
abbrev pub all_parts : List Code → List (List ℕ)
all_parts codes = map parts_of codes

-- the codes that begin with these parts, each with its place
abbrev pub behind_front : Front → List Code → List (Coded ℕ)
behind_front front codes = behind (front_parts front) (counted 0 (all_parts codes))

abbrev pub cell_at : List Cell → ℕ → Cell
cell_at cells place = get_or cells place (cell.Leaf 0)

-- the place of a code that ends at a cell
abbrev pub leaf_of : Cell → Option ℕ
leaf_of (cell.Leaf place) = Some place
leaf_of (cell.Branch branch) = None

-- The cell stands for these codes, of so many parts at most: it tells the place of one that has ended, or its branches
-- stand side by side, each for the codes that go on with its part. None of them stands before a place.
abbrev pub CellStands : List Cell → ℕ → ℕ → Cell → List (Coded ℕ) → Type 0
CellStands cells low more (cell.Leaf place) cs = cs ≡ record { parts = []; item = place } ∷ []
CellStands cells low zero (cell.Branch branch) cs = ⊥
CellStands cells low (suc more) (cell.Branch branch) cs = (ended cs ≡ None) × (values_of (parts_in cs) ≡ branch.count) × (low ≤ branch.begin) × (branch.begin + branch.count ≤ length cells) × ((part : ℕ) → part < branch.count → CellStands cells low more (cell_at cells (branch.begin + part)) (behind (part ∷ []) cs))

-- the codes are a tree of so many parts at most: one that has ended stands alone, and where none has ended, what goes on
-- with each value of the next part is a tree again
abbrev pub IsTree : ℕ → List (Coded ℕ) → Type 0
IsTree zero cs = (place : ℕ) × (cs ≡ record { parts = []; item = place } ∷ [])
IsTree (suc more) cs = ((place : ℕ) × (cs ≡ record { parts = []; item = place } ∷ [])) ⊎ ((ended cs ≡ None) × ((part : ℕ) → part < values_of (parts_in cs) → IsTree more (behind (part ∷ []) cs)))

-- none of the codes has ended, and what goes on with each value of the next part is a tree
abbrev pub Branches : ℕ → List (Coded ℕ) → Type 0
Branches zero cs = ⊥
Branches (suc more) cs = (ended cs ≡ None) × ((part : ℕ) → part < values_of (parts_in cs) → IsTree more (behind (part ∷ []) cs))

-- more cells, and those that were there
pub record Kept (old new : List Cell) : Type 0 where
  pub more : length old ≤ length new
  pub same : (place : ℕ) → place < length old → cell_at new place ≡ cell_at old place

-- from a place on each cell tells what has ended with its part
abbrev pub TellsEnds : List Cell → ℕ → ℕ → List (Coded ℕ) → Type 0
TellsEnds cells begin count cs = (part : ℕ) → part < count → leaf_of (cell_at cells (begin + part)) ≡ ended (behind (part ∷ []) cs)

-- Of the cells of a row, which stand at the end of others, so many stand for their codes, and the others tell what has
-- ended with their part; what they lead to stands behind the row
pub record RowStands (cells others : List Cell) (row : Branch) (count more : ℕ) (cs : List (Coded ℕ)) : Type 0 where
  pub kept : length others ≤ length cells
  pub before : (place : ℕ) → place < row.begin → cell_at cells place ≡ cell_at others place
  pub stands : (part : ℕ) → part < count → CellStands cells (row.begin + row.count) (more - 1) (cell_at cells (row.begin + part)) (behind (part ∷ []) cs)
  pub ends : (part : ℕ) → count ≤ part → part < row.count → leaf_of (cell_at cells (row.begin + part)) ≡ ended (behind (part ∷ []) cs)
  pub few : length cells < 2 ^ 32

-- so many parts of a code were read, and what they leave goes on at a cell
pub record Walked (a : Align) (cells : List Cell) (codes : List (List ℕ)) (at : Cell) (count : ℕ) (first now : Spot) : Type 0 where
  pub left : List (Coded ℕ)
  pub stands : CellStands cells 0 (3 - count) at left
  pub reads : place_read a codes first ≡ chosen_at (3 - count) a left now
  pub below : All (λ c. c.item < length codes) left

-- So many parts of a code were written. What they leave goes on at a row, or the code has ended; it is among the codes
-- that go on so, and what was added is the front of the code's bits.
pub record Writing (a : Align) (cells : List Cell) (codes : List (List ℕ)) (parts : List ℕ) (row : Branch) (count : ℕ) (before now : List Bool) : Type 0 where
  pub left : List (Coded ℕ)
  pub at : Cell
  pub stands : CellStands cells 0 (3 - count) at left
  pub goes_on : (at ≡ cell.Branch row) ⊎ (drop count parts ≡ [])
  pub place : ℕ
  pub index : ℕ
  pub among : slice_get left index ≡ Some (record { parts = drop count parts; item = place })
  pub written : List Bool
  pub so_far : now ≡ before ++ written
  pub whole : code_bits a codes parts ≡ written ++ code_bits a (parts_in left) (drop count parts)
