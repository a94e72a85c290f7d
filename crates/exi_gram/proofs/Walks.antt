-- A code is read cell by cell.
use Rattle.std.proofs.Common.{◌≡◌, ℕ, zero, suc, ◌+◌, ◌-◌, ◌<◌, ◌≤◌, List, [], ◌∷◌, length, Option, Some, None, Ok, Err, refl, ap, ◌∙◌, subst, All, arith}
use Rattle.exi_bits.specs.declared.align.Align.{Align}
use Rattle.exi_bits.specs.declared.fault.Fault.{Fault}
use Rattle.exi_bits.specs.Bits.{Spot}
use Rattle.exi_gram.specs.declared.cell.Branch.{Branch}
use Rattle.exi_gram.specs.declared.cell.Cell.{Cell}
use Rattle.exi_gram.specs.declared.cell.Cell.TheVariants as cell
use Rattle.exi_gram.specs.Codes.{Coded, part_at, values_of}
use Rattle.exi_gram.specs.CodeTrees.{along, behind, chosen_at, counted, ended, left_with, parts_in, place_read}
use Rattle.exi_gram.specs.Cells.{CellStands, Walked, cell_at}

-- ---- the places of codes
counted_below : (place : ℕ) (codes : List (List ℕ)) (most : ℕ) → place + length codes ≤ most → All (λ c. c.item < most) (counted place codes)
counted_below place [] most le = λ i d less. absurd (omega (arith, less))
counted_below place (code ∷ codes) most le = by (counted_below (suc place) codes most (omega (arith, le)))
  where
    by : All (λ c. c.item < most) (counted (suc place) codes) → All (λ c. c.item < most) (record { parts = code; item = place } ∷ counted (suc place) codes)
    by h zero d less = omega (arith, le)
    by h (suc i) d less = h i d (omega (arith, less))

behind_below : (part most : ℕ) (cs : List (Coded ℕ)) → All (λ c. c.item < most) cs → All (λ c. c.item < most) (behind (part ∷ []) cs)
behind_below part most [] h = h
behind_below part most (c ∷ cs) h = by (along (part ∷ []) c.parts) (behind_below part most cs (λ i d less. h (suc i) d (omega (arith, less))))
  where
    more : (parts : List ℕ) → All (λ c. c.item < most) (behind (part ∷ []) cs) → All (λ c. c.item < most) (record { parts = parts; item = c.item } ∷ behind (part ∷ []) cs)
    more parts rest zero d less = h 0 (record { parts = parts; item = c.item }) (omega arith)
    more parts rest (suc i) d less = rest i d (omega (arith, less))

    by : (o : Option (List ℕ)) → All (λ c. c.item < most) (behind (part ∷ []) cs) → All (λ c. c.item < most) (left_with o c.item (behind (part ∷ []) cs))
    by None rest = rest
    by (Some parts) rest = more parts rest

-- ---- the reading
fails : (n : ℕ) (a : Align) (cs : List (Coded ℕ)) (count : ℕ) (s : Spot) (f : Fault) → ended cs ≡ None → values_of (parts_in cs) ≡ count → part_at count a s ≡ Err f → chosen_at (suc n) a cs s ≡ Err f
unfolding chosen_at
fails n a cs count s f none values e = rw (none, values, e) refl

goes_on : (n : ℕ) (a : Align) (cs : List (Coded ℕ)) (count part : ℕ) (s t : Spot) → ended cs ≡ None → values_of (parts_in cs) ≡ count → part_at count a s ≡ Ok (part, t) → chosen_at (suc n) a cs s ≡ chosen_at n a (behind (part ∷ []) cs) t
unfolding chosen_at
goes_on n a cs count part s t none values e = rw (none, values, e) refl

tells : (n : ℕ) (a : Align) (place : ℕ) (s : Spot) → chosen_at n a (record { parts = []; item = place } ∷ []) s ≡ Ok (place, s)
unfolding chosen_at
tells zero a place s = refl
tells (suc n) a place s = refl

pub stands_leaf : (cells : List Cell) (low n place : ℕ) (cs : List (Coded ℕ)) → CellStands cells low n (cell.Leaf place) cs → cs ≡ record { parts = []; item = place } ∷ []
stands_leaf cells low zero place cs h = h
stands_leaf cells low (suc n) place cs h = h

-- ---- a walk
pub walk_starts : (a : Align) (cells : List Cell) (codes : List (List ℕ)) (row : Branch) (s : Spot) → CellStands cells 0 3 (cell.Branch row) (counted 0 codes) → Walked a cells codes (cell.Branch row) 0 s s
walk_starts a cells codes row s h = record { left = counted 0 codes; stands = h; reads = refl; below = counted_below 0 codes (length codes) (omega arith) }

pub walk_fails : (a : Align) (cells : List Cell) (codes : List (List ℕ)) (row : Branch) (count : ℕ) (first now : Spot) (f : Fault) → Walked a cells codes (cell.Branch row) count first now → count < 3 → part_at row.count a now ≡ Err f → place_read a codes first ≡ Err f
walk_fails a cells codes row count first now f w less e =
    let n : 3 - count ≡ suc (3 - (count + 1)) = omega (arith, less) in
    let s = subst (λ (k : ℕ). CellStands cells 0 k (cell.Branch row) w.left) n w.stands in
    w.reads ∙ ap (λ (k : ℕ). chosen_at k a w.left now) n ∙ fails (3 - (count + 1)) a w.left row.count now f s.0 s.1 e

pub walk_within : (a : Align) (cells : List Cell) (codes : List (List ℕ)) (row : Branch) (count : ℕ) (first now : Spot) → Walked a cells codes (cell.Branch row) count first now → count < 3 → row.begin + row.count ≤ length cells
walk_within a cells codes row count first now w less =
    let n : 3 - count ≡ suc (3 - (count + 1)) = omega (arith, less) in
    let s = subst (λ (k : ℕ). CellStands cells 0 k (cell.Branch row) w.left) n w.stands in
    s.3

pub walk_next : (a : Align) (cells : List Cell) (codes : List (List ℕ)) (row : Branch) (count part : ℕ) (first now next : Spot) → Walked a cells codes (cell.Branch row) count first now → count < 3 → part < row.count → part_at row.count a now ≡ Ok (part, next) →
    Walked a cells codes (cell_at cells (row.begin + part)) (count + 1) first next
walk_next a cells codes row count part first now next w less within e =
    let n : 3 - count ≡ suc (3 - (count + 1)) = omega (arith, less) in
    let s = subst (λ (k : ℕ). CellStands cells 0 k (cell.Branch row) w.left) n w.stands in
    record {
      left = behind (part ∷ []) w.left;
      stands = s.4 part within;
      reads = w.reads ∙ ap (λ (k : ℕ). chosen_at k a w.left now) n ∙ goes_on (3 - (count + 1)) a w.left row.count part now next s.0 s.1 e;
      below = behind_below part (length codes) w.left w.below;
    }

pub walk_ends : (a : Align) (cells : List Cell) (codes : List (List ℕ)) (place count : ℕ) (first now : Spot) → Walked a cells codes (cell.Leaf place) count first now → place_read a codes first ≡ Ok (place, now)
walk_ends a cells codes place count first now w =
    w.reads ∙ ap (λ (cs : List (Coded ℕ)). chosen_at (3 - count) a cs now) (stands_leaf cells 0 (3 - count) place w.left w.stands) ∙ tells (3 - count) a place now

pub walk_below : (a : Align) (cells : List Cell) (codes : List (List ℕ)) (place count : ℕ) (first now : Spot) → Walked a cells codes (cell.Leaf place) count first now → place < length codes
walk_below a cells codes place count first now w =
    subst (λ (cs : List (Coded ℕ)). All (λ c. c.item < length codes) cs) (stands_leaf cells 0 (3 - count) place w.left w.stands) w.below 0 (record { parts = []; item = place }) (omega arith)

pub walk_over : (a : Align) (cells : List Cell) (codes : List (List ℕ)) (row : Branch) (count : ℕ) (first now : Spot) → Walked a cells codes (cell.Branch row) count first now → 3 ≤ count → ⊥
walk_over a cells codes row count first now w le =
    let n : 3 - count ≡ 0 = omega (arith, le) in
    subst (λ (k : ℕ). CellStands cells 0 k (cell.Branch row) w.left) n w.stands
