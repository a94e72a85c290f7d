-- What a pass knows, and how often a page stands in its lists.
use Rattle.std.specs.Prelude.{◌≡◌, ℕ, zero, suc, ◌+◌, ◌-◌, List, [], ◌∷◌, ◌++◌, cond, ◌==◌}
use Rattle.exi_pool.specs.declared.view.View.{View}

-- the sum of a number of each
abbrev pub total : {A : Type 0} → (A → ℕ) → List A → ℕ
total f [] = 0
total f (x ∷ xs) = f x + total f xs

-- 1 where both are one number, and else 0
abbrev pub one_if : ℕ → ℕ → ℕ
one_if h x = cond (x == h) 1 0

-- the numbers below n, in order
abbrev pub up_to : ℕ → List ℕ
up_to zero = []
up_to (suc n) = up_to n ++ n ∷ []

abbrev pub view : ℕ → ℕ → List ℕ → List ℕ → List ℕ → View
view number made firsts takes gives = record { number = number; made = made; firsts = firsts; takes = takes; gives = gives }

-- a pass that has done nothing
abbrev pub newcomer : ℕ → ℕ → View
newcomer number made = view number made [] [] []

-- the first pass, which put the pages into the queue
abbrev pub starter : ℕ → ℕ → View
starter pages made = view 0 made (up_to pages) [] []

-- the passes from 1 to n
abbrev pub later : ℕ → List View
later zero = []
later (suc n) = later n ++ newcomer (suc n) 0 ∷ []

-- all passes of a new pool
abbrev pub newcomers : ℕ → ℕ → List View
newcomers pages passes = starter pages passes ∷ later (passes - 1)

-- what a pass knows after each kind of step: it made a pass; it put, took or gave the page n
abbrev pub with_made : ℕ → View → View
with_made n v = view v.number n v.firsts v.takes v.gives

abbrev pub putting : ℕ → View → View
putting n v = view v.number v.made (v.firsts ++ n ∷ []) v.takes v.gives

abbrev pub taking : ℕ → View → View
taking n v = view v.number v.made v.firsts (v.takes ++ n ∷ []) v.gives

abbrev pub giving : ℕ → View → View
giving n v = view v.number v.made v.firsts v.takes (v.gives ++ n ∷ [])

-- nothing but takes and gives lies between what a pass knew and what it knows
abbrev pub SameStart : View → View → Type 0
SameStart v w = (w.number ≡ v.number) × (w.made ≡ v.made) × (w.firsts ≡ v.firsts)

-- how often the page n stands in each list
module _ (n : ℕ) where
  abbrev pub firsts : View → ℕ
  firsts v = total (one_if n) v.firsts

  abbrev pub takes : View → ℕ
  takes v = total (one_if n) v.takes

  abbrev pub gives : View → ℕ
  gives v = total (one_if n) v.gives
