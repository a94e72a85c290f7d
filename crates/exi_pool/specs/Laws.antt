-- What the rule says of all passes of one pool.
use Rattle.std.specs.Prelude.{◌≡◌, ℕ, ◌+◌, ◌<◌, ◌≤◌, List, map}
use Rattle.exi_pool.specs.declared.view.View.{View}
use Rattle.exi_pool.specs.Views.{total, newcomers, firsts, takes, gives}
use Rattle.exi_pool.specs.Rule.{Page, held, Kept, WasEmpty}

-- the passes are those with which the pool was made: since then none of them put a new page into the queue
abbrev pub AreMade : ℕ → ℕ → List View → Type 0
AreMade pages passes views = map (λ v. v.firsts) views ≡ map (λ v. v.firsts) (newcomers pages passes)

-- each page that was taken was given back as often
abbrev pub AreBack : List View → Type 0
AreBack views = (n : ℕ) → total (takes n) views ≡ total (gives n) views

-- the queue holds each page below this number once, and no other
abbrev pub HoldsEach : ℕ → List Page → Type 0
HoldsEach pages items = (n : ℕ) → (n < pages → held n items ≡ 1) × (pages ≤ n → held n items ≡ 0)

-- once every page that was taken was given back, the queue holds each page once
abbrev pub AllBack : Type 0
AllBack = (pages passes : ℕ) (items : List Page) (views : List View) → Kept items views → AreMade pages passes views → AreBack views → HoldsEach pages items

-- a page is out once at most
abbrev pub OutOnce : Type 0
OutOnce = (pages passes : ℕ) (items : List Page) (views : List View) → Kept items views → AreMade pages passes views → (n : ℕ) → total (takes n) views ≤ total (gives n) views + 1

-- the one pass of a pool whose queue was empty has taken each page, as often as it put and gave it
abbrev pub EmptyAlone : Type 0
EmptyAlone = (v : View) → v.number ≡ 0 → v.made ≡ 1 → WasEmpty v → (n : ℕ) → takes n v ≡ firsts n v + gives n v
