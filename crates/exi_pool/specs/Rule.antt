-- The rule of a pool, between any two steps of any threads.
use Rattle.std.specs.Prelude.{◌≡◌, ℕ, ◌+◌, List, [], ◌∷◌, length, ⊤}
use mathlib.Core.Option.{some}
use lib.ListN.{get_elem?}
use Rattle.exi_pool.specs.declared.view.View.{View}
use Rattle.exi_pool.specs.Pages.{Sheet, number_of, IsLone}
use Rattle.exi_pool.specs.Views.{total, one_if, firsts, takes, gives}

-- what the queue holds: a page, or one with others before it
abbrev pub Page : Type 0
Page = List Sheet

-- how many pages of this number the queue holds
abbrev pub held : ℕ → List Page → ℕ
held n items = total (λ p. one_if n (number_of p)) items

abbrev pub AllLone : List Page → Type 0
AllLone [] = ⊤
AllLone (p ∷ ps) = IsLone p × AllLone ps

-- what holds of the pages in the queue and of what all passes know, pass 0 first
pub record Kept (items : List Page) (views : List View) : Type 0 where
  -- a page is in the queue or taken as often as it was put there at the start or given back
  pub even : (n : ℕ) → held n items + total (takes n) views ≡ total (firsts n) views + total (gives n) views
  -- each page is in the queue by itself
  pub lone : AllLone items
  -- passes are numbered as they were made, and pass 0 knows how many there are
  pub numbered : (i : ℕ) (v : View) → get_elem? views i ≡ some v → v.number ≡ i
  pub made : (v : View) → get_elem? views 0 ≡ some v → v.made ≡ length views

-- at one moment the queue held these pages, while the pass knew this
abbrev pub Saw : View → List Page → Type 0
Saw v items = (views : List View) × (get_elem? views v.number ≡ some v) × Kept items views

-- at one moment the queue was empty
abbrev pub WasEmpty : View → Type 0
WasEmpty v = Saw v []
