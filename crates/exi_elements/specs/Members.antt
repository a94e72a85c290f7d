-- The members of substitution groups by their heads, and how all that stand for one element are found from there (XML Schema 1.0
-- Part 1, section 2.2.2.2).
use Rattle.std.specs.Prelude.{◌≡◌, ℕ, suc, ◌<◌, ◌^◌, ◌==◌, Bool, true, false, Option, Some, None, List, [], ◌∷◌, ◌++◌, All, drop, filter, get_or, length, set}
use Rattle.std.specs.List.{Contains, flat_map}
use Rattle.exi_gram.specs.Laws.{places_from}
use Rattle.xsd_model.specs.Parts.{IsSchemaParts, Parts, heads_at}
use Rattle.exi_elements.specs.StandIns.{any_of, opener, stand_ins}

-- ---- direct members
abbrev pub is_member : Parts → ℕ → ℕ → Bool
is_member p head place = any_of (λ h. h == head) (heads_at p place)

abbrev pub members : Parts → ℕ → List ℕ
members p head = filter (is_member p head) (places_from 0 p.elements)

-- one more, where it has a head
abbrev pub put_member : Option ℕ → ℕ → List (List ℕ) → List (List ℕ)
put_member None place lists = lists
put_member (Some head) place lists = set lists head (get_or lists head [] ++ place ∷ [])

pub record AreMembers (p : Parts) (lists : List (List ℕ)) : Type 0 where
  pub count : length lists ≡ length p.elements
  pub each : (head : ℕ) → head < length p.elements → get_or lists head [] ≡ members p head

-- ---- these, and behind each all its direct members
abbrev pub members_in : List (List ℕ) → ℕ → List ℕ
members_in lists place = get_or lists place []

pub record IsWalk (lists : List (List ℕ)) (starts walk : List ℕ) : Type 0 where
  pub whole : walk ≡ starts ++ flat_map (members_in lists) walk
  pub behind : (i : ℕ) → i < length walk → All (Contains (drop (suc i) walk)) (members_in lists (get_or walk i 0))
  pub below : All (λ place. place < length lists) walk

-- the elements that stand for no other
abbrev pub has_none : List ℕ → Bool
has_none [] = true
has_none (x ∷ xs) = false

abbrev pub roots : Parts → List ℕ
roots p = filter (λ place. has_none (heads_at p place)) (places_from 0 p.elements)

-- ---- how many stand for each, and what opens each one's grammar
pub record AreCounts (p : Parts) (counts : List ℕ) : Type 0 where
  pub count : length counts ≡ length p.elements
  pub each : (place : ℕ) → place < length p.elements → get_or counts place 0 ≡ length (stand_ins p place)

pub record AreOpeners (p : Parts) (openers : List ℕ) : Type 0 where
  pub count : length openers ≡ length p.elements
  pub each : (place : ℕ) → place < length p.elements → get_or openers place 0 ≡ opener p place

-- what is kept beside the parts
pub record AreTables (p : Parts) (lists : List (List ℕ)) (counts openers : List ℕ) : Type 0 where
  pub schema : IsSchemaParts p
  pub few : length p.elements < 2 ^ 32
  pub members_are : AreMembers p lists
  pub counts_are : AreCounts p counts
  pub openers_are : AreOpeners p openers
