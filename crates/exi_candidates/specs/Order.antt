-- The order in which the productions of a state are tried for an event, and which is the next.
use Rattle.std.specs.Prelude.{◌≡◌, ℕ, ◌+◌, ◌*◌, ◌^◌, ◌<◌, ◌≤◌, Bool, true, nat_lt, Option, Some, None, List, [], IfSome, fold, get_or, length, map, slice_get, if◌then◌else◌}
use Rattle.std.specs.List.{list_any}
use Rattle.exi_gram.specs.Candidates.{candidates, is_sought}
use Rattle.exi_gram.specs.Codes.{Coded, Productions, coded}
use Rattle.exi_gram.specs.Naming.{Entry}
use Rattle.exi_candidates.specs.declared.key.Key.{Key}

-- fewer parts first, then the lesser code: as one number, since a state has fewer than 2^32 productions
abbrev pub rank_in : List (Coded Entry) → ℕ → ℕ
rank_in cs place = length (get_or (map (λ c. c.parts) cs) place []) * 2 ^ 32 + place

abbrev pub rank : Productions Entry → ℕ → ℕ
rank p place = rank_in (coded p) place

-- the number that the next has to pass, 0 where none was tried yet
abbrev pub floor_in : List (Coded Entry) → Option ℕ → ℕ
floor_in cs None = 0
floor_in cs (Some place) = rank_in cs place

abbrev pub floor_of : Productions Entry → Option ℕ → ℕ
floor_of p after = floor_in (coded p) after

-- whether a production is one of those that are looked up
abbrev pub is_tried : List Key → Entry → Bool
is_tried keys e = list_any (λ k. is_sought k.class k.name e) keys

-- the next: a production that is looked up, behind the one tried before, and none of these is before it
pub record IsNext (p : Productions Entry) (keys : List Key) (after next : Option ℕ) : Type 0 where
  pub is_one : IfSome next (λ place. (c : Coded Entry) × (slice_get (coded p) place ≡ Some c) × (is_tried keys c.item ≡ true))
  pub is_behind : IfSome next (λ place. floor_of p after < rank p place)
  pub is_first : (place : ℕ) (c : Coded Entry) → slice_get (coded p) place ≡ Some c → is_tried keys c.item ≡ true → floor_of p after < rank p place → (n : ℕ) × (next ≡ Some n) × (rank p n ≤ rank p place)

-- ---- how it is found: the least of the lists that are looked up
abbrev pub closer : (ℕ → ℕ) → Option ℕ → ℕ → Option ℕ
closer rank None place = Some place
closer rank (Some other) place = if nat_lt (rank place) (rank other) then Some place else Some other

abbrev pub nearer : (ℕ → ℕ) → ℕ → Option ℕ → ℕ → Option ℕ
nearer rank floor best place = if nat_lt floor (rank place) then closer rank best place else best

abbrev pub first_in : List (Coded Entry) → ℕ → Option ℕ → Key → Option ℕ
first_in cs floor best k = fold (nearer (rank_in cs) floor) best (candidates k.class k.name cs)

abbrev pub first_of : List (Coded Entry) → ℕ → List Key → Option ℕ
first_of cs floor keys = fold (first_in cs floor) None keys
