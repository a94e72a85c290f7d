-- The places among all of live values whose texts have the same hash.
use Rattle.std.specs.Prelude.{◌||◌, ℕ, Bool, false, List, Option, Some, None, nat_eq}
use Rattle.std.specs.List.{list_any}
use Rattle.std.specs.Map.{lookup}
use Rattle.std.specs.Ordering.{is_eq, nat_cmp}

-- the least, and the others in rising order
pub record SpotSet : Type 0 where
  pub least : ℕ
  pub more : List ℕ

abbrev pub holds : List ℕ → ℕ → Bool
holds places place = list_any (λ other. is_eq (nat_cmp place other)) places

abbrev pub is_spot : SpotSet → ℕ → Bool
is_spot s place = nat_eq place s.least || holds s.more place

abbrev pub in_spots : Option SpotSet → ℕ → Bool
in_spots None place = false
in_spots (Some s) place = is_spot s place

-- a place is listed under a hash
abbrev pub is_listed : List (ℕ × SpotSet) → ℕ → ℕ → Bool
is_listed entries hash place = in_spots (lookup (nat_eq hash) entries) place
