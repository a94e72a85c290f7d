-- The first string tables (EXI 1.0, appendix D).
use Rattle.std.specs.Prelude.{◌≡◌, ◌≤◌, ◌^◌, ℕ, List, [], ◌∷◌, length, take, slice_get, IfSome, codes}

-- the URIs, and for each of them its local names
pub record Names : Type 0 where
  pub uris : List (List ℕ)
  pub locals : List (List (List ℕ))

-- places 0, 1 and 2
abbrev pub first_uris : List (List ℕ)
first_uris =
    []
    ∷ codes "http://www.w3.org/XML/1998/namespace"
    ∷ codes "http://www.w3.org/2001/XMLSchema-instance"
    ∷ []

abbrev pub xml_names : List (List ℕ)
xml_names = codes "base" ∷ codes "id" ∷ codes "lang" ∷ codes "space" ∷ []

abbrev pub xsi_names : List (List ℕ)
xsi_names = codes "nil" ∷ codes "type" ∷ []

-- the tables where there is no schema
abbrev pub first_names : Names
first_names = record { uris = first_uris; locals = [] ∷ xml_names ∷ xsi_names ∷ [] }

-- what holds of all first tables, with a schema or without
pub record IsStart (names : Names) : Type 0 where
  -- a list of local names for each URI
  pub paired : length names.locals ≡ length names.uris
  pub first : take 3 names.uris ≡ first_uris
  -- `xsi:nil` and `xsi:type` stand first in their list
  pub third : IfSome (slice_get names.locals 2) (λ list. take 2 list ≡ xsi_names)
  -- no list is long
  pub few_uris : length names.uris ≤ 2 ^ 30
  pub few_locals : (place : ℕ) → IfSome (slice_get names.locals place) (λ list. length list ≤ 2 ^ 30)
