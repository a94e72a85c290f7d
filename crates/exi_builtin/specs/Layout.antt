-- The written lists by the number of the codes' parts: those with one part, those with two, and those with three,
-- which share the last second part.
use Rattle.std.specs.Prelude.{List, [], ◌∷◌, ◌++◌, map}
use Rattle.exi_gram.specs.Codes.{Productions, Second, single, group}

abbrev pub grouped : {X : Type 0} → List X → List (Second X)
grouped [] = []
grouped (x ∷ xs) = group (x ∷ xs) ∷ []

-- the second parts: one for each of these, and one for the members
abbrev pub laid_seconds : {X : Type 0} → List X → List X → List (Second X)
laid_seconds singles members = map single singles ++ grouped members

abbrev pub laid_out : {X : Type 0} → List X → List X → List X → Productions X
laid_out firsts singles members = record { firsts = firsts; seconds = laid_seconds singles members }
