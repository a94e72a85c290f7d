-- What steps lead to.
use Rattle.std.specs.Prelude.{ℕ, zero, suc, ◌==◌, ◌||◌, Bool, false, List, [], ◌∷◌, ◌++◌, if◌then◌else◌}

abbrev pub is_among : ℕ → List ℕ → Bool
is_among place [] = false
is_among place (p ∷ ps) = place == p || is_among place ps

-- Places that are reached from those to do, depth first, behind those seen: each is told once. So many are looked at in
-- all; one more than there are steps is enough, since those of a place are done once.
unfoldable pub reached : (ℕ → List ℕ) → ℕ → List ℕ → List ℕ → List ℕ
reached next zero seen todo = seen
reached next (suc n) seen [] = seen
reached next (suc n) seen (p ∷ ps) = if is_among p seen then reached next n seen ps else reached next n (seen ++ p ∷ []) (next p ++ ps)
