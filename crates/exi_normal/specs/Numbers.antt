-- Normalizing by the numbers of terminals: a terminal's number is its place among all of a grammar.
use Rattle.std.specs.Prelude.{◌≡◌, ℕ, zero, suc, ◌+◌, ◌<◌, ◌==◌, ◌||◌, Bool, true, false, Option, Some, None, List, [], ◌∷◌, ◌++◌, length, map, position, slice_get, get_or, if◌then◌else◌}
use Rattle.exi_gram.specs.Reaching.{is_among}
use Rattle.exi_normal.specs.Normals.{least, same_inner}
use Rattle.exi_normal.specs.declared.groups.Group.{Group}
use Rattle.exi_normal.specs.declared.numbered.Move.{Move}
use Rattle.exi_normal.specs.declared.walk.Reading.{Reading}

-- ---- what is read next
abbrev pub moves_at : List (List Move) → ℕ → List Move
moves_at states place = get_or states place []

abbrev pub move_count : List (List Move) → ℕ
move_count [] = 0
move_count (moves ∷ states) = length moves + move_count states

abbrev pub reading : ℕ → Move → Reading
reading on m = record { on = on; to = m.to; inner = m.inner; particle = m.particle }

abbrev pub into : ℕ → Move
into state = record { on = None; to = state; inner = None; particle = None }

abbrev pub read_by : Move → Option ℕ → List Reading → List Reading → List Reading
read_by m None others free = free
read_by m (Some on) others free = reading on m ∷ others

unfoldable pub readings : List (List Move) → ℕ → List ℕ → List Move → List Reading
readings states zero seen todo = []
readings states (suc n) seen [] = []
readings states (suc n) seen (m ∷ ms) =
    read_by m m.on (readings states n seen ms)
    (if is_among m.to seen then readings states n seen ms else readings states n (seen ++ m.to ∷ []) (moves_at states m.to ++ ms))

abbrev pub readings_from : List (List Move) → List ℕ → List Reading
readings_from states members = readings states (suc (length members + move_count states)) [] (map into members)

-- ---- what is read alike
abbrev pub group_of : Reading → Group
group_of r = record { on = r.on; targets = r.to ∷ []; inner = r.inner; differs = false; particle = r.particle }

abbrev pub joined : Reading → Group → Group
joined r g = record {
  on = g.on;
  targets = g.targets ++ r.to ∷ [];
  inner = g.inner;
  differs = g.differs || (if same_inner r.inner g.inner then false else true);
  particle = least r.particle g.particle;
}

abbrev pub with_reading : Reading → List Group → List Group
with_reading r [] = group_of r ∷ []
with_reading r (g ∷ gs) = if r.on == g.on then joined r g ∷ gs else g ∷ with_reading r gs

abbrev pub groups_from : List Group → List Reading → List Group
groups_from gs [] = gs
groups_from gs (r ∷ rs) = groups_from (with_reading r gs) rs

abbrev pub place_on : ℕ → List Group → Option ℕ
place_on on gs = position (λ g. on == g.on) gs

-- each group, where a place is noted for its terminal, stands there
abbrev pub AreNoted : List ℕ → List Group → Type 0
AreNoted notes gs = (place : ℕ) (g : Group) → slice_get gs place ≡ Some g → g.on < length notes → slice_get notes g.on ≡ Some place
