-- What is known so far, without where it lies in memory.
use Rattle.std.specs.Prelude.{◌≡◌, ℕ, ◌<◌, Result, Ok, Err, List, [], length, map, get_or, false, if◌then◌else◌}
use Rattle.exi_draft.specs.Drafts.{States, is_end}
use Rattle.exi_gram.specs.Terminals.{rule}
use Rattle.exi_normal.specs.Normals.{Row, Work, number_of, rows_of, with_list, with_state}
use Rattle.exi_normal.specs.declared.stop.NormalStop.{NormalStop}
use Rattle.exi_normal.specs.declared.stop.NormalStop.TheVariants as stop
use Rattle.exi_normal.specs.declared.work.Found.{Found}

abbrev pub work_of : Found → Work
work_of f = record { lists = f.lists; states = map (map rule) f.states; differs = f.differs }

-- it gives these lists; that they are too many is told as soon as it is known
abbrev pub Reaches : {X : Type 0} → ℕ → List (List ℕ) → Result X NormalStop → Type 0
Reaches most lists (Ok x) = Unit {0}
Reaches most lists (Err stop.TooLarge) = most < length lists
Reaches most lists (Err stop.Differ) = ⊥
Reaches most lists (Err stop.Memory) = Unit {0}

abbrev pub found_none : Work
found_none = record { lists = []; states = []; differs = false }

-- one state more
abbrev pub next_of : States → Work → Work
next_of states w = with_state (rows_of states (get_or w.lists (length w.states) [])) w

-- the list to which a production leads, and its number
abbrev pub with_row : Row → List (List ℕ) → List (List ℕ)
with_row r lists = if is_end r.on then lists else with_list r.targets lists

abbrev pub target_of : ℕ → Row → List (List ℕ) → ℕ
target_of own r lists = if is_end r.on then own else number_of r.targets lists
