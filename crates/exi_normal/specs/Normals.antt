-- Normal grammars (EXI 1.0, sections 8.5.4.1.9 and 8.5.4.2): a state of one is a list of states of the grammar that is not yet normal.
use Rattle.std.specs.Prelude.{ℕ, zero, suc, ◌+◌, ◌==◌, ◌&&◌, ◌||◌, min, ltb, Bool, true, false, Option, Some, None, Result, Ok, Err, List, [], ◌∷◌, ◌++◌, length, map, filter, get_or, bytes_eq, if◌then◌else◌}
use Rattle.exi_names.specs.Equality.{same_names, same_representations}
use Rattle.exi_gram.specs.Candidates.{class_of, same_class}
use Rattle.exi_gram.specs.Orders.{in_order}
use Rattle.exi_gram.specs.Reaching.{is_among}
use Rattle.exi_gram.specs.Terminals.{Rule, Rules, StepRule, Symbol, sd, ed, se, se_in, se_any, at, at_in, at_any, at_text, at_any_text, xsi_type, xsi_nil, ch, ch_text, ee, ns, sc, er, cm, pi, dt}
use Rattle.exi_draft.specs.Drafts.{Draft, States, is_end}

-- ---- what is read next
-- a step that reads something
pub record Met : Type 0 where
  pub on : Symbol
  pub to : ℕ
  pub inner : Option ℕ
  pub particle : Option ℕ

abbrev pub steps_at : States → ℕ → List StepRule
steps_at states place = get_or states place []

abbrev pub step_count : States → ℕ
step_count [] = 0
step_count (steps ∷ states) = length steps + step_count states

-- The steps that read something, of those to do and those behind steps that read nothing, which the steps of their state
-- replace: in the order of the first path, depth first. So many are looked at in all; the steps of a state are done once.
abbrev pub met_by : StepRule → Option Symbol → List Met → List Met → List Met
met_by s None others free = free
met_by s (Some on) others free = record { on = on; to = s.to; inner = s.inner; particle = s.particle } ∷ others

unfoldable pub met : States → ℕ → List ℕ → List StepRule → List Met
met states zero seen todo = []
met states (suc n) seen [] = []
met states (suc n) seen (s ∷ ss) =
    met_by s s.on (met states n seen ss)
    (if is_among s.to seen then met states n seen ss else met states n (s.to ∷ seen) (steps_at states s.to ++ ss))

abbrev pub into : ℕ → StepRule
into state = record { on = None; to = state; inner = None; particle = None }

-- from the states of a list
abbrev pub met_from : States → List ℕ → List Met
met_from states members = met states (suc (length members + step_count states)) [] (map into members)

-- ---- what is read alike is one production, which leads to all states to which its steps lead
abbrev pub same_symbol : Symbol → Symbol → Bool
same_symbol (se a) (se b) = same_names a b
same_symbol (se_in a) (se_in b) = bytes_eq a b
same_symbol (at a r) (at b s) = same_names a b && same_representations r s
same_symbol (at_in a) (at_in b) = bytes_eq a b
same_symbol (at_text a) (at_text b) = same_names a b
same_symbol (ch r) (ch s) = same_representations r s
same_symbol a b = same_class (class_of a) (class_of b)

pub record Row : Type 0 where
  pub on : Symbol
  -- without repeats
  pub targets : List ℕ
  pub inner : Option ℕ
  -- whether steps open different grammars
  pub differs : Bool
  -- the least particle
  pub particle : Option ℕ

abbrev pub same_inner : Option ℕ → Option ℕ → Bool
same_inner None None = true
same_inner (Some a) (Some b) = a == b
same_inner a b = false

abbrev pub least : Option ℕ → Option ℕ → Option ℕ
least None b = b
least (Some a) None = Some a
least (Some a) (Some b) = Some (min a b)

-- the end of an element leads nowhere
abbrev pub targets_of : Met → List ℕ
targets_of m = if is_end m.on then [] else m.to ∷ []

abbrev pub with_targets : List ℕ → List ℕ → List ℕ
with_targets [] targets = targets
with_targets (to ∷ tos) targets = with_targets tos (if is_among to targets then targets else targets ++ to ∷ [])

abbrev pub merged : Met → Row → Row
merged m r = record {
  on = r.on;
  targets = with_targets (targets_of m) r.targets;
  inner = r.inner;
  differs = r.differs || (if same_inner m.inner r.inner then false else true);
  particle = least m.particle r.particle;
}

abbrev pub row_of : Met → Row
row_of m = record { on = m.on; targets = targets_of m; inner = m.inner; differs = false; particle = m.particle }

abbrev pub with_met : Met → List Row → List Row
with_met m [] = row_of m ∷ []
with_met m (r ∷ rs) = if same_symbol m.on r.on then merged m r ∷ rs else r ∷ with_met m rs

abbrev pub rows_from : List Row → List Met → List Row
rows_from rows [] = rows
rows_from rows (m ∷ ms) = rows_from (with_met m rows) ms

-- ---- elements of a name, and those of any name of a URI, in the order of their particles: each of them in one of the places
-- that they have among the others, which keep theirs
abbrev pub has_particle : Row → Bool
has_particle r = class_has r.on
  where
    class_has : Symbol → Bool
    class_has (se name) = true
    class_has (se_in uri) = true
    class_has other = false

abbrev pub particle_key : Option ℕ → ℕ
particle_key None = 0
particle_key (Some place) = suc place

abbrev pub particle_before : Row → Row → Bool
particle_before a b = ltb (particle_key a.particle) (particle_key b.particle)

abbrev pub in_places : List Row → List Row → List Row
in_places sorted [] = []
in_places [] (r ∷ rs) = r ∷ in_places [] rs
in_places (s ∷ sorted) (r ∷ rs) = if has_particle r then s ∷ in_places sorted rs else r ∷ in_places (s ∷ sorted) rs

abbrev pub by_particle : List Row → List Row
by_particle rows = in_places (in_order particle_before (filter has_particle rows)) rows

-- the productions of the state that is this list
abbrev pub rows_of : States → List ℕ → List Row
rows_of states members = by_particle (rows_from [] (met_from states members))

-- ---- the states, in the order in which they are first reached
abbrev pub place_of : ℕ → List ℕ → List (List ℕ) → Option ℕ
place_of place list [] = None
place_of place list (l ∷ ls) = if bytes_eq list l then Some place else place_of (suc place) list ls

abbrev pub with_list : List ℕ → List (List ℕ) → List (List ℕ)
with_list list lists = by_place (place_of 0 list lists)
  where
    by_place : Option ℕ → List (List ℕ)
    by_place None = lists ++ list ∷ []
    by_place (Some place) = lists

abbrev pub number_of : List ℕ → List (List ℕ) → ℕ
number_of list lists = by_place (place_of 0 list lists)
  where
    by_place : Option ℕ → ℕ
    by_place None = length lists
    by_place (Some place) = place

-- what is known so far: the lists, of the first of them the productions, and whether elements of one name differ
pub record Work : Type 0 where
  pub lists : List (List ℕ)
  pub states : List (List Rule)
  pub differs : Bool

-- the lists to which the productions of a state lead
abbrev pub with_rows : List Row → List (List ℕ) → List (List ℕ)
with_rows [] lists = lists
with_rows (r ∷ rs) lists = if is_end r.on then with_rows rs lists else with_rows rs (with_list r.targets lists)

-- the productions; the end of an element is told as its own state
abbrev pub rules_from : ℕ → List Row → List (List ℕ) → List Rule
rules_from own [] lists = []
rules_from own (r ∷ rs) lists =
    if is_end r.on then record { on = r.on; to = own; inner = r.inner } ∷ rules_from own rs lists else
    record { on = r.on; to = number_of r.targets lists; inner = r.inner } ∷ rules_from own rs (with_list r.targets lists)

abbrev pub any_differ : List Row → Bool
any_differ [] = false
any_differ (r ∷ rs) = r.differs || any_differ rs

abbrev pub with_state : List Row → Work → Work
with_state rows w = record {
  lists = with_rows rows w.lists;
  states = w.states ++ rules_from (length w.states) rows w.lists ∷ [];
  differs = w.differs || any_differ rows;
}

-- state by state, until all are known, or there are too many
unfoldable pub worked : States → ℕ → ℕ → Work → Work
worked states most zero w = w
worked states most (suc n) w =
    if ltb most (length w.lists) || (length w.states == length w.lists) then w else
    worked states most n (with_state (rows_of states (get_or w.lists (length w.states) [])) w)

abbrev pub with_one_list : List ℕ → Work → Work
with_one_list list w = record { lists = with_list list w.lists; states = w.states; differs = w.differs }

-- first those that the start reaches, then the state of the content, where it is not among them, and those that it reaches
abbrev pub reached_states : Draft → ℕ → Work
reached_states d most = worked d.states most (suc most) (record { lists = (0 ∷ []) ∷ []; states = []; differs = false })

abbrev pub all_states : Draft → ℕ → Work
all_states d most = worked d.states most (suc most) (with_one_list (d.content ∷ []) (reached_states d most))

-- ---- the normal grammar, where it has at most so many states
pub data Refusal : Type 0 where
  too_large : Refusal
  differ : Refusal

abbrev pub normal_made : ℕ → ℕ → Work → Result Rules Refusal
normal_made most content w =
    if ltb most (length w.lists) then Err too_large else
    if w.differs then Err differ else
    Ok (record { states = w.states; content = number_of (content ∷ []) w.lists })

abbrev pub normal_of : Draft → ℕ → Result Rules Refusal
normal_of d most = normal_made most d.content (all_states d most)
