-- Grammars that are not yet normal, and how larger ones are made of smaller ones (EXI 1.0, sections 8.5.4.1.1 to 8.5.4.1.8).
use Rattle.std.specs.Prelude.{ℕ, suc, ◌+◌, ◌-◌, Bool, Option, Some, None, List, [], ◌∷◌, ◌++◌, length, map, min, replicate, if◌then◌else◌}
use Rattle.exi_gram.specs.Terminals.{StepRule, Symbol, ch_text, ee}
use Rattle.exi_draft.specs.Drafts.{States, ends}

-- ---- steps
-- one that reads something, and opens no grammar
abbrev pub reading : Symbol → ℕ → StepRule
reading on to = record { on = Some on; to = to; inner = None; particle = None }

-- one that reads nothing
abbrev pub leading : ℕ → StepRule
leading to = record { on = None; to = to; inner = None; particle = None }

-- the end of the element; it leads nowhere, and is told as its own state
abbrev pub ending : ℕ → StepRule
ending state = reading ee state

-- ---- grammars moved
-- behind so many states
abbrev pub raised_step : ℕ → StepRule → StepRule
raised_step n s = record { on = s.on; to = s.to + n; inner = s.inner; particle = s.particle }

abbrev pub raised : ℕ → States → States
raised n states = map (map (raised_step n)) states

-- behind so many particles
abbrev pub place_behind : ℕ → Option ℕ → Option ℕ
place_behind n None = None
place_behind n (Some place) = Some (place + n)

abbrev pub behind_step : ℕ → StepRule → StepRule
behind_step n s = record { on = s.on; to = s.to; inner = s.inner; particle = place_behind n s.particle }

abbrev pub behind : ℕ → States → States
behind n states = map (map (behind_step n)) states

-- ---- one after another
-- each end leads to this state instead
abbrev pub led_step : ℕ → StepRule → StepRule
led_step to s = if ends s.on then leading to else s

abbrev pub led : ℕ → States → States
led to states = map (map (led_step to)) states

abbrev pub joined : States → States → States
joined a b = led (length a) a ++ raised (length a) b

-- nothing
abbrev pub empty_states : States
empty_states = (ending 0 ∷ []) ∷ []

abbrev pub joined_behind : States → List States → States
joined_behind a [] = a
joined_behind a (b ∷ bs) = joined a (joined_behind b bs)

abbrev pub joined_all : List States → States
joined_all [] = empty_states
joined_all (a ∷ others) = joined_behind a others

-- ---- copies
-- the end stands last in the first state too
abbrev pub with_start : StepRule → States → States
with_start s [] = []
with_start s (steps ∷ states) = (steps ++ s ∷ []) ∷ states

abbrev pub optional : States → States
optional states = with_start (ending 0) states

-- as often as it may be: it returns to its start, where it may end
abbrev pub repeated : States → States
repeated states = optional (led 0 states)

-- so many, and then those that may be left out; never more than at most
abbrev pub required : ℕ → Option ℕ → States → List States
required least None states = replicate least states
required least (Some most) states = replicate (min least most) states

abbrev pub further : ℕ → Option ℕ → States → List States
further least None states = repeated states ∷ []
further least (Some most) states = replicate (most - least) (optional states)

abbrev pub copies_of : ℕ → Option ℕ → States → List States
copies_of least most states = required least most states ++ further least most states

-- ---- pieces: the states, and how many particles they have
pub record Piece : Type 0 where
  pub states : States
  pub particles : ℕ

abbrev pub none_where_empty : {X : Type 0} → List X → ℕ → ℕ
none_where_empty [] n = 0
none_where_empty (x ∷ xs) n = n

-- copies have the same particles; where there is no copy there is none
abbrev pub copied : ℕ → Option ℕ → Piece → Piece
copied least most x = record {
  states = joined_all (copies_of least most x.states);
  particles = none_where_empty (copies_of least most x.states) x.particles;
}

-- pieces, each behind the particles of those before it
abbrev pub placed : ℕ → List Piece → List States
placed n [] = []
placed n (x ∷ xs) = behind n x.states ∷ placed (n + x.particles) xs

abbrev pub particles_of : List Piece → ℕ
particles_of [] = 0
particles_of (x ∷ xs) = x.particles + particles_of xs

abbrev pub sequence : List Piece → Piece
sequence xs = record { states = joined_all (placed 0 xs); particles = particles_of xs }

-- one of these: a state that leads to the start of each
abbrev pub starts_from : ℕ → List States → List StepRule
starts_from n [] = []
starts_from n (a ∷ others) = leading n ∷ starts_from (n + length a) others

abbrev pub branches_from : ℕ → List States → States
branches_from n [] = []
branches_from n (a ∷ others) = raised n a ++ branches_from (n + length a) others

abbrev pub one_of : List States → States
one_of branches = starts_from 1 branches ∷ branches_from 1 branches

abbrev pub choice : List Piece → Piece
choice xs = record { states = one_of (placed 0 xs); particles = particles_of xs }

-- ---- what reads something, and then ends
abbrev pub reading_one : List StepRule → States
reading_one steps = steps ∷ (ending 1 ∷ []) ∷ []

-- text stands in each state too, and stays there
abbrev pub with_text_from : ℕ → States → States
with_text_from n [] = []
with_text_from n (steps ∷ states) = (steps ++ reading ch_text n ∷ []) ∷ with_text_from (suc n) states

abbrev pub with_text : Bool → States → States
with_text mixed states = if mixed then with_text_from 0 states else states

abbrev pub counts_of : List Piece → List ℕ
counts_of xs = map (λ x. length x.states) xs
