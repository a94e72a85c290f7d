-- States at the places where they stand in a whole grammar: behind others, behind the particles of others, and with their ends
-- led to what follows.
use Rattle.std.specs.Prelude.{ℕ, ◌+◌, Option, Some, None, List, [], ◌∷◌, ◌++◌, length, map}
use Rattle.exi_gram.specs.Terminals.{StepRule, se_any, se_in}
use Rattle.xsd_model.specs.declared.parts.Wild.{Wild}
use Rattle.xsd_model.specs.declared.parts.Wild.TheVariants as wild
use Rattle.exi_draft.specs.Drafts.{States}
use Rattle.exi_proto.specs.Pieces.{Piece, behind_step, ending, leading, led_step, raised_step, reading}

-- an end in a state, where this follows
abbrev pub end_step : ℕ → Option ℕ → StepRule
end_step state None = ending state
end_step state (Some to) = leading to

abbrev pub led_by : Option ℕ → StepRule → StepRule
led_by None s = s
led_by (Some to) s = led_step to s

-- the first state at this place, behind so many particles, and this follows
abbrev pub set_step : ℕ → ℕ → Option ℕ → StepRule → StepRule
set_step first before next s = led_by next (raised_step first (behind_step before s))

abbrev pub set : ℕ → ℕ → Option ℕ → States → States
set first before next states = map (map (set_step first before next)) states

-- ---- ends that wait for the next state; the last of them stands first
abbrev pub with_ends : List StepRule → List StepRule → List StepRule
with_ends [] steps = steps
with_ends (e ∷ es) steps = with_ends es steps ++ e ∷ []

abbrev pub with_first : List StepRule → States → States
with_first es [] = []
with_first es (steps ∷ states) = with_ends es steps ∷ states

-- ---- parts of a grammar, where they stand
abbrev pub lined_behind : ℕ → ℕ → Option ℕ → Piece → List Piece → States
lined_behind first before next x [] = set first before next x.states
lined_behind first before next x (y ∷ ys) = set first before (Some (first + length x.states)) x.states ++ lined_behind (first + length x.states) (before + x.particles) next y ys

-- one after another; nothing is an end
abbrev pub lined : ℕ → ℕ → Option ℕ → List Piece → States
lined first before next [] = (end_step first next ∷ []) ∷ []
lined first before next (x ∷ xs) = lined_behind first before next x xs

-- beside one another
abbrev pub laid : ℕ → ℕ → Option ℕ → List Piece → States
laid first before next [] = []
laid first before next (x ∷ xs) = set first before next x.states ++ laid (first + length x.states) (before + x.particles) next xs

-- steps to each of them
abbrev pub starts_by : ℕ → List ℕ → List StepRule
starts_by n [] = []
starts_by n (count ∷ counts) = leading n ∷ starts_by (n + count) counts

-- to each of these, which have two states
abbrev pub starts_evenly : {X : Type 0} → ℕ → List X → List StepRule
starts_evenly n [] = []
starts_evenly n (x ∷ xs) = leading n ∷ starts_evenly (n + 2) xs

-- what reads any element of each URI, and leads to a place
abbrev pub in_each_at : ℕ → ℕ → List (List ℕ) → List StepRule
in_each_at to n [] = []
in_each_at to n (uri ∷ uris) = record { on = Some (se_in uri); to = to; inner = None; particle = Some n } ∷ in_each_at to (n + 1) uris

-- what reads an element that a wildcard allows, and leads to a place
abbrev pub allowed_at : ℕ → ℕ → Wild → List StepRule
allowed_at to before wild.Any = reading se_any to ∷ []
allowed_at to before (wild.Listed uris) = in_each_at to before uris

-- grammars one after another, which have no particles; each leads to what stands behind it
abbrev pub led_from : ℕ → List States → States
led_from first [] = []
led_from first (a ∷ others) = set first 0 (Some (first + length a)) a ++ led_from (first + length a) others
