-- What is read next, and the groups of what is read alike, by numbers and by terminals.
use Rattle.std.proofs.Common.{◌≡◌, ℕ, zero, suc, ◌+◌, ◌<◌, ◌≤◌, Bool, true, false, cond, inl, inr, List, [], ◌∷◌, ◌++◌, length, map, get_or, refl, sym, ap, subst, ◌∙◌, arith}
use Rattle.std.specs.Prelude.{◌==◌, ◌||◌, Option, None, Some, slice_get, All, if◌then◌else◌}
use Rattle.std.proofs.lemmas.Bool.{cases_Bool, eqb-true}
use Rattle.std.proofs.lemmas.List.Elements.{All-nil, All-cons, All-head, All-tail}
use Rattle.std.proofs.lemmas.Option.{get_or_from_slice_get, slice_get_within}
use Rattle.exi_gram.specs.Reaching.{is_among}
use Rattle.exi_gram.specs.Terminals.{StepRule, Symbol, sd}
use Rattle.exi_draft.specs.Drafts.{States, is_end}
use Rattle.exi_normal.specs.Normals as normal
use Rattle.exi_normal.specs.Normals.{Met, Row, least, merged, met, met_by, met_from, row_of, rows_from, same_inner, same_symbol, step_count, steps_at, targets_of, with_met, with_targets}
use Rattle.exi_normal.specs.Numbers.{group_of, groups_from, into, joined, move_count, moves_at, read_by, reading, readings, readings_from, with_reading}
use Rattle.exi_normal.specs.Spots.{row_by, row_seen}
use Rattle.exi_normal.specs.Steps.{AreApart, ShowsOn, ShowsState, ShowsStates, ShowsStep, symbol_at}
use Rattle.exi_normal.specs.declared.groups.Group.{Group}
use Rattle.exi_normal.specs.declared.numbered.Move.{Move}
use Rattle.exi_normal.specs.declared.walk.Reading.{Reading}
use Rattle.exi_normal.proofs.Same.{same_number}
use Rattle.exi_normal.proofs.Seen.{more_at_end}

abbrev pub met_seen : List Symbol → Reading → Met
met_seen ss r = record { on = symbol_at ss r.on; to = r.to; inner = r.inner; particle = r.particle }

abbrev pub IsThere : List Symbol → Reading → Type 0
IsThere ss r = r.on < length ss

-- ---- what is read next
read_alike : (ss : List Symbol) (m : Move) (s : StepRule) (o : Option ℕ) (p : Option Symbol) (others free : List Reading) (mets frees : List Met)
    → ShowsOn ss o p → m.to ≡ s.to → m.inner ≡ s.inner → m.particle ≡ s.particle → mets ≡ map (met_seen ss) others → frees ≡ map (met_seen ss) free
    → met_by s p mets frees ≡ map (met_seen ss) (read_by m o others free)
read_alike ss m s None None others free mets frees h to inner particle a b = b
read_alike ss m s None (Some on) others free mets frees h to inner particle a b = absurd h
read_alike ss m s (Some n) None others free mets frees h to inner particle a b = absurd h
read_alike ss m s (Some n) (Some on) others free mets frees h to inner particle a b =
    let e : symbol_at ss n ≡ on = get_or_from_slice_get ss n on sd h in
    λ i. record { on = sym e i; to = sym to i; inner = sym inner i; particle = sym particle i } ∷ a i

there_alike : (ss : List Symbol) (m : Move) (o : Option ℕ) (p : Option Symbol) (others free : List Reading) → ShowsOn ss o p → All (IsThere ss) others → All (IsThere ss) free → All (IsThere ss) (read_by m o others free)
there_alike ss m None p others free h a b = b
there_alike ss m (Some n) None others free h a b = absurd h
there_alike ss m (Some n) (Some on) others free h a b = All-cons (IsThere ss) (reading n m) others (slice_get_within ss n on h) a

steps_shown : (ss : List Symbol) (states : List (List Move)) (drafts : States) (p : ℕ) → ShowsStates ss states drafts → ShowsState ss (moves_at states p) (steps_at drafts p)
steps_shown ss [] [] p h = tt
steps_shown ss [] (d ∷ drafts) p h = absurd h
steps_shown ss (ms ∷ states) [] p h = absurd h
steps_shown ss (ms ∷ states) (d ∷ drafts) zero h = h.0
steps_shown ss (ms ∷ states) (d ∷ drafts) (suc p) h = steps_shown ss states drafts p h.1

shown_append : (ss : List Symbol) (ms ns : List Move) (ts us : List StepRule) → ShowsState ss ms ts → ShowsState ss ns us → ShowsState ss (ms ++ ns) (ts ++ us)
shown_append ss [] ns [] us h k = k
shown_append ss [] ns (t ∷ ts) us h k = absurd h
shown_append ss (m ∷ ms) ns [] us h k = absurd h
shown_append ss (m ∷ ms) ns (t ∷ ts) us h k = (h.0, shown_append ss ms ns ts us h.1 k)

-- the same states are seen
abbrev AreSeen : List ℕ → List ℕ → Type 0
AreSeen seen others = (p : ℕ) → is_among p seen ≡ is_among p others

seen_more : (seen others : List ℕ) (p : ℕ) → AreSeen seen others → AreSeen (seen ++ p ∷ []) (p ∷ others)
seen_more seen others p h q = more_at_end p seen q ∙ ap (λ b. q == p || b) (h q)

cond_alike : {X Y : Type 0} (f : X → Y) (a b : Bool) (x y : List X) (u v : List Y) → a ≡ b → u ≡ map f x → v ≡ map f y → cond b u v ≡ map f (cond a x y)
cond_alike f true b x y u v e p q = ap (λ c. cond c u v) (sym e) ∙ p
cond_alike f false b x y u v e p q = ap (λ c. cond c u v) (sym e) ∙ q

met_alike : (ss : List Symbol) (states : List (List Move)) (drafts : States) → ShowsStates ss states drafts → (n : ℕ) (seen others : List ℕ) (ms : List Move) (steps : List StepRule)
    → AreSeen seen others → ShowsState ss ms steps → met drafts n others steps ≡ map (met_seen ss) (readings states n seen ms)
unfolding met readings
met_alike ss states drafts shows zero seen others ms steps same h = refl
met_alike ss states drafts shows (suc n) seen others [] [] same h = refl
met_alike ss states drafts shows (suc n) seen others [] (s ∷ steps) same h = absurd h
met_alike ss states drafts shows (suc n) seen others (m ∷ ms) [] same h = absurd h
met_alike ss states drafts shows (suc n) seen others (m ∷ ms) (s ∷ steps) same h =
    let to : m.to ≡ s.to = h.0.to in
    let rest : met drafts n others steps ≡ map (met_seen ss) (readings states n seen ms) = met_alike ss states drafts shows n seen others ms steps same h.1 in
    let more : AreSeen (seen ++ m.to ∷ []) (s.to ∷ others) = subst (λ (p : ℕ). AreSeen (seen ++ m.to ∷ []) (p ∷ others)) to (seen_more seen others m.to same) in
    let todo : ShowsState ss (moves_at states m.to ++ ms) (steps_at drafts s.to ++ steps) = shown_append ss (moves_at states m.to) ms (steps_at drafts s.to) steps (subst (λ (p : ℕ). ShowsState ss (moves_at states m.to) (steps_at drafts p)) to (steps_shown ss states drafts m.to shows)) h.1 in
    let free : met drafts n (s.to ∷ others) (steps_at drafts s.to ++ steps) ≡ map (met_seen ss) (readings states n (seen ++ m.to ∷ []) (moves_at states m.to ++ ms)) = met_alike ss states drafts shows n (seen ++ m.to ∷ []) (s.to ∷ others) (moves_at states m.to ++ ms) (steps_at drafts s.to ++ steps) more todo in
    let among : is_among m.to seen ≡ is_among s.to others = same m.to ∙ ap (λ p. is_among p others) to in
    read_alike ss m s m.on s.on (readings states n seen ms) (cond (is_among m.to seen) (readings states n seen ms) (readings states n (seen ++ m.to ∷ []) (moves_at states m.to ++ ms))) (met drafts n others steps) (cond (is_among s.to others) (met drafts n others steps) (met drafts n (s.to ∷ others) (steps_at drafts s.to ++ steps)))
    h.0.on to h.0.inner h.0.particle rest
    (cond_alike (met_seen ss) (is_among m.to seen) (is_among s.to others) (readings states n seen ms) (readings states n (seen ++ m.to ∷ []) (moves_at states m.to ++ ms)) (met drafts n others steps) (met drafts n (s.to ∷ others) (steps_at drafts s.to ++ steps)) among rest free)

all_by : (P : Reading → Type 0) (b : Bool) (xs ys : List Reading) → All P xs → All P ys → All P (cond b xs ys)
all_by P true xs ys h k = h
all_by P false xs ys h k = k

readings_there : (ss : List Symbol) (states : List (List Move)) (drafts : States) → ShowsStates ss states drafts → (n : ℕ) (seen : List ℕ) (ms : List Move) (steps : List StepRule)
    → ShowsState ss ms steps → All (IsThere ss) (readings states n seen ms)
unfolding readings
readings_there ss states drafts shows zero seen ms steps h = All-nil (IsThere ss)
readings_there ss states drafts shows (suc n) seen [] steps h = All-nil (IsThere ss)
readings_there ss states drafts shows (suc n) seen (m ∷ ms) [] h = absurd h
readings_there ss states drafts shows (suc n) seen (m ∷ ms) (s ∷ steps) h =
    let rest : All (IsThere ss) (readings states n seen ms) = readings_there ss states drafts shows n seen ms steps h.1 in
    let free : All (IsThere ss) (readings states n (seen ++ m.to ∷ []) (moves_at states m.to ++ ms)) = readings_there ss states drafts shows n (seen ++ m.to ∷ []) (moves_at states m.to ++ ms) (steps_at drafts m.to ++ steps) (shown_append ss (moves_at states m.to) ms (steps_at drafts m.to) steps (steps_shown ss states drafts m.to shows) h.1) in
    there_alike ss m m.on s.on (readings states n seen ms) (cond (is_among m.to seen) (readings states n seen ms) (readings states n (seen ++ m.to ∷ []) (moves_at states m.to ++ ms))) h.0.on rest
    (all_by (IsThere ss) (is_among m.to seen) (readings states n seen ms) (readings states n (seen ++ m.to ∷ []) (moves_at states m.to ++ ms)) rest free)

into_shown : (ss : List Symbol) (members : List ℕ) → ShowsState ss (map into members) (map normal.into members)
into_shown ss [] = tt
into_shown ss (m ∷ members) = (record { on = tt; to = refl; inner = refl; particle = refl }, into_shown ss members)

state_length : (ss : List Symbol) (ms : List Move) (steps : List StepRule) → ShowsState ss ms steps → length ms ≡ length steps
state_length ss [] [] h = refl
state_length ss [] (s ∷ steps) h = absurd h
state_length ss (m ∷ ms) [] h = absurd h
state_length ss (m ∷ ms) (s ∷ steps) h = ap suc (state_length ss ms steps h.1)

count_alike : (ss : List Symbol) (states : List (List Move)) (drafts : States) → ShowsStates ss states drafts → move_count states ≡ step_count drafts
count_alike ss [] [] h = refl
count_alike ss [] (d ∷ drafts) h = absurd h
count_alike ss (ms ∷ states) [] h = absurd h
count_alike ss (ms ∷ states) (d ∷ drafts) h = let a = state_length ss ms d h.0 in let b = count_alike ss states drafts h.1 in λ i. a i + b i

pub met_from_alike : (ss : List Symbol) (states : List (List Move)) (drafts : States) (members : List ℕ) → ShowsStates ss states drafts → met_from drafts members ≡ map (met_seen ss) (readings_from states members)
met_from_alike ss states drafts members h =
    ap (λ (n : ℕ). met drafts (suc (length members + n)) [] (map normal.into members)) (sym (count_alike ss states drafts h))
    ∙ met_alike ss states drafts h (suc (length members + move_count states)) [] [] (map into members) (map normal.into members) (λ p. refl) (into_shown ss members)

pub readings_from_there : (ss : List Symbol) (states : List (List Move)) (drafts : States) (members : List ℕ) → ShowsStates ss states drafts → All (IsThere ss) (readings_from states members)
readings_from_there ss states drafts members h = readings_there ss states drafts h (suc (length members + move_count states)) [] (map into members) (map normal.into members) (into_shown ss members)

-- ---- what is read alike
targets_then : (front back ts : List ℕ) → with_targets (front ++ back) ts ≡ with_targets back (with_targets front ts)
targets_then [] back ts = refl
targets_then (t ∷ front) back ts = targets_then front back (if is_among t ts then ts else ts ++ t ∷ [])

joined_targets : (b : Bool) (t : ℕ) (ts : List ℕ) → with_targets (cond b [] (t ∷ [])) (cond b [] (with_targets ts [])) ≡ cond b [] (with_targets (ts ++ t ∷ []) [])
joined_targets true t ts = refl
joined_targets false t ts = sym (targets_then ts (t ∷ []) [])

first_targets : (b : Bool) (t : ℕ) → cond b [] (t ∷ []) ≡ cond b [] (with_targets (t ∷ []) [])
first_targets true t = refl
first_targets false t = refl

row_of_seen : (ss : List Symbol) (r : Reading) → row_of (met_seen ss r) ≡ row_seen ss (group_of r)
row_of_seen ss r = let e = first_targets (is_end (symbol_at ss r.on)) r.to in λ i. record { on = symbol_at ss r.on; targets = e i; inner = r.inner; differs = false; particle = r.particle }

merged_seen : (ss : List Symbol) (r : Reading) (g : Group) → r.on ≡ g.on → merged (met_seen ss r) (row_seen ss g) ≡ row_seen ss (joined r g)
merged_seen ss r g e =
    let t = ap (λ (n : ℕ). with_targets (cond (is_end (symbol_at ss n)) [] (r.to ∷ [])) (cond (is_end (symbol_at ss g.on)) [] (with_targets g.targets []))) e ∙ joined_targets (is_end (symbol_at ss g.on)) r.to g.targets in
    λ i. record {
      on = symbol_at ss g.on;
      targets = t i;
      inner = g.inner;
      differs = g.differs || (if same_inner r.inner g.inner then false else true);
      particle = least r.particle g.particle;
    }

with_by : (ss : List Symbol) (r : Reading) (g : Group) (gs : List Group) (b : Bool) → (r.on == g.on) ≡ b → with_met (met_seen ss r) (map (row_seen ss) gs) ≡ map (row_seen ss) (with_reading r gs)
    → cond b (merged (met_seen ss r) (row_seen ss g) ∷ map (row_seen ss) gs) (row_seen ss g ∷ with_met (met_seen ss r) (map (row_seen ss) gs)) ≡ map (row_seen ss) (cond b (joined r g ∷ gs) (g ∷ with_reading r gs))
with_by ss r g gs true e h = ap (λ x. x ∷ map (row_seen ss) gs) (merged_seen ss r g (eqb-true r.on g.on e))
with_by ss r g gs false e h = ap (λ x. row_seen ss g ∷ x) h

abbrev pub AreThere : List Symbol → List Group → Type 0
AreThere ss gs = All (λ g. g.on < length ss) gs

with_alike : (ss : List Symbol) → AreApart ss → (r : Reading) (gs : List Group) → IsThere ss r → AreThere ss gs → with_met (met_seen ss r) (map (row_seen ss) gs) ≡ map (row_seen ss) (with_reading r gs)
with_alike ss apart r [] there all = ap (λ x. x ∷ []) (row_of_seen ss r)
with_alike ss apart r (g ∷ gs) there all =
    let same : same_symbol (symbol_at ss r.on) (symbol_at ss g.on) ≡ (r.on == g.on) = same_number ss apart r.on g.on there (All-head (λ (g : Group). g.on < length ss) g gs all) in
    let h = with_alike ss apart r gs there (All-tail (λ (g : Group). g.on < length ss) g gs all) in
    ap (λ b. cond b (merged (met_seen ss r) (row_seen ss g) ∷ map (row_seen ss) gs) (row_seen ss g ∷ with_met (met_seen ss r) (map (row_seen ss) gs))) same ∙ with_by ss r g gs (r.on == g.on) refl h

with_there_by : (ss : List Symbol) (r : Reading) (g : Group) (gs : List Group) (b : Bool) → g.on < length ss → AreThere ss gs → AreThere ss (with_reading r gs) → AreThere ss (cond b (joined r g ∷ gs) (g ∷ with_reading r gs))
with_there_by ss r g gs true less all h = All-cons (λ (g : Group). g.on < length ss) (joined r g) gs less all
with_there_by ss r g gs false less all h = All-cons (λ (g : Group). g.on < length ss) g (with_reading r gs) less h

with_there : (ss : List Symbol) (r : Reading) (gs : List Group) → IsThere ss r → AreThere ss gs → AreThere ss (with_reading r gs)
with_there ss r [] there all = All-cons (λ (g : Group). g.on < length ss) (group_of r) [] there all
with_there ss r (g ∷ gs) there all =
    let rest = All-tail (λ (g : Group). g.on < length ss) g gs all in
    with_there_by ss r g gs (r.on == g.on) (All-head (λ (g : Group). g.on < length ss) g gs all) rest (with_there ss r gs there rest)

pub groups_there : (ss : List Symbol) (gs : List Group) (rs : List Reading) → All (IsThere ss) rs → AreThere ss gs → AreThere ss (groups_from gs rs)
groups_there ss gs [] there all = all
groups_there ss gs (r ∷ rs) there all = groups_there ss (with_reading r gs) rs (All-tail (IsThere ss) r rs there) (with_there ss r gs (All-head (IsThere ss) r rs there) all)

pub groups_alike : (ss : List Symbol) → AreApart ss → (gs : List Group) (rs : List Reading) → All (IsThere ss) rs → AreThere ss gs → rows_from (map (row_seen ss) gs) (map (met_seen ss) rs) ≡ map (row_seen ss) (groups_from gs rs)
groups_alike ss apart gs [] there all = refl
groups_alike ss apart gs (r ∷ rs) there all =
    let here : IsThere ss r = All-head (IsThere ss) r rs there in
    ap (λ (z : List Row). rows_from z (map (met_seen ss) rs)) (with_alike ss apart r gs here all)
    ∙ groups_alike ss apart (with_reading r gs) rs (All-tail (IsThere ss) r rs there) (with_there ss r gs here all)

-- ---- the rows of the states of a list
pub rows_alike : (ss : List Symbol) (states : List (List Move)) (drafts : States) (members : List ℕ) → AreApart ss → ShowsStates ss states drafts
    → map (row_seen ss) (groups_from [] (readings_from states members)) ≡ rows_from [] (met_from drafts members)
rows_alike ss states drafts members apart h =
    sym (ap (rows_from []) (met_from_alike ss states drafts members h) ∙ groups_alike ss apart [] (readings_from states members) (readings_from_there ss states drafts members h) (All-nil (λ (g : Group). g.on < length ss)))

pub rows_there : (ss : List Symbol) (states : List (List Move)) (drafts : States) (members : List ℕ) → ShowsStates ss states drafts → AreThere ss (groups_from [] (readings_from states members))
rows_there ss states drafts members h = groups_there ss [] (readings_from states members) (readings_from_there ss states drafts members h) (All-nil (λ (g : Group). g.on < length ss))
