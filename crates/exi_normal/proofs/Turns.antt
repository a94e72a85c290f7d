-- One turn of each loop.
use Rattle.std.proofs.Common.{◌≡◌, ℕ, zero, suc, ◌+◌, ◌-◌, ◌<◌, ◌≤◌, Bool, true, false, cond, List, [], ◌∷◌, ◌++◌, length, map, get_or, take, drop, refl, sym, ap, subst, ◌∙◌, arith, append_assoc}
use Rattle.std.specs.Prelude.{Err, IsErrAnd, Ok, Result}
use Rattle.std.proofs.lemmas.Bool.{le-ltb, lt-ltb}
use Rattle.std.proofs.lemmas.List.{drop_more, map_more, map_push}
use Rattle.exi_draft.specs.Drafts.{Draft, States, is_end}
use Rattle.exi_gram.specs.declared.class.Class.TheVariants as class
use Rattle.exi_gram.specs.declared.grammar.Grammar.{Grammar}
use Rattle.exi_gram.specs.Terminals.{Rule, Rules, StepRule, Symbol, step_rule, symbol}
use Rattle.exi_gram.specs.declared.grammar.Step.{Step}
use Rattle.exi_normal.specs.Normals.{Refusal, Row, Work, all_states, by_particle, differ, met_from, normal_made, normal_of, number_of, reached_states, rows_from, rows_of, rules_from, too_large, with_list, with_one_list, with_rows, with_targets}
use Rattle.exi_normal.specs.Promises.{Normalizes}
use Rattle.exi_normal.specs.Spots.{arranged, is_of, row_at, row_by, row_seen}
use Rattle.exi_normal.specs.Steps.{AreApart, KeepsSymbols, ShowsState, ShowsStates, ShowsStep, symbol_at}
use Rattle.exi_normal.specs.Working.{Reaches, target_of, with_row}
use Rattle.exi_normal.specs.declared.groups.Group.{Group}
use Rattle.exi_normal.specs.declared.numbered.Move.{Move}
use Rattle.exi_normal.specs.declared.order.Spot.{Spot}
use Rattle.exi_normal.specs.declared.stop.NormalStop.{NormalStop}
use Rattle.exi_normal.specs.declared.stop.NormalStop.TheVariants as stop
use Rattle.exi_normal.proofs.Ordered.{arranged_is}
use Rattle.exi_normal.proofs.Same.{state_kept, state_push, states_kept, states_push}
use Rattle.exi_normal.proofs.Works.{end_is, grows_rows, grows_with, rows_step, rules_step, worked_many}

-- ---- numbers
pub step_more : (ss new : List Symbol) (ms : List Move) (steps : List Step) (i : ℕ) (m : Move) (d : Step) → i < length steps → KeepsSymbols ss new → ShowsStep new m (step_rule (get_or steps i d))
    → ShowsState ss ms (map step_rule (take i steps)) → ShowsState new (ms ++ m ∷ []) (map step_rule (take (i + 1) steps))
step_more ss new ms steps i m d less k s h =
    subst (λ (z : List StepRule). ShowsState new (ms ++ m ∷ []) z) (sym (map_more step_rule steps i d less))
    (state_push new ms (map step_rule (take i steps)) m (step_rule (get_or steps i d)) (state_kept ss new ms (map step_rule (take i steps)) k h) s)

pub state_more : (ss new : List Symbol) (states : List (List Move)) (all : List (List Step)) (i : ℕ) (ms : List Move) (d : List Step) → i < length all → KeepsSymbols ss new → ShowsState new ms (map step_rule (get_or all i d))
    → ShowsStates ss states (map (map step_rule) (take i all)) → ShowsStates new (states ++ ms ∷ []) (map (map step_rule) (take (i + 1) all))
state_more ss new states all i ms d less k s h =
    subst (λ (z : List (List StepRule)). ShowsStates new (states ++ ms ∷ []) z) (sym (map_more (map step_rule) all i d less))
    (states_push new states (map (map step_rule) (take i all)) ms (map step_rule (get_or all i d)) (states_kept ss new states (map (map step_rule) (take i all)) k h) s)

-- ---- productions
pub spots_more : (ss : List Symbol) (spots : List Spot) (groups : List Group) (i : ℕ) (s : Spot) (d : Group) → i < length groups → s.group.now ≡ get_or groups i d → symbol s.terminal.now ≡ symbol_at ss (get_or groups i d).on
    → map row_at spots ≡ map (row_seen ss) (take i groups) → map row_at (spots ++ s ∷ []) ≡ map (row_seen ss) (take (i + 1) groups)
spots_more ss spots groups i s d less g t h =
    let r : row_at s ≡ row_seen ss (get_or groups i d) = λ j. row_by (t j) (g j) in
    map_push row_at spots s ∙ (λ j. h j ++ r j ∷ []) ∙ sym (map_more (row_seen ss) groups i d less)

rows_of_rest : (spots : List Spot) (i : ℕ) (d : Spot) → i < length spots → map row_at (drop i spots) ≡ row_at (get_or spots i d) ∷ map row_at (drop (i + 1) spots)
rows_of_rest spots i d less = ap (map row_at) (drop_more spots i d less)

pub rows_more : (spots : List Spot) (i : ℕ) (d : Spot) (ls : List (List ℕ)) → i < length spots → with_rows (map row_at (drop i spots)) ls ≡ with_rows (map row_at (drop (i + 1) spots)) (with_row (row_at (get_or spots i d)) ls)
rows_more spots i d ls less = ap (λ (z : List Row). with_rows z ls) (rows_of_rest spots i d less) ∙ rows_step (row_at (get_or spots i d)) (map row_at (drop (i + 1) spots)) ls

pub rules_more : (own : ℕ) (spots : List Spot) (i : ℕ) (d : Spot) (ls : List (List ℕ)) (done new : List Rule) (rule : Rule) → i < length spots
    → rule ≡ record { on = symbol (get_or spots i d).terminal.now; to = target_of own (row_at (get_or spots i d)) ls; inner = (get_or spots i d).group.now.inner } → new ≡ done ++ rule ∷ []
    → new ++ rules_from own (map row_at (drop (i + 1) spots)) (with_row (row_at (get_or spots i d)) ls) ≡ done ++ rules_from own (map row_at (drop i spots)) ls
rules_more own spots i d ls done new rule less r n =
    let rest : List Rule = rules_from own (map row_at (drop (i + 1) spots)) (with_row (row_at (get_or spots i d)) ls) in
    ap (λ z. z ++ rest) n
    ∙ append_assoc done (rule ∷ []) rest
    ∙ ap (λ z. done ++ (z ∷ rest)) r
    ∙ ap (λ z. done ++ z) (sym (rules_step own (row_at (get_or spots i d)) (map row_at (drop (i + 1) spots)) ls))
    ∙ ap (λ (z : List Row). done ++ rules_from own z ls) (sym (rows_of_rest spots i d less))

pub row_many : (most : ℕ) (spots : List Spot) (i : ℕ) (d : Spot) (ls all : List (List ℕ)) → i < length spots → most < length (with_row (row_at (get_or spots i d)) ls) → with_rows (map row_at (drop i spots)) ls ≡ all → most < length all
row_many most spots i d ls all less many e =
    let g : length (with_row (row_at (get_or spots i d)) ls) ≤ length (with_rows (map row_at (drop (i + 1) spots)) (with_row (row_at (get_or spots i d)) ls)) = grows_rows (map row_at (drop (i + 1) spots)) (with_row (row_at (get_or spots i d)) ls) in
    let same : length (with_rows (map row_at (drop (i + 1) spots)) (with_row (row_at (get_or spots i d)) ls)) ≡ length all = ap length (sym (rows_more spots i d ls less) ∙ e) in
    omega (arith, many, g, same)

-- ---- where a production leads
end_targets : (b : Bool) (own : ℕ) (s : Spot) (ls : List (List ℕ)) → is_end (symbol s.terminal.now) ≡ b → target_of own (row_at s) ls ≡ cond b own (number_of (cond b [] (with_targets s.group.now.targets [])) ls)
end_targets b own s ls e = ap (λ x. cond x own (number_of (cond x [] (with_targets s.group.now.targets [])) ls)) e

end_lists : (b : Bool) (s : Spot) (ls : List (List ℕ)) → is_end (symbol s.terminal.now) ≡ b → with_row (row_at s) ls ≡ cond b ls (with_list (cond b [] (with_targets s.group.now.targets [])) ls)
end_lists b s ls e = ap (λ x. cond x ls (with_list (cond x [] (with_targets s.group.now.targets [])) ls)) e

pub own_target : (own : ℕ) (s : Spot) (ls : List (List ℕ)) → is_of class.Ee s ≡ true → target_of own (row_at s) ls ≡ own
own_target own s ls e = end_targets true own s ls (end_is (symbol s.terminal.now) ∙ e)

pub own_lists : (s : Spot) (ls : List (List ℕ)) → is_of class.Ee s ≡ true → with_row (row_at s) ls ≡ ls
own_lists s ls e = end_lists true s ls (end_is (symbol s.terminal.now) ∙ e)

pub list_target : (own : ℕ) (s : Spot) (ls : List (List ℕ)) → is_of class.Ee s ≡ false → target_of own (row_at s) ls ≡ number_of (with_targets s.group.now.targets []) ls
list_target own s ls e = end_targets false own s ls (end_is (symbol s.terminal.now) ∙ e)

pub list_lists : (s : Spot) (ls : List (List ℕ)) → is_of class.Ee s ≡ false → with_row (row_at s) ls ≡ with_list (with_targets s.group.now.targets []) ls
list_lists s ls e = end_lists false s ls (end_is (symbol s.terminal.now) ∙ e)

-- ---- a state
pub rows_found : (ss : List Symbol) (drafts : States) (members : List ℕ) (groups lent : List Group) (spots old new now : List Spot) → map (row_seen ss) groups ≡ rows_from [] (met_from drafts members) → lent ≡ groups
    → map row_at spots ≡ map (row_seen ss) lent → old ≡ spots → new ≡ arranged old → now ≡ new → map row_at now ≡ rows_of drafts members
rows_found ss drafts members groups lent spots old new now rows l s o a n =
    ap (map row_at) n ∙ arranged_is old new a ∙ ap by_particle (ap (map row_at) o ∙ s ∙ ap (map (row_seen ss)) l ∙ rows)

-- ---- what is told where there is none
pub reaches_more : (X Y : Type 0) (most : ℕ) (few many : List (List ℕ)) (e : NormalStop) → (most < length few → most < length many) → Reaches {X = X} most few (Err e) → Reaches {X = Y} most many (Err e)
reaches_more X Y most few many stop.TooLarge f h = f h
reaches_more X Y most few many stop.Differ f h = h
reaches_more X Y most few many stop.Memory f h = tt

pub reaches_same : {X : Type 0} (most : ℕ) (lists : List (List ℕ)) (e : NormalStop) (r : Result X NormalStop) → IsErrAnd r (λ f. f ≡ e) → Reaches {X = X} most lists (Err e) → Reaches most lists r
reaches_same most lists e (Ok x) s h = tt
reaches_same {X} most lists e (Err f) s h = subst (λ (g : NormalStop). Reaches {X = X} most lists (Err g)) (sym s) h

-- ---- the whole
pub made_large : (most content : ℕ) (w : Work) → most < length w.lists → normal_made most content w ≡ Err too_large
made_large most content w less = rw (lt-ltb most (length w.lists) less) refl

pub made_differ : (most content : ℕ) (w : Work) → length w.lists ≤ most → w.differs ≡ true → normal_made most content w ≡ Err differ
made_differ most content w le d = rw (le-ltb most (length w.lists) le, d) refl

pub made_whole : (most content : ℕ) (w : Work) → length w.lists ≤ most → w.differs ≡ false → normal_made most content w ≡ Ok (record { states = w.states; content = number_of (content ∷ []) w.lists })
made_whole most content w le d = rw (le-ltb most (length w.lists) le, d) refl

pub first_large : (d : Draft) (most : ℕ) → most < length (reached_states d most).lists → normal_of d most ≡ Err too_large
first_large d most less =
    let more : length (reached_states d most).lists ≤ length (with_list (d.content ∷ []) (reached_states d most).lists) = grows_with (d.content ∷ []) (reached_states d most).lists in
    let many : most < length (with_one_list (d.content ∷ []) (reached_states d most)).lists = omega (arith, less, more) in
    made_large most d.content (all_states d most) (subst (λ (w : Work). most < length w.lists) (sym (worked_many d.states most (suc most) (with_one_list (d.content ∷ []) (reached_states d most)) many)) many)

pub second_large : (d : Draft) (most : ℕ) → most < length (all_states d most).lists → normal_of d most ≡ Err too_large
second_large d most less = made_large most d.content (all_states d most) less

pub stops_so : (most : ℕ) (lists : List (List ℕ)) (e : NormalStop) (r : Result Grammar NormalStop) (made : Result Rules Refusal) → IsErrAnd r (λ f. f ≡ e) → (most < length lists → made ≡ Err too_large) → Reaches {X = Unit {0}} most lists (Err e) → Normalizes r made
stops_so most lists e (Ok g) made s f h = absurd s
stops_so most lists e (Err g) made s f h = subst (λ (x : NormalStop). Normalizes (Err x) made) (sym s) (told e h)
  where
    told : (x : NormalStop) → Reaches {X = Unit {0}} most lists (Err x) → Normalizes (Err x) made
    told stop.TooLarge k = f k
    told stop.Differ k = absurd k
    told stop.Memory k = tt
