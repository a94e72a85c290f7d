-- The states of a normal grammar, until all are known; and the grammar itself.
use Rattle.std.proofs.Common.{◌≡◌, ℕ, zero, suc, ◌+◌, ◌-◌, ◌<◌, ◌≤◌, Bool, true, false, cond, List, [], ◌∷◌, ◌++◌, length, map, get_or, refl, sym, ap, subst, ◌∙◌, arith}
use Rattle.std.specs.Prelude.{◌||◌, Result, Ok, Err, filter, ltb}
use Rattle.std.proofs.lemmas.Bool.{lt-ltb, le-ltb}
use Rattle.std.proofs.lemmas.List.{length-map, length_push}
use Rattle.exi_draft.specs.Drafts.{Draft, States, draft_of}
use Rattle.exi_gram.specs.Orders.{in_order}
use Rattle.exi_gram.specs.Terminals.{Rule, Rules, Symbol, rule}
use Rattle.exi_gram.specs.declared.grammar.Production.{Production}
use Rattle.exi_normal.specs.Normals.{Refusal, Row, Work, all_states, any_differ, by_particle, differ, met_from, normal_made, normal_of, number_of, reached_states, rows_from, rows_of, rules_from, too_large, with_list, with_one_list, with_rows, worked}
use Rattle.exi_normal.specs.Promises.{Normalizes}
use Rattle.exi_normal.specs.Spots.{arranged, is_before, put_in, reads_element, row_at, row_seen}
use Rattle.exi_normal.specs.Working.{Reaches, found_none, next_of, work_of}
use Rattle.exi_normal.specs.declared.groups.Group.{Group}
use Rattle.exi_normal.specs.declared.order.Spot.{Spot}
use Rattle.exi_normal.specs.declared.stop.NormalStop.{NormalStop}
use Rattle.exi_normal.specs.declared.stop.NormalStop.TheVariants as stop
use Rattle.exi_normal.specs.declared.work.Found.{Found}
use Rattle.exi_normal.proofs.Ordered.{arranged_is}
use Rattle.exi_normal.proofs.Works.{few_over, grows_with, is_over, next_grows, same_over, worked_many, worked_none, worked_on, worked_over}

pub states_length : (f : Found) → length (work_of f).states ≡ length f.states
states_length f = length-map f.states (map rule)

-- ---- turn by turn
pub run_start : (states : States) (most : ℕ) (w : Work) → worked states most (suc most - 0) w ≡ worked states most (suc most) w
run_start states most w = let z : suc most - 0 ≡ suc most = omega arith in ap (λ (n : ℕ). worked states most n w) z

pub run_many : (states : States) (most n : ℕ) (f : Found) (all : Work) → most < length f.lists → worked states most n (work_of f) ≡ all → work_of f ≡ all
run_many states most n f all less e = sym (worked_many states most n (work_of f) less) ∙ e

pub run_same : (states : States) (most n : ℕ) (f : Found) (all : Work) → length f.states ≡ length f.lists → worked states most n (work_of f) ≡ all → work_of f ≡ all
run_same states most n f all same e = sym (worked_over states most n (work_of f) (same_over most (work_of f) (states_length f ∙ same))) ∙ e

pub run_end : (states : States) (most turn : ℕ) (f : Found) (all : Work) → most + 1 ≤ turn → worked states most (suc most - turn) (work_of f) ≡ all → work_of f ≡ all
run_end states most turn f all le e =
    let z : suc most - turn ≡ 0 = omega (arith, le) in
    sym (worked_none states most (work_of f)) ∙ ap (λ (n : ℕ). worked states most n (work_of f)) (sym z) ∙ e

turn_on : (states : States) (most turn : ℕ) (w : Work) → turn < most + 1 → is_over most w ≡ false → worked states most (suc most - turn) w ≡ worked states most (suc most - (turn + 1)) (next_of states w)
turn_on states most turn w less over =
    let z : suc most - turn ≡ suc (suc most - (turn + 1)) = omega (arith, less) in
    ap (λ (n : ℕ). worked states most n w) z ∙ worked_on states most (suc most - (turn + 1)) w over

less_apart : (a b c : ℕ) → a ≡ b → b < c → a ≡ c → ⊥
less_apart a b c s l e = absurd (omega (arith, s, l, e))

not_over : (most : ℕ) (f : Found) → length f.lists ≤ most → length f.states < length f.lists → is_over most (work_of f) ≡ false
not_over most f few behind = few_over most (work_of f) few (less_apart (length (work_of f).states) (length f.states) (length f.lists) (states_length f) behind)

pub run_next : (states : States) (most turn : ℕ) (f new : Found) (all : Work) → turn < most + 1 → length f.lists ≤ most → length f.states < length f.lists → work_of new ≡ next_of states (work_of f)
    → worked states most (suc most - turn) (work_of f) ≡ all → worked states most (suc most - (turn + 1)) (work_of new) ≡ all
run_next states most turn f new all less few behind is e =
    ap (λ (w : Work). worked states most (suc most - (turn + 1)) w) is ∙ sym (turn_on states most turn (work_of f) less (not_over most f few behind)) ∙ e

behind_by : (ns nl fs fl ws xl : ℕ) → ns ≡ ws + 1 → ws ≡ fs → nl ≡ xl → fl ≤ xl → fs < fl → ns ≤ nl
behind_by ns nl fs fl ws xl a b c d e = omega (arith, a, b, c, d, e)

pub behind_next : (states : States) (f new : Found) → length f.states < length f.lists → work_of new ≡ next_of states (work_of f) → length new.states ≤ length new.lists
behind_next states f new behind is =
    behind_by (length new.states) (length new.lists) (length f.states) (length f.lists) (length (work_of f).states) (length (next_of states (work_of f)).lists)
    (sym (states_length new) ∙ ap (λ (w : Work). length w.states) is ∙ length_push (work_of f).states (rules_from (length (work_of f).states) (rows_of states (get_or f.lists (length (work_of f).states) [])) f.lists))
    (states_length f)
    (ap (λ (w : Work). length w.lists) is)
    (next_grows states (work_of f))
    behind

pub run_stops : (states : States) (most turn : ℕ) (f : Found) (all : Work) (e : NormalStop) → turn < most + 1 → length f.lists ≤ most → length f.states < length f.lists
    → worked states most (suc most - turn) (work_of f) ≡ all → Reaches {X = Unit {0}} most (next_of states (work_of f)).lists (Err e) → Reaches {X = Unit {0}} most all.lists (Err e)
run_stops states most turn f all stop.TooLarge less few behind e h =
    let s : next_of states (work_of f) ≡ all = sym (worked_many states most (suc most - (turn + 1)) (next_of states (work_of f)) h) ∙ sym (turn_on states most turn (work_of f) less (not_over most f few behind)) ∙ e in
    subst (λ (w : Work). most < length w.lists) s h
run_stops states most turn f all stop.Differ less few behind e h = absurd h
run_stops states most turn f all stop.Memory less few behind e h = tt

-- ---- one state
put_by : {X : Type 0} (b : Bool) (s x : X) (u v : List X) (n : ℕ) → length u ≡ n → length v ≡ n → length (cond b (s ∷ u) (x ∷ v)) ≡ suc n
put_by true s x u v n e f = ap suc e
put_by false s x u v n e f = ap suc f

put_length : {X : Type 0} (test : X → Bool) (sorted xs : List X) → length (put_in test sorted xs) ≡ length xs
put_length test sorted [] = refl
put_length test [] (x ∷ xs) = ap suc (put_length test [] xs)
put_length test (s ∷ sorted) (x ∷ xs) = put_by (test x) s x (put_in test sorted xs) (put_in test (s ∷ sorted) xs) (length xs) (put_length test sorted xs) (put_length test (s ∷ sorted) xs)

pub arranged_length : (old new : List Spot) → new ≡ arranged old → length new ≡ length old
arranged_length old new e = ap length e ∙ put_length reads_element (in_order is_before (filter reads_element old)) old

pub next_rows : (ss : List Symbol) (states : States) (members : List ℕ) (groups : List Group) (old new : List Spot)
    → map (row_seen ss) groups ≡ rows_from [] (met_from states members) → map row_at old ≡ map (row_seen ss) groups → new ≡ arranged old → map row_at new ≡ rows_of states members
next_rows ss states members groups old new a b e = arranged_is old new e ∙ ap by_particle (b ∙ a)

pub next_members : (f : Found) (states : States) (own : ℕ) → own ≡ length f.states → rows_of states (get_or f.lists own []) ≡ rows_of states (get_or f.lists (length (work_of f).states) [])
next_members f states own e = ap (λ (n : ℕ). rows_of states (get_or f.lists n [])) (e ∙ sym (states_length f))

pub next_stops : (most : ℕ) (states : States) (f : Found) (rows : List Row) (e : NormalStop) → rows ≡ rows_of states (get_or f.lists (length (work_of f).states) [])
    → Reaches {X = Unit {0}} most (with_rows rows f.lists) (Err e) → Reaches {X = Unit {0}} most (next_of states (work_of f)).lists (Err e)
next_stops most states f rows e r h = subst (λ (z : List Row). Reaches {X = Unit {0}} most (with_rows z f.lists) (Err e)) r h

rules_push : (states : List (List Production)) (rules : List Production) → map (map rule) (states ++ rules ∷ []) ≡ map (map rule) states ++ map rule rules ∷ []
rules_push [] rules = refl
rules_push (s ∷ states) rules = ap (λ z. map rule s ∷ z) (rules_push states rules)

pub next_is : (states : States) (f new : Found) (rows : List Row) (rules : List Production) (own : ℕ) → own ≡ length f.states → rows ≡ rows_of states (get_or f.lists (length (work_of f).states) [])
    → new.lists ≡ with_rows rows f.lists → new.states ≡ f.states ++ rules ∷ [] → map rule rules ≡ rules_from own rows f.lists → new.differs ≡ (f.differs || any_differ rows) → work_of new ≡ next_of states (work_of f)
next_is states f new rows rules own o r lists all these differs =
    let a : new.lists ≡ with_rows (rows_of states (get_or f.lists (length (work_of f).states) [])) f.lists = lists ∙ ap (λ (z : List Row). with_rows z f.lists) r in
    let m : map rule rules ≡ rules_from (length (work_of f).states) (rows_of states (get_or f.lists (length (work_of f).states) [])) f.lists = these ∙ (λ i. rules_from ((o ∙ sym (states_length f)) i) (r i) f.lists) in
    let b : map (map rule) new.states ≡ map (map rule) f.states ++ rules_from (length (work_of f).states) (rows_of states (get_or f.lists (length (work_of f).states) [])) f.lists ∷ [] = ap (map (map rule)) all ∙ rules_push f.states rules ∙ ap (λ z. map (map rule) f.states ++ z ∷ []) m in
    let d : new.differs ≡ (f.differs || any_differ (rows_of states (get_or f.lists (length (work_of f).states) []))) = differs ∙ ap (λ (z : List Row). f.differs || any_differ z) r in
    λ i. record { lists = a i; states = b i; differs = d i }

pub or_first : (a b c : Bool) → a ≡ true → c ≡ a → c ≡ (a || b)
or_first a b c e f = f ∙ e ∙ sym (ap (λ z. z || b) e)

pub or_second : (a b c : Bool) → a ≡ false → c ≡ b → c ≡ (a || b)
or_second a b c e f = f ∙ sym (ap (λ z. z || b) e)

-- ---- the whole
pub first_behind : (f : Found) (w : Work) → work_of f ≡ w → length w.states ≤ length w.lists → length f.states ≤ length f.lists
first_behind f w e le =
    let h : length (work_of f).states ≤ length (work_of f).lists = subst (λ (z : Work). length z.states ≤ length z.lists) (sym e) le in
    subst (λ (n : ℕ). n ≤ length f.lists) (states_length f) h

pub second_behind : (f new : Found) (list : List ℕ) → length f.states ≤ length f.lists → work_of new ≡ with_one_list list (work_of f) → length new.states ≤ length new.lists
second_behind f new list le e =
    let g : length f.lists ≤ length (with_list list f.lists) = grows_with list f.lists in
    let m : length f.states ≤ length (with_list list f.lists) = omega (arith, le, g) in
    first_behind new (with_one_list list (work_of f)) e (subst (λ (n : ℕ). n ≤ length (with_list list f.lists)) (sym (states_length f)) m)

pub reached_is : (p q : Draft) (most : ℕ) (none w0 w1 : Work) → p.states ≡ q.states → none ≡ found_none → w0 ≡ with_one_list (0 ∷ []) none → w1 ≡ worked p.states most (suc most) w0 → w1 ≡ reached_states q most
reached_is p q most none w0 w1 d n e f =
    let s : w0 ≡ record { lists = (0 ∷ []) ∷ []; states = []; differs = false } = e ∙ ap (with_one_list (0 ∷ [])) n in
    f ∙ (λ i. worked (d i) most (suc most) (s i))

pub all_is : (p q : Draft) (most : ℕ) (w1 w2 w3 : Work) → p.states ≡ q.states → w1 ≡ reached_states q most → w2 ≡ with_one_list (q.content ∷ []) w1 → w3 ≡ worked p.states most (suc most) w2 → w3 ≡ all_states q most
all_is p q most w1 w2 w3 d r e f =
    let s : w2 ≡ with_one_list (q.content ∷ []) (reached_states q most) = e ∙ ap (with_one_list (q.content ∷ [])) r in
    f ∙ (λ i. worked (d i) most (suc most) (s i))

pub all_many : (q : Draft) (most : ℕ) → most < length (reached_states q most).lists → most < length (all_states q most).lists
all_many q most h =
    let w : Work = with_one_list (q.content ∷ []) (reached_states q most) in
    let g : length (reached_states q most).lists ≤ length w.lists = grows_with (q.content ∷ []) (reached_states q most).lists in
    let m : most < length w.lists = omega (arith, h, g) in
    subst (λ (z : Work). most < length z.lists) (sym (worked_many q.states most (suc most) w m)) m

pub made_many : (most content : ℕ) (w : Work) → most < length w.lists → normal_made most content w ≡ Err too_large
made_many most content w less = rw (lt-ltb most (length w.lists) less) refl

pub made_differs : (most content : ℕ) (w : Work) → length w.lists ≤ most → w.differs ≡ true → normal_made most content w ≡ Err differ
made_differs most content w few e = rw (le-ltb most (length w.lists) few, e) refl

pub made_whole : (most content : ℕ) (w : Work) → length w.lists ≤ most → w.differs ≡ false → normal_made most content w ≡ Ok (record { states = w.states; content = number_of (content ∷ []) w.lists })
made_whole most content w few e = rw (le-ltb most (length w.lists) few, e) refl

pub normal_many : (q : Draft) (most : ℕ) → most < length (all_states q most).lists → normal_of q most ≡ Err too_large
normal_many q most less = made_many most q.content (all_states q most) less

pub normal_first_stop : (q : Draft) (most : ℕ) (w : Work) (e : NormalStop) → w ≡ reached_states q most → Reaches {X = Unit {0}} most w.lists (Err e) → Normalizes (Err e) (normal_of q most)
normal_first_stop q most w stop.TooLarge r h = normal_many q most (all_many q most (subst (λ (z : Work). most < length z.lists) r h))
normal_first_stop q most w stop.Differ r h = absurd h
normal_first_stop q most w stop.Memory r h = tt

pub normal_second_stop : (q : Draft) (most : ℕ) (w : Work) (e : NormalStop) → w ≡ all_states q most → Reaches {X = Unit {0}} most w.lists (Err e) → Normalizes (Err e) (normal_of q most)
normal_second_stop q most w stop.TooLarge r h = normal_many q most (subst (λ (z : Work). most < length z.lists) r h)
normal_second_stop q most w stop.Differ r h = absurd h
normal_second_stop q most w stop.Memory r h = tt

pub normal_too_large : (q : Draft) (most : ℕ) (w : Work) → w ≡ all_states q most → most < length w.lists → normal_of q most ≡ Err too_large
normal_too_large q most w r h = normal_many q most (subst (λ (z : Work). most < length z.lists) r h)

pub normal_differs : (q : Draft) (most : ℕ) (w : Work) → w ≡ all_states q most → length w.lists ≤ most → w.differs ≡ true → normal_of q most ≡ Err differ
normal_differs q most w r few e = ap (normal_made most q.content) (sym r) ∙ made_differs most q.content w few e

pub normal_whole : (q : Draft) (most number : ℕ) (w : Work) → w ≡ all_states q most → length w.lists ≤ most → w.differs ≡ false → number ≡ number_of (q.content ∷ []) w.lists
    → normal_of q most ≡ Ok (record { states = w.states; content = number })
normal_whole q most number w r few e n =
    ap (normal_made most q.content) (sym r) ∙ made_whole most q.content w few e ∙ ap (λ (k : ℕ). Ok (record { states = w.states; content = k })) (sym n)
