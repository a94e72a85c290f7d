-- Numbers of terminals are the same exactly where the terminals are.
use Rattle.std.proofs.Common.{◌≡◌, ℕ, zero, suc, ◌+◌, ◌<◌, ◌≤◌, Bool, true, false, cond, inl, inr, List, [], ◌∷◌, ◌++◌, length, map, get_or, refl, sym, ap, subst, ◌∙◌, arith, append_assoc, length-append}
use Rattle.std.specs.Prelude.{◌==◌, ◌||◌, Option, None, Some, slice_get}
use Rattle.std.specs.List.{list_any, position_or_len}
use Rattle.std.proofs.lemmas.Bool.{both_ways, cases_Bool, eqb-true, eqb-false, eq-eqb, ne_eqb, or_parts, false_from_ne_true}
use Rattle.std.proofs.lemmas.List.{append-nil}
use Rattle.std.proofs.lemmas.List.Folds.{list_any_at}
use Rattle.exi_gram.specs.Terminals.{StepRule, Symbol, sd}
use Rattle.exi_normal.specs.KeyLaws.{symbol_is, symbol_same}
use Rattle.exi_normal.specs.Normals.{same_symbol}
use Rattle.exi_normal.specs.Steps.{AreApart, KeepsSymbols, ShowsOn, ShowsState, ShowsStates, ShowsStep, symbol_at, symbol_number, with_symbol}
use Rattle.exi_normal.specs.declared.numbered.Move.{Move}
use Rattle.exi_draft.specs.Drafts.{States}

apart_first : (s : Symbol) (ss : List Symbol) (b : ℕ) → list_any (same_symbol s) ss ≡ false → b < length ss → s ≡ get_or ss b sd → ⊥
apart_first s ss b f less e =
    both_ways (list_any (same_symbol s) ss) f (list_any_at (same_symbol s) ss b sd less (ap (same_symbol s) (sym e) ∙ symbol_same s))

apart_at : (ss : List Symbol) → AreApart ss → (a b : ℕ) → a < length ss → b < length ss → symbol_at ss a ≡ symbol_at ss b → a ≡ b
apart_at [] h a b less below e = absurd (omega (arith, less))
apart_at (s ∷ ss) h zero zero less below e = refl
apart_at (s ∷ ss) h zero (suc b) less below e = absurd (apart_first s ss b h.0 (omega (arith, below)) e)
apart_at (s ∷ ss) h (suc a) zero less below e = absurd (apart_first s ss a h.0 (omega (arith, less)) (sym e))
apart_at (s ∷ ss) h (suc a) (suc b) less below e = ap suc (apart_at ss h.1 a b (omega (arith, less)) (omega (arith, below)) e)

pub same_number : (ss : List Symbol) → AreApart ss → (a b : ℕ) → a < length ss → b < length ss → same_symbol (symbol_at ss a) (symbol_at ss b) ≡ (a == b)
same_number ss h a b less below = elim (cases_Bool (a == b)) [
  | inl e ↦ ap (λ k. same_symbol (symbol_at ss k) (symbol_at ss b)) (eqb-true a b e) ∙ symbol_same (symbol_at ss b) ∙ sym e
  | inr n ↦ false_from_ne_true (same_symbol (symbol_at ss a) (symbol_at ss b)) (λ t. eqb-false a b n (apart_at ss h a b less below (symbol_is (symbol_at ss a) (symbol_at ss b) t))) ∙ sym n
]

-- ---- one terminal more
sym_false : (a b : Symbol) → same_symbol a b ≡ false → same_symbol b a ≡ false
sym_false a b f = false_from_ne_true (same_symbol b a) (λ t. both_ways (same_symbol a b) f (ap (same_symbol a) (symbol_is b a t) ∙ symbol_same a))

any_push : (s t : Symbol) (ss : List Symbol) → list_any (same_symbol s) ss ≡ false → same_symbol s t ≡ false → list_any (same_symbol s) (ss ++ t ∷ []) ≡ false
any_push s t [] f g = rw g refl
any_push s t (u ∷ ss) f g = let p = or_parts (same_symbol s u) (list_any (same_symbol s) ss) f in rw p.0 (any_push s t ss p.1 g)

apart_push : (t : Symbol) (ss : List Symbol) → AreApart ss → list_any (same_symbol t) ss ≡ false → AreApart (ss ++ t ∷ [])
apart_push t [] h f = (refl, tt)
apart_push t (s ∷ ss) h f =
    let p = or_parts (same_symbol t s) (list_any (same_symbol t) ss) f in
    (any_push s t ss h.0 (sym_false t s p.0), apart_push t ss h.1 p.1)

apart_by : (b : Bool) (s : Symbol) (ss : List Symbol) → AreApart ss → list_any (same_symbol s) ss ≡ b → AreApart (cond b ss (ss ++ s ∷ []))
apart_by true s ss h e = h
apart_by false s ss h e = apart_push s ss h e

pub apart_with : (s : Symbol) (ss : List Symbol) → AreApart ss → AreApart (with_symbol s ss)
apart_with s ss h = apart_by (list_any (same_symbol s) ss) s ss h refl

kept_by : (b : Bool) (s : Symbol) (ss : List Symbol) → KeepsSymbols ss (cond b ss (ss ++ s ∷ []))
kept_by true s ss = ([], sym (append-nil ss))
kept_by false s ss = (s ∷ [], refl)

pub kept_with : (s : Symbol) (ss : List Symbol) → KeepsSymbols ss (with_symbol s ss)
kept_with s ss = kept_by (list_any (same_symbol s) ss) s ss

pub kept_same : (ss : List Symbol) → KeepsSymbols ss ss
kept_same ss = ([], sym (append-nil ss))

pub kept_then : (a b c : List Symbol) → KeepsSymbols a b → KeepsSymbols b c → KeepsSymbols a c
kept_then a b c k l = (k.0 ++ l.0, l.1 ∙ ap (λ z. z ++ l.0) k.1 ∙ append_assoc a k.0 l.0)

-- ---- the first place that passes a test
pub place_here : {X : Type 0} (p : X → Bool) (x : X) (xs : List X) → p x ≡ true → position_or_len p (x ∷ xs) ≡ 0
place_here p x xs e = rw e refl

pub place_past : {X : Type 0} (p : X → Bool) (x : X) (xs : List X) → p x ≡ false → position_or_len p (x ∷ xs) ≡ suc (position_or_len p xs)
place_past p x xs e = let z : 1 + position_or_len p xs ≡ suc (position_or_len p xs) = omega arith in rw e z

-- it has the number
number_push : (s : Symbol) (ss : List Symbol) → list_any (same_symbol s) ss ≡ false → slice_get (ss ++ s ∷ []) (symbol_number s ss) ≡ Some s
number_push s [] f = refl
number_push s (t ∷ ss) f =
    let p = or_parts (same_symbol s t) (list_any (same_symbol s) ss) f in
    ap (λ k. slice_get (t ∷ (ss ++ s ∷ [])) k) (place_past (same_symbol s) t ss p.0) ∙ number_push s ss p.1

number_known : (s : Symbol) (ss : List Symbol) → list_any (same_symbol s) ss ≡ true → slice_get ss (symbol_number s ss) ≡ Some s
number_known s [] e = absurd (cc)
number_known s (t ∷ ss) e = elim (cases_Bool (same_symbol s t)) [
  | inl same ↦ ap (λ k. slice_get (t ∷ ss) k) (place_here (same_symbol s) t ss same) ∙ ap Some (sym (symbol_is s t same))
  | inr other ↦ ap (λ k. slice_get (t ∷ ss) k) (place_past (same_symbol s) t ss other) ∙ number_known s ss (ap (λ b. b || list_any (same_symbol s) ss) (sym other) ∙ e)
]

number_by : (b : Bool) (s : Symbol) (ss : List Symbol) → list_any (same_symbol s) ss ≡ b → slice_get (cond b ss (ss ++ s ∷ [])) (symbol_number s ss) ≡ Some s
number_by true s ss e = number_known s ss e
number_by false s ss e = number_push s ss e

pub number_with : (s : Symbol) (ss : List Symbol) → slice_get (with_symbol s ss) (symbol_number s ss) ≡ Some s
number_with s ss = number_by (list_any (same_symbol s) ss) s ss refl

-- ---- what is shown stays
slice_get_left : (ss more : List Symbol) (n : ℕ) (s : Symbol) → slice_get ss n ≡ Some s → slice_get (ss ++ more) n ≡ Some s
slice_get_left [] more n s e = absurd (cc)
slice_get_left (t ∷ ss) more zero s e = e
slice_get_left (t ∷ ss) more (suc n) s e = slice_get_left ss more n s e

on_kept : (ss more : List Symbol) (o : Option ℕ) (p : Option Symbol) → ShowsOn ss o p → ShowsOn (ss ++ more) o p
on_kept ss more None None h = tt
on_kept ss more None (Some s) h = absurd h
on_kept ss more (Some n) None h = absurd h
on_kept ss more (Some n) (Some s) h = slice_get_left ss more n s h

step_kept : (ss more : List Symbol) (m : Move) (s : StepRule) → ShowsStep ss m s → ShowsStep (ss ++ more) m s
step_kept ss more m s h = record { on = on_kept ss more m.on s.on h.on; to = h.to; inner = h.inner; particle = h.particle }

state_more : (ss more : List Symbol) (ms : List Move) (steps : List StepRule) → ShowsState ss ms steps → ShowsState (ss ++ more) ms steps
state_more ss more [] [] h = tt
state_more ss more [] (s ∷ steps) h = absurd h
state_more ss more (m ∷ ms) [] h = absurd h
state_more ss more (m ∷ ms) (s ∷ steps) h = (step_kept ss more m s h.0, state_more ss more ms steps h.1)

states_more : (ss more : List Symbol) (states : List (List Move)) (drafts : States) → ShowsStates ss states drafts → ShowsStates (ss ++ more) states drafts
states_more ss more [] [] h = tt
states_more ss more [] (d ∷ drafts) h = absurd h
states_more ss more (ms ∷ states) [] h = absurd h
states_more ss more (ms ∷ states) (d ∷ drafts) h = (state_more ss more ms d h.0, states_more ss more states drafts h.1)

pub state_kept : (ss new : List Symbol) (ms : List Move) (steps : List StepRule) → KeepsSymbols ss new → ShowsState ss ms steps → ShowsState new ms steps
state_kept ss new ms steps k h = subst (λ z. ShowsState z ms steps) (sym k.1) (state_more ss k.0 ms steps h)

pub states_kept : (ss new : List Symbol) (states : List (List Move)) (drafts : States) → KeepsSymbols ss new → ShowsStates ss states drafts → ShowsStates new states drafts
states_kept ss new states drafts k h = subst (λ z. ShowsStates z states drafts) (sym k.1) (states_more ss k.0 states drafts h)

pub state_push : (ss : List Symbol) (ms : List Move) (steps : List StepRule) (m : Move) (s : StepRule) → ShowsState ss ms steps → ShowsStep ss m s → ShowsState ss (ms ++ m ∷ []) (steps ++ s ∷ [])
state_push ss [] [] m s h k = (k, tt)
state_push ss [] (t ∷ steps) m s h k = absurd h
state_push ss (l ∷ ms) [] m s h k = absurd h
state_push ss (l ∷ ms) (t ∷ steps) m s h k = (h.0, state_push ss ms steps m s h.1 k)

pub states_push : (ss : List Symbol) (states : List (List Move)) (drafts : States) (ms : List Move) (steps : List StepRule) → ShowsStates ss states drafts → ShowsState ss ms steps → ShowsStates ss (states ++ ms ∷ []) (drafts ++ steps ∷ [])
states_push ss [] [] ms steps h k = (k, tt)
states_push ss [] (d ∷ drafts) ms steps h k = absurd h
states_push ss (l ∷ states) [] ms steps h k = absurd h
states_push ss (l ∷ states) (d ∷ drafts) ms steps h k = (h.0, states_push ss states drafts ms steps h.1 k)
