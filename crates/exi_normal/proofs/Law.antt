-- What is read next is exactly what the members reach.
use Rattle.std.proofs.Common.{◌≡◌, ℕ, zero, suc, ◌+◌, ◌<◌, ◌≤◌, Bool, true, false, cond, inl, inr, List, [], ◌∷◌, ◌++◌, length, map, get_or, refl, sym, ap, subst, ◌∙◌, ◌⊎◌, arith, length-append}
use Rattle.std.proofs.lemmas.List.{length-map}
use Rattle.std.specs.Prelude.{◌↔◌, ◌==◌, ◌||◌, Option, None, Some, slice_get}
use Rattle.std.proofs.lemmas.Bool.{both_ways, cases_Bool, eqb-true, eq-eqb, or_left, or_right}
use Rattle.exi_gram.specs.Reaching.{is_among}
use Rattle.exi_gram.specs.Terminals.{StepRule, Symbol}
use Rattle.exi_draft.specs.Drafts.{States}
use Rattle.exi_normal.specs.Normals.{Met, into, met, met_by, met_from, step_count, steps_at}
use Rattle.exi_normal.specs.Reached.{IsFree, IsMet, IsReached, IsRead, MetIsRead, here, behind}
use Rattle.exi_normal.proofs.Seen.{more_in_front, unseen, unseen_from_start}

-- ---- what stands in a list
abbrev In : {X : Type 0} → X → List X → Type 0
In x [] = ⊥
In x (y ∷ ys) = (x ≡ y) ⊎ In x ys

in_at : {X : Type 0} (x : X) (xs : List X) (place : ℕ) → slice_get xs place ≡ Some x → In x xs
in_at x [] place e = absurd (cc)
in_at x (y ∷ ys) zero e = inl (cc)
in_at x (y ∷ ys) (suc place) e = inr (in_at x ys place e)

at_in : {X : Type 0} (x : X) (xs : List X) → In x xs → (place : ℕ) × (slice_get xs place ≡ Some x)
at_in x [] h = absurd h
at_in x (y ∷ ys) h = elim h [
  | inl e ↦ (zero, ap Some (sym e))
  | inr more ↦ let w = at_in x ys more in (suc w.0, w.1)
]

in_left : {X : Type 0} (x : X) (xs ys : List X) → In x xs → In x (xs ++ ys)
in_left x [] ys h = absurd h
in_left x (z ∷ xs) ys h = elim h [
  | inl e ↦ inl e
  | inr more ↦ inr (in_left x xs ys more)
]

in_right : {X : Type 0} (x : X) (xs ys : List X) → In x ys → In x (xs ++ ys)
in_right x [] ys h = h
in_right x (z ∷ xs) ys h = inr (in_right x xs ys h)

in_either : {X : Type 0} (x : X) (xs ys : List X) → In x (xs ++ ys) → In x xs ⊎ In x ys
in_either x [] ys h = inr h
in_either x (z ∷ xs) ys h = elim h [
  | inl e ↦ inl (inl e)
  | inr more ↦ elim (in_either x xs ys more) [
    | inl front ↦ inl (inr front)
    | inr back ↦ inr back
  ]
]

in_map : {X Y : Type 0} (f : X → Y) (x : X) (xs : List X) → In x xs → In (f x) (map f xs)
in_map f x [] h = absurd h
in_map f x (y ∷ ys) h = elim h [
  | inl e ↦ inl (ap f e)
  | inr more ↦ inr (in_map f x ys more)
]

in_mapped : {X Y : Type 0} (f : X → Y) (y : Y) (xs : List X) → In y (map f xs) → (x : X) × In x xs × (y ≡ f x)
in_mapped f y [] h = absurd h
in_mapped f y (x ∷ xs) h = elim h [
  | inl e ↦ (x, inl refl, e)
  | inr more ↦ let w = in_mapped f y xs more in (w.0, inr w.1, w.2)
]

-- ---- nothing else
record ReachedBy (states : States) (members : List ℕ) (state : ℕ) : Type 0 where
  member : ℕ
  listed : In member members
  reached : IsReached states member state

reached_then : (states : States) (a b c : ℕ) → IsReached states a b → IsFree states b c → IsReached states a c
reached_then states a b c (here place) free = behind place c c free (here c)
reached_then states a b c (behind from next to first more) free = behind from next c first (reached_then states next to c more free)

then_free : (states : States) (members : List ℕ) (b c : ℕ) → ReachedBy states members b → IsFree states b c → ReachedBy states members c
then_free states members b c r free = record { member = r.member; listed = r.listed; reached = reached_then states r.member b c r.reached free }

abbrev step_that : Symbol → Met → StepRule
step_that on m = record { on = Some on; to = m.to; inner = m.inner; particle = m.particle }

record ReadBy (states : States) (members : List ℕ) (m : Met) : Type 0 where
  state : ℕ
  reached : ReachedBy states members state
  there : In (step_that m.on m) (steps_at states state)

-- what a step to do stands for
abbrev Fine : States → List ℕ → StepRule → Option Symbol → Type 0
Fine states members s None = ReachedBy states members s.to
Fine states members s (Some on) = (state : ℕ) × ReachedBy states members state × In s (steps_at states state)

fine_step : (states : States) (members : List ℕ) (state : ℕ) (s : StepRule) → ReachedBy states members state → In s (steps_at states state) → (o : Option Symbol) → s.on ≡ o → Fine states members s o
fine_step states members state s r h None e = let w = at_in s (steps_at states state) h in then_free states members state s.to r (record { place = w.0; step = s; there = w.1; nothing = e; leads = refl })
fine_step states members state s r h (Some on) e = (state, r, h)

abbrev AllFine : States → List ℕ → List StepRule → Type 0
AllFine states members todo = (s : StepRule) → In s todo → Fine states members s s.on

fine_more : (states : States) (members : List ℕ) (state : ℕ) (ss : List StepRule) → ReachedBy states members state → AllFine states members ss → AllFine states members (steps_at states state ++ ss)
fine_more states members state ss r fine s h = elim (in_either s (steps_at states state) ss h) [
  | inl front ↦ fine_step states members state s r front s.on refl
  | inr back ↦ fine s back
]

read_by : (states : States) (members : List ℕ) (s : StepRule) (m : Met) (others free : List Met) (o : Option Symbol) → s.on ≡ o → Fine states members s o
    → (In m others → ReadBy states members m) → (ReachedBy states members s.to → In m free → ReadBy states members m) → In m (met_by s o others free) → ReadBy states members m
read_by states members s m others free None e f a b h = b f h
read_by states members s m others free (Some on) e f a b h = elim h [
  | inl same ↦
      let there : In (step_that on (record { on = on; to = s.to; inner = s.inner; particle = s.particle })) (steps_at states f.0) = subst (λ (x : StepRule). In x (steps_at states f.0)) (λ i. record { on = e i; to = s.to; inner = s.inner; particle = s.particle }) f.2 in
      record { state = f.0; reached = f.1; there = subst (λ (x : Met). In (step_that x.on x) (steps_at states f.0)) (sym same) there }
  | inr more ↦ a more
]

by_test : {P : Type 0} (m : Met) (b : Bool) (xs ys : List Met) → (In m xs → P) → (In m ys → P) → In m (cond b xs ys) → P
by_test m true xs ys f g h = f h
by_test m false xs ys f g h = g h

sound : (states : States) (members : List ℕ) (n : ℕ) (seen : List ℕ) (todo : List StepRule) (m : Met) → AllFine states members todo → In m (met states n seen todo) → ReadBy states members m
unfolding met
sound states members zero seen todo m fine h = absurd h
sound states members (suc n) seen [] m fine h = absurd h
sound states members (suc n) seen (s ∷ ss) m fine h =
    let rest : AllFine states members ss = λ t k. fine t (inr k) in
    read_by states members s m (met states n seen ss) (cond (is_among s.to seen) (met states n seen ss) (met states n (s.to ∷ seen) (steps_at states s.to ++ ss))) s.on refl (fine s (inl refl))
    (sound states members n seen ss m rest)
    (λ r. by_test m (is_among s.to seen) (met states n seen ss) (met states n (s.to ∷ seen) (steps_at states s.to ++ ss)) (sound states members n seen ss m rest) (sound states members n (s.to ∷ seen) (steps_at states s.to ++ ss) m (fine_more states members s.to ss r rest)))
    h

fine_members : (states : States) (members : List ℕ) → AllFine states members (map into members)
fine_members states members s h =
    let w = in_mapped into s members h in
    subst (λ (t : StepRule). Fine states members t t.on) (sym w.2) (record { member = w.0; listed = w.1; reached = here w.0 })

pub met_read : (states : States) (members : List ℕ) (m : Met) → IsMet states members m → IsRead states members m
met_read states members m h =
    let r = sound states members (suc (length members + step_count states)) [] (map into members) m (fine_members states members) (in_at m (met_from states members) h.place h.there) in
    let listed = at_in r.reached.member members r.reached.listed in
    let there = at_in (step_that m.on m) (steps_at states r.state) r.there in
    record { member = r.reached.member; member_place = listed.0; member_there = listed.1; state = r.state; reached = r.reached.reached; place = there.0; there = there.1 }

-- ---- all of it
abbrev Done : List ℕ → List Met → StepRule → Option Symbol → Type 0
Done last result s None = is_among s.to last ≡ true
Done last result s (Some on) = In (record { on = on; to = s.to; inner = s.inner; particle = s.particle }) result

done_more : (last : List ℕ) (result : List Met) (m : Met) (s : StepRule) (o : Option Symbol) → Done last result s o → Done last (m ∷ result) s o
done_more last result m s None d = d
done_more last result m s (Some on) d = inr d

record Covers (states : States) (seen : List ℕ) (todo : List StepRule) (result : List Met) : Type 0 where
  last : List ℕ
  kept : (p : ℕ) → is_among p seen ≡ true → is_among p last ≡ true
  done : (s : StepRule) → In s todo → Done last result s s.on
  closed : (p : ℕ) → is_among p last ≡ true → is_among p seen ≡ false → (s : StepRule) → In s (steps_at states p) → Done last result s s.on

covers_none : (states : States) (seen : List ℕ) → Covers states seen [] []
covers_none states seen = record { last = seen; kept = λ p e. e; done = λ s h. absurd h; closed = λ p e f s h. absurd (both_ways (is_among p seen) f e) }

-- a step that reads
covers_read : (states : States) (seen : List ℕ) (s : StepRule) (ss : List StepRule) (result : List Met) (on : Symbol) → s.on ≡ Some on → Covers states seen ss result → Covers states seen (s ∷ ss) (record { on = on; to = s.to; inner = s.inner; particle = s.particle } ∷ result)
covers_read states seen s ss result on e c =
    let m : Met = record { on = on; to = s.to; inner = s.inner; particle = s.particle } in
    record {
      last = c.last;
      kept = c.kept;
      done = λ t h. elim h [
        | inl same ↦ subst (λ (u : StepRule). Done c.last (m ∷ result) u u.on) (sym same) (subst (λ (o : Option Symbol). Done c.last (m ∷ result) s o) (sym e) (inl refl))
        | inr more ↦ done_more c.last result m t t.on (c.done t more)
      ];
      closed = λ p a b t h. done_more c.last result m t t.on (c.closed p a b t h);
    }

-- one that leads to what is seen
covers_seen : (states : States) (seen : List ℕ) (s : StepRule) (ss : List StepRule) (result : List Met) → s.on ≡ None → is_among s.to seen ≡ true → Covers states seen ss result → Covers states seen (s ∷ ss) result
covers_seen states seen s ss result e among c = record {
  last = c.last;
  kept = c.kept;
  done = λ t h. elim h [
    | inl same ↦ subst (λ (u : StepRule). Done c.last result u u.on) (sym same) (subst (λ (o : Option Symbol). Done c.last result s o) (sym e) (c.kept s.to among))
    | inr more ↦ c.done t more
  ];
  closed = c.closed;
}

-- one that leads further
covers_new : (states : States) (seen : List ℕ) (s : StepRule) (ss : List StepRule) (result : List Met) → s.on ≡ None → Covers states (s.to ∷ seen) (steps_at states s.to ++ ss) result → Covers states seen (s ∷ ss) result
covers_new states seen s ss result e c =
    let self : is_among s.to c.last ≡ true = c.kept s.to (or_left (s.to == s.to) (is_among s.to seen) (eq-eqb s.to s.to refl)) in
    record {
      last = c.last;
      kept = λ p h. c.kept p (or_right (p == s.to) (is_among p seen) h);
      done = λ t h. elim h [
        | inl same ↦ subst (λ (u : StepRule). Done c.last result u u.on) (sym same) (subst (λ (o : Option Symbol). Done c.last result s o) (sym e) self)
        | inr more ↦ c.done t (in_right t (steps_at states s.to) ss more)
      ];
      closed = λ p a b t h. elim (cases_Bool (p == s.to)) [
        | inl same ↦ c.done t (in_left t (steps_at states s.to) ss (subst (λ (q : ℕ). In t (steps_at states q)) (eqb-true p s.to same) h))
        | inr other ↦ c.closed p a (ap (λ x. x || is_among p seen) other ∙ b) t h
      ];
    }

covers_by : (states : States) (seen : List ℕ) (s : StepRule) (ss : List StepRule) (others again new : List Met) (o : Option Symbol) → s.on ≡ o → (b : Bool) → is_among s.to seen ≡ b
    → Covers states seen ss others → (b ≡ false → Covers states (s.to ∷ seen) (steps_at states s.to ++ ss) new)
    → Covers states seen (s ∷ ss) (met_by s o others (cond b others new))
covers_by states seen s ss others again new (Some on) e b among c d = covers_read states seen s ss others on e c
covers_by states seen s ss others again new None e true among c d = covers_seen states seen s ss others e among c
covers_by states seen s ss others again new None e false among c d = covers_new states seen s ss new e (d refl)

covers : (states : States) (n : ℕ) (seen : List ℕ) (todo : List StepRule) → length todo + unseen 0 states seen < n → Covers states seen todo (met states n seen todo)
unfolding met
covers states zero seen todo enough = absurd (omega (arith, enough))
covers states (suc n) seen [] enough = covers_none states seen
covers states (suc n) seen (s ∷ ss) enough =
    covers_by states seen s ss (met states n seen ss) [] (met states n (s.to ∷ seen) (steps_at states s.to ++ ss)) s.on refl (is_among s.to seen) refl
    (covers states n seen ss (omega (arith, enough)))
    (λ f. covers states n (s.to ∷ seen) (steps_at states s.to ++ ss) (
    let less : unseen 0 states (s.to ∷ seen) + length (get_or states s.to []) ≡ unseen 0 states seen = unseen_from_start states seen (s.to ∷ seen) s.to (more_in_front s.to seen) f in
    let both : length (steps_at states s.to ++ ss) ≡ length (get_or states s.to []) + length ss = length-append (steps_at states s.to) ss in
    omega (arith, enough, less, both)))

unseen_none : (from : ℕ) (states : States) → unseen from states [] ≡ step_count states
unseen_none from [] = refl
unseen_none from (s ∷ ss) = ap (λ n. length s + n) (unseen_none (suc from) ss)

reach_in : (states : States) (members : List ℕ) (result : List Met) (c : Covers states [] (map into members) result) (a b : ℕ) → IsReached states a b → is_among a c.last ≡ true → is_among b c.last ≡ true
reach_in states members result c a b (here place) h = h
reach_in states members result c a b (behind from next to free more) h =
    let d : Done c.last result free.step free.step.on = c.closed from h refl free.step (in_at free.step (steps_at states from) free.place free.there) in
    let g : is_among free.step.to c.last ≡ true = subst (λ (o : Option Symbol). Done c.last result free.step o) free.nothing d in
    reach_in states members result c next to more (subst (λ (p : ℕ). is_among p c.last ≡ true) free.leads g)

pub read_met : (states : States) (members : List ℕ) (m : Met) → IsRead states members m → IsMet states members m
read_met states members m r =
    let e : unseen 0 states [] ≡ step_count states = unseen_none 0 states in
    let k : length (map into members) ≡ length members = length-map members into in
    let c : Covers states [] (map into members) (met_from states members) = covers states (suc (length members + step_count states)) [] (map into members) (omega (arith, e, k)) in
    let member : is_among r.member c.last ≡ true = c.done (into r.member) (in_map into r.member members (in_at r.member members r.member_place r.member_there)) in
    let state : is_among r.state c.last ≡ true = reach_in states members (met_from states members) c r.member r.state r.reached member in
    let w = at_in m (met_from states members) (c.closed r.state state refl (step_that m.on m) (in_at (step_that m.on m) (steps_at states r.state) r.place r.there)) in
    record { place = w.0; there = w.1 }

pub met_is_read : MetIsRead
met_is_read states members m = (met_read states members m, read_met states members m)
