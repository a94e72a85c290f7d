-- Each configuration has one run, which a fault ends, and it is not longer than the limits of events and the fragments
-- allow.
use Rattle.std.proofs.Common.{◌≡◌, ◌⊎◌, ◌<◌, ◌≤◌, ℕ, zero, suc, ◌+◌, ◌-◌, ◌*◌, Bool, true, false, cond, List, [], ◌∷◌, ◌++◌, length, Option, Some, None, Result, Ok, Err, inl, inr, refl, sym, ap, ◌∙◌, subst, arith}
use Rattle.std.proofs.lemmas.List.{length-append}
use Rattle.exi_gram.specs.Switches.{fragment}
use Rattle.exi_meter.specs.Metering.{Bounds}
use Rattle.exi_names.specs.Events.{Happening}
use Rattle.exi_names.specs.Events as happening
use Rattle.exi_typed.specs.ReadStates.{Failure}
use Rattle.exi_typed.proofs.ContextItems.{told, told_is}
use Rattle.exi_processing.specs.Configurations.{Config, Setting, body_outer}
use Rattle.exi_processing.specs.Fragments.{begins, fragments_at, fragments_in}
use Rattle.exi_processing.specs.Laws.{AFaultEnds, ARunIsThere, ASequenceIsThere, FewTurns, HasFault, HasStep, IsFrontOfRun, NeverBack, OneRun, OneSequence, OneStepOrOneFault}
use Rattle.exi_processing.specs.OneEvent.{one}
use Rattle.exi_processing.specs.Plans.{Given}
use Rattle.exi_processing.specs.Runs.{IsRun, Job, Leads, Turn, closing, ends, events_of, failed_end, first, goes, has_ended, turn, turned_by}
use Rattle.exi_processing.specs.declared.end.End.{End}
use Rattle.exi_processing.specs.declared.start.Start.{Start}
use Rattle.exi_processing.specs.declared.start.Start.TheVariants as start
use Rattle.exi_processing.proofs.Steps.{Steps, events, step_is, weight, weights}

-- ---- one event
abbrev bad : Failure → Result Given Failure
bad e = Err e

bad_is : (p q : Failure) → bad p ≡ bad q → p ≡ q
bad_is p q e = cc

not_both : (x : Given) (e : Failure) → told x ≡ bad e → ⊥
not_both x e h = absurd cc

decided : (g : Setting) (bytes : List ℕ) (c : Config) (r : Result Given Failure) → one g bytes c ≡ r → HasStep g bytes c ⊎ HasFault g bytes c
decided g bytes c (Ok x) h = inl (record {
  given = x;
  steps = h;
  no_other = λ y k. told_is y x (sym k ∙ h);
  no_fault = λ e k. not_both x e (sym h ∙ k);
})
decided g bytes c (Err e) h = inr (record {
  failure = e;
  fails = h;
  no_other = λ f k. bad_is f e (sym k ∙ h);
  no_step = λ x k. not_both x e (sym k ∙ h);
})

pub one_step_or_one_fault : OneStepOrOneFault
one_step_or_one_fault g bytes c h = decided g bytes c (one g bytes c) refl

pub never_back : NeverBack
never_back g bytes c next e h = (step_is g bytes c next e h).place

-- ---- turns
pub same_goes : (e d : Option Happening) (b c : Config) → goes e b ≡ goes d c → (e ≡ d) × (b ≡ c)
same_goes e d b c h = (cc, cc)

pub same_ends : (x y : Option Happening) (d e : End) → ends x d ≡ ends y e → (x ≡ y) × (d ≡ e)
same_ends x y d e h = (cc, cc)

goes_no_end : (x y : Option Happening) (c : Config) (e : End) → goes x c ≡ ends y e → ⊥
goes_no_end x y c e h = absurd cc

by_ended : (b : Bool) (bytes : List ℕ) (x : Given) (e : Option Happening) (next : Config) → cond b (ends x.0 (closing x.1.start bytes x.1)) (goes x.0 x.1) ≡ goes e next → x ≡ (e, next)
by_ended true bytes x e next h = absurd cc
by_ended false bytes x e next h =
    let s = same_goes x.0 e x.1 next h in
    ap (λ (z : Option Happening). (z, x.1)) s.0 ∙ ap (λ (z : Config). (e, z)) s.1

pub by_result : (bytes : List ℕ) (c : Config) (r : Result Given Failure) (e : Option Happening) (next : Config) → turned_by bytes c r ≡ goes e next → r ≡ told (e, next)
by_result bytes c (Ok x) e next h = ap (λ (z : Given). told z) (by_ended (has_ended x.1) bytes x e next h)
by_result bytes c (Err f) e next h = absurd cc

begins_few : (e : Happening) → begins e ≤ 1
begins_few (happening.sc byte) = omega arith
begins_few happening.sd = omega arith
begins_few happening.ed = omega arith
begins_few (happening.se name) = omega arith
begins_few happening.ee = omega arith
begins_few (happening.at name found) = omega arith
begins_few (happening.ch found) = omega arith
begins_few (happening.ns uri prefix element) = omega arith
begins_few (happening.cm text) = omega arith
begins_few (happening.pi target text) = omega arith
begins_few (happening.dt name public system text) = omega arith
begins_few (happening.er name) = omega arith

module _ (g : Setting) (bytes : List ℕ) where
  pub goes_is : (c : Config) (e : Option Happening) (next : Config) → turn g bytes c ≡ goes e next → Steps c e next
  goes_is c e next h = step_is g bytes c next e (by_result bytes c (one g bytes c) e next h)

  pub fault_is : (c : Config) (failure : Failure) → one g bytes c ≡ bad failure → turn g bytes c ≡ ends None (failed_end c failure)
  fault_is c failure k = rw k refl

  -- ---- a run is there
  HasRun : Config → Type 0
  HasRun c = (turns : List (Option Happening)) × (e : End) × IsRun g bytes c turns e

  run_by : (c : Config) (t : Turn) → turn g bytes c ≡ t → ((e : Option Happening) (d : Config) → Steps c e d → HasRun d) → HasRun c
  unfolding HasRun
  run_by c (ends x e) h more = (x ∷ [], e, record { before = []; reached = c; leads = refl; event = x; at_end = h; all = refl })
  run_by c (goes x next) h more =
      let rest = more x next (goes_is c x next h) in
      (x ∷ rest.0, rest.1, record { before = x ∷ rest.2.before; reached = rest.2.reached; leads = (next, h, rest.2.leads); event = rest.2.event; at_end = rest.2.at_end; all = ap (λ (z : List (Option Happening)). x ∷ z) rest.2.all })

  -- so many turns may still come
  abbrev left : Config → ℕ
  left c = weights c + 4 * (c.meter.limits.events - events c)

  fewer_left : (c d : Config) (e : Option Happening) → Steps c e d → left d + 1 ≤ left c
  fewer_left c d None s = let l : d.meter.limits.events ≡ c.meter.limits.events = ap (λ (z : Bounds). z.events) s.limits in omega (arith, s.counts.0, s.counts.1, l)
  fewer_left c d (Some e) s =
      let l : d.meter.limits.events ≡ c.meter.limits.events = ap (λ (z : Bounds). z.events) s.limits in
      omega (arith, s.counts.0, s.counts.1, s.counts.2, begins_few e, l)

  run_in : (n : ℕ) (c : Config) → left c < n → HasRun c
  run_in zero c lt = absurd (omega (arith, lt))
  run_in (suc n) c lt = run_by c (turn g bytes c) refl (λ e d s. run_in n d (omega (arith, lt, fewer_left c d e s)))

  a_run : (c : Config) → (turns : List (Option Happening)) × (e : End) × IsRun g bytes c turns e
  unfolding HasRun
  a_run c = run_in (suc (left c)) c (omega arith)

  -- ---- it is one
  -- the turns before the end are the same, and so is the end
  two_leads : (c b d : Config) (before others : List (Option Happening)) (x y : Option Happening) (e f : End) → Leads g bytes c before b → turn g bytes b ≡ ends x e → Leads g bytes c others d → turn g bytes d ≡ ends y f → (before ++ x ∷ [] ≡ others ++ y ∷ []) × (e ≡ f)
  two_leads c b d [] [] x y e f l h m k =
      let p : turn g bytes c ≡ ends x e = subst (λ (z : Config). turn g bytes z ≡ ends x e) (sym l) h in
      let q : turn g bytes c ≡ ends y f = subst (λ (z : Config). turn g bytes z ≡ ends y f) (sym m) k in
      let s = same_ends x y e f (sym p ∙ q) in
      (ap (λ (z : Option Happening). z ∷ []) s.0, s.1)
  two_leads c b d [] (z ∷ others) x y e f l h m k =
      let p : turn g bytes c ≡ ends x e = subst (λ (w : Config). turn g bytes w ≡ ends x e) (sym l) h in
      absurd (goes_no_end z x m.0 e (sym m.1 ∙ p))
  two_leads c b d (z ∷ before) [] x y e f l h m k =
      let p : turn g bytes c ≡ ends y f = subst (λ (w : Config). turn g bytes w ≡ ends y f) (sym m) k in
      absurd (goes_no_end z y l.0 f (sym l.1 ∙ p))
  two_leads c b d (z ∷ before) (w ∷ others) x y e f l h m k =
      let both = same_goes z w l.0 m.0 (sym l.1 ∙ m.1) in
      let on : Leads g bytes l.0 others d = subst (λ (v : Config). Leads g bytes v others d) (sym both.1) m.2 in
      let rest = two_leads l.0 b d before others x y e f l.2 h on k in
      (cc (both.0, rest.0), rest.1)

  front_of : (c reached b : Config) (turns before : List (Option Happening)) (x : Option Happening) (e : End) → Leads g bytes c turns reached → Leads g bytes c before b → turn g bytes b ≡ ends x e → (more : List (Option Happening)) × (before ++ x ∷ [] ≡ turns ++ more)
  front_of c reached b [] before x e l m k = (before ++ x ∷ [], refl)
  front_of c reached b (z ∷ turns) [] x e l m k =
      let p : turn g bytes c ≡ ends x e = subst (λ (w : Config). turn g bytes w ≡ ends x e) (sym m) k in
      absurd (goes_no_end z x l.0 e (sym l.1 ∙ p))
  front_of c reached b (z ∷ turns) (w ∷ before) x e l m k =
      let both = same_goes z w l.0 m.0 (sym l.1 ∙ m.1) in
      let on : Leads g bytes l.0 before b = subst (λ (v : Config). Leads g bytes v before b) (sym both.1) m.2 in
      let rest = front_of l.0 reached b turns before x e l.2 on k in
      (rest.0, cc (both.0, rest.1))

  -- ---- how many turns there are
  -- the turns that give events are within the limit, and there are no more others than the fragments have
  pub leads_count : (c last : Config) (turns : List (Option Happening)) → Leads g bytes c turns last → events c ≤ c.meter.limits.events → (events c + length (events_of turns) ≤ c.meter.limits.events) × (length turns + weights last ≤ length (events_of turns) + weights c + 3 * fragments_in (events_of turns))
  leads_count c last [] l le = (omega (arith, le), let n : weights c ≡ weights last = ap (λ (z : Config). weights z) l in omega (arith, n))
  leads_count c last (None ∷ turns) l le =
      let s = goes_is c None l.0 l.1 in
      let limits : l.0.meter.limits.events ≡ c.meter.limits.events = ap (λ (z : Bounds). z.events) s.limits in
      let rest = leads_count l.0 last turns l.2 (omega (arith, s.counts.0, limits, le)) in
      (omega (arith, rest.0, s.counts.0, limits), omega (arith, rest.1, s.counts.1))
  leads_count c last (Some e ∷ turns) l le =
      let s = goes_is c (Some e) l.0 l.1 in
      let limits : l.0.meter.limits.events ≡ c.meter.limits.events = ap (λ (z : Bounds). z.events) s.limits in
      let rest = leads_count l.0 last turns l.2 (omega (arith, s.counts.1, limits)) in
      (omega (arith, rest.0, s.counts.0, limits), omega (arith, rest.1, s.counts.2))

pub a_run_is_there : ARunIsThere
a_run_is_there g bytes c = a_run g bytes c

pub one_run : OneRun
one_run g bytes c turns others d e r q =
    let same = two_leads g bytes c r.reached q.reached r.before q.before r.event q.event d e r.leads r.at_end q.leads q.at_end in
    (r.all ∙ same.0 ∙ sym q.all, same.1)

pub front_of_run : IsFrontOfRun
front_of_run g bytes c reached turns others e l r =
    let k = front_of g bytes c reached r.reached turns r.before r.event e l r.leads r.at_end in
    (k.0, r.all ∙ k.1)

-- ---- a fault ends it
events_before : (turns : List (Option Happening)) → events_of (turns ++ None ∷ []) ≡ events_of turns
events_before [] = refl
events_before (None ∷ turns) = events_before turns
events_before (Some e ∷ turns) = ap (λ (z : List Happening). e ∷ z) (events_before turns)

pub a_fault_ends : AFaultEnds
a_fault_ends g bytes c reached turns others failure e l k r =
    let run : IsRun g bytes c (turns ++ None ∷ []) (failed_end reached failure) = record { before = turns; reached = reached; leads = l; event = None; at_end = fault_is g bytes reached failure k; all = refl } in
    let same = one_run g bytes c others (turns ++ None ∷ []) e (failed_end reached failure) r run in
    (ap (λ (z : List (Option Happening)). events_of z) same.0 ∙ events_before turns, same.1)

-- ---- whole bodies and fragments
pub a_sequence_is_there : ASequenceIsThere
a_sequence_is_there j start limits =
    let run = a_run_is_there j.setting j.bytes (first j start limits) in
    (events_of run.0, run.1, length run.0, (run.0, run.2, refl, refl))

pub one_sequence : OneSequence
one_sequence j start limits es fs d e m n p q =
    let same = one_run j.setting j.bytes (first j start limits) p.0 q.0 d e p.1 q.1 in (
      p.2 ∙ ap (λ (z : List (Option Happening)). events_of z) same.0 ∙ sym q.2,
      same.1,
      p.3 ∙ ap (λ (z : List (Option Happening)). length z) same.0 ∙ sym q.3,
    )

pub first_weight : (j : Job) (s : Start) (limits : Bounds) → weights (first j s limits) ≤ 3 * fragments_at s
first_weight j start.Body limits = body_weight j.setting.schema.known (fragment j.setting.options)
  where
    body_weight : (known b : Bool) → weight (body_outer known b) + 0 ≤ 0
    body_weight known false = omega arith
    body_weight true true = omega arith
    body_weight false true = omega arith
first_weight j (start.Fragment byte) limits = omega arith

more_fragments : (before : List (Option Happening)) (x : Option Happening) → fragments_in (events_of before) ≤ fragments_in (events_of (before ++ x ∷ []))
more_fragments [] x = omega arith
more_fragments (None ∷ before) x = more_fragments before x
more_fragments (Some e ∷ before) x = omega (arith, more_fragments before x)

pub few_turns : FewTurns
few_turns j start limits es e count p =
    let before : List (Option Happening) = p.1.before in
    let n = leads_count j.setting j.bytes (first j start limits) p.1.reached before p.1.leads (omega arith) in
    let k : length p.0 ≡ length before + 1 = ap (λ (z : List (Option Happening)). length z) p.1.all ∙ length-append before (p.1.event ∷ []) in
    let all : fragments_in es ≡ fragments_in (events_of (before ++ p.1.event ∷ [])) = ap (λ (z : List Happening). fragments_in z) p.2 ∙ ap (λ (z : List (Option Happening)). fragments_in (events_of z)) p.1.all in
    omega (arith, n.0, n.1, k, p.3, all, more_fragments before p.1.event, first_weight j start limits)
