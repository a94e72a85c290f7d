-- What becomes of a reader at a fragment that was read by itself: it goes on as if it had read the fragment.
use Rattle.std.proofs.Common.{◌≡◌, ◌≢◌, ◌⊎◌, inl, inr, ℕ, ◌+◌, ◌-◌, ◌≤◌, Bool, true, false, cond, List, [], ◌∷◌, ◌++◌, Option, None, Result, Ok, Err, refl, sym, ap, ◌∙◌, subst, arith}
use Rattle.std.specs.Prelude.{All}
use Rattle.std.proofs.lemmas.List.Elements.{All-head}
use Rattle.exi_bits.specs.declared.fault.Fault.{Fault}
use Rattle.exi_meter.specs.Metering.{Metering, with_tally, without_level}
use Rattle.exi_meter.specs.declared.tally.Tally.{Tally}
use Rattle.exi_names.specs.Events.{Happening}
use Rattle.exi_names.specs.StartTables.{IsStart}
use Rattle.exi_typed.specs.ReadStates.{Failure}
use Rattle.exi_typed.proofs.ContextItems.{told}
use Rattle.exi_processing.specs.Changes.{is_alone, outer_behind, resumed, same_texts}
use Rattle.exi_processing.specs.Configurations.{Body, Config, IsSetting, Setting, reached}
use Rattle.exi_processing.specs.Metered.{Due, Outcome, due_fits, limit_of, outcome, paying, with_due}
use Rattle.exi_processing.specs.OneEvent.{behind, is_start, one}
use Rattle.exi_processing.specs.Plans.{Given, alone_in, plan_of}
use Rattle.exi_processing.specs.Runs.{IsRun, Leads, closing, done, ends, failed_end, goes, has_ended, is_end, turn, turned_by}
use Rattle.exi_processing.specs.Sound.{IsSound, IsSoundAside, levels_aside, levels_in}
use Rattle.exi_processing.specs.Splices.{ends_by_limit, root_of, tally_of}
use Rattle.exi_processing.specs.declared.end.End.{End}
use Rattle.exi_processing.specs.declared.end.End.TheVariants as end
use Rattle.exi_processing.specs.declared.frames.Element.{Element}
use Rattle.exi_processing.specs.declared.frames.Outer.{Outer}
use Rattle.exi_processing.specs.declared.frames.Outer.TheVariants as outer
use Rattle.exi_processing.specs.declared.start.Start.{Start}
use Rattle.exi_processing.specs.declared.start.Start.TheVariants as start
use Rattle.exi_processing.proofs.Bodies.{levels_closed}
use Rattle.exi_processing.proofs.EventOne.{at_place, stepped}
use Rattle.exi_processing.proofs.InStep.{EndsThere, IsRoot, Lasts, LevelsOf, Nests, Step, one_steps, shifted, taken_up}
use Rattle.exi_processing.proofs.Metering.{one_is_metered}
use Rattle.exi_processing.proofs.PlanFacts.{made_stays}
use Rattle.exi_processing.proofs.Sequences.{by_result, same_ends, same_goes}
use Rattle.exi_processing.proofs.Shifts.{Below, Fair, Room, below_then, due_below, left_used, shifted_meter}
use Rattle.exi_processing.proofs.Soundness.{levels_none, steps_keep_sound}

-- ---- what is used never grows less
Grows : Tally → Result Given Failure → Type 0
Grows t (Ok given) = Below t given.1.meter.used
Grows t (Err e) = Below t e.meter.used

pub below_same : (t : Tally) → Below t t
below_same t = record { events = omega arith; units = omega arith; deepest = omega arith }

outcome_grows : (m : Metering) (r : Result Outcome Fault) → Grows m.used (outcome m r)
unfolding Grows
outcome_grows m (Ok o) = subst (λ (z : Tally). Below m.used z) (sym (left_used o.leaves m)) (below_same m.used)
outcome_grows m (Err f) = below_same m.used

grows_from : (t u : Tally) (r : Result Given Failure) → Below t u → Grows u r → Grows t r
unfolding Grows
grows_from t u (Ok given) le h = below_then t u given.1.meter.used le h
grows_from t u (Err e) le h = below_then t u e.meter.used le h

paid_grows : (bit : ℕ) (ds : List Due) (m : Metering) (r : Result Outcome Fault) → Grows m.used (paying bit ds m r)
unfolding Grows
paid_grows bit [] m r = outcome_grows m r
paid_grows bit (d ∷ ds) m r = by_fit (paid_grows bit ds (with_due d m) r) (due_fits d m)
  where
    by_fit : Grows (with_due d m).used (paying bit ds (with_due d m) r) → (b : Bool) → Grows m.used (cond b (paying bit ds (with_due d m) r) (Err (record { fault = record { kind = limit_of d; bit = bit }; meter = m })))
    by_fit more true = grows_from m.used (with_due d m).used (paying bit ds (with_due d m) r) (due_below d m) more
    by_fit more false = below_same m.used

one_grows : (g : Setting) (bytes : List ℕ) (c : Config) → Grows c.meter.used (one g bytes c)
one_grows g bytes c = let h = one_is_metered g bytes c in subst (λ (z : Result Given Failure). Grows c.meter.used z) (sym (h.is c.meter)) (paid_grows c.place h.dues c.meter h.rest)

-- ---- turns
pub true_false : (b : Bool) → b ≡ true → b ≡ false → ⊥
true_false true e f = absurd cc
true_false false e f = absurd cc

module _ (g : Setting) (bytes : List ℕ) where
  -- the last turn: an event that ends, or a fault
  pub record LastDone (c : Config) (x : Option Happening) (e : End) : Type 0 where
    pub given : Given
    pub is : one g bytes c ≡ told given
    pub over : is_end given.1.outer ≡ true
    pub event : x ≡ given.0
    pub end_is : e ≡ closing given.1.start bytes given.1

  pub record LastFault (c : Config) (x : Option Happening) (e : End) : Type 0 where
    pub failure : Failure
    pub is : one g bytes c ≡ Err failure
    pub event : x ≡ None
    pub end_is : e ≡ failed_end c failure

  done_by : (c : Config) (x : Option Happening) (e : End) (b : Bool) (given : Given) → one g bytes c ≡ told given → has_ended given.1 ≡ b → cond b (ends given.0 (closing given.1.start bytes given.1)) (goes given.0 given.1) ≡ ends x e → LastDone c x e
  done_by c x e true given h k q = let s = same_ends given.0 x (closing given.1.start bytes given.1) e q in record { given = given; is = h; over = k; event = sym s.0; end_is = sym s.1 }
  done_by c x e false given h k q = absurd cc

  last_by : (c : Config) (x : Option Happening) (e : End) (r : Result Given Failure) → one g bytes c ≡ r → turned_by bytes c r ≡ ends x e → LastDone c x e ⊎ LastFault c x e
  last_by c x e (Ok given) h q = inl (done_by c x e (has_ended given.1) given h refl q)
  last_by c x e (Err failure) h q = let s = same_ends None x (failed_end c failure) e q in inr (record { failure = failure; is = h; event = sym s.0; end_is = sym s.1 })

  pub last_is : (c : Config) (x : Option Happening) (e : End) → turn g bytes c ≡ ends x e → LastDone c x e ⊎ LastFault c x e
  last_is c x e q = last_by c x e (one g bytes c) refl q

  pub record Goes (c : Config) (x : Option Happening) (next : Config) : Type 0 where
    pub is : one g bytes c ≡ told (x, next)
    pub going : is_end next.outer ≡ false

  going_by : (b : Bool) (given : Given) (x : Option Happening) (next : Config) → has_ended given.1 ≡ b → cond b (ends given.0 (closing given.1.start bytes given.1)) (goes given.0 given.1) ≡ goes x next → is_end next.outer ≡ false
  going_by true given x next h q = absurd cc
  going_by false given x next h q = subst (λ (z : Config). is_end z.outer ≡ false) (same_goes given.0 x given.1 next q).1 h

  going_on : (c : Config) (x : Option Happening) (next : Config) (r : Result Given Failure) → turned_by bytes c r ≡ goes x next → is_end next.outer ≡ false
  going_on c x next (Ok given) q = going_by (has_ended given.1) given x next refl q
  going_on c x next (Err e) q = absurd cc

  pub goes_is : (c : Config) (x : Option Happening) (next : Config) → turn g bytes c ≡ goes x next → Goes c x next
  goes_is c x next q = record { is = by_result bytes c (one g bytes c) x next q; going = going_on c x next (one g bytes c) q }

  pub turn_goes : (c : Config) (given : Given) → one g bytes c ≡ told given → is_end given.1.outer ≡ false → turn g bytes c ≡ goes given.0 given.1
  turn_goes c given h k = rw (h, k) refl

  pub turn_fails : (c : Config) (failure : Failure) → one g bytes c ≡ Err failure → turn g bytes c ≡ ends None (failed_end c failure)
  turn_fails c failure h = rw h refl

  pub one_start : (c : Config) (given : Given) → one g bytes c ≡ told given → given.1.start ≡ c.start
  one_start c given h =
      let u = stepped g bytes c given h in
      let t = u.rest_is in
      ap (λ (z : Given). z.1.start) t.is ∙ (made_stays g (alone_in c.elements c.outer) c u.rule u.rule.on t.item (reached (behind (plan_of g c u.rule).padded t.read_state) (at_place c u.spot.place))).start

  one_after : (c : Config) (given : Given) → one g bytes c ≡ told given → given.1.after_start ≡ is_start given.0
  one_after c given h =
      let u = stepped g bytes c given h in
      let t = u.rest_is in
      let made : Given = (plan_of g c u.rule).make t.item (reached (behind (plan_of g c u.rule).padded t.read_state) (at_place c u.spot.place)) in
      ap (λ (z : Given). z.1.after_start) t.is ∙ sym (ap (λ (z : Given). is_start z.0) t.is)

  -- the end of a fragment has used all
  pub fragment_end : (byte : ℕ) (c : Config) → c.start ≡ start.Fragment byte → closing c.start bytes c ≡ done c
  fragment_end byte c h = ap (λ (z : Start). closing z bytes c) h

  last_used : (byte : ℕ) (c : Config) (x : Option Happening) (e : End) → c.start ≡ start.Fragment byte → LastDone c x e ⊎ LastFault c x e → Below c.meter.used (tally_of e)
  unfolding Grows
  last_used byte c x e s (inl d) =
      let h : Grows c.meter.used (told d.given) = subst (λ (z : Result Given Failure). Grows c.meter.used z) d.is (one_grows g bytes c) in
      let k : e ≡ done d.given.1 = d.end_is ∙ fragment_end byte d.given.1 (one_start c d.given d.is ∙ s) in
      subst (λ (z : End). Below c.meter.used (tally_of z)) (sym k) h
  last_used byte c x e s (inr f) =
      let h : Grows c.meter.used (Err f.failure) = subst (λ (z : Result Given Failure). Grows c.meter.used z) f.is (one_grows g bytes c) in
      subst (λ (z : End). Below c.meter.used (tally_of z)) (sym f.end_is) h

  end_used : (byte : ℕ) (c last : Config) (turns : List (Option Happening)) (x : Option Happening) (e : End) → c.start ≡ start.Fragment byte → Leads g bytes c turns last → turn g bytes last ≡ ends x e → Below c.meter.used (tally_of e)
  unfolding Grows
  end_used byte c last [] x e s l h = last_used byte c x e s (last_is c x e (subst (λ (z : Config). turn g bytes z ≡ ends x e) (sym l) h))
  end_used byte c last (y ∷ turns) x e s l h =
      let n = goes_is c y l.0 l.1 in
      let k : Grows c.meter.used (told (y, l.0)) = subst (λ (z : Result Given Failure). Grows c.meter.used z) n.is (one_grows g bytes c) in
      below_then c.meter.used l.0.meter.used (tally_of e) k (end_used byte l.0 last turns x e (one_start c (y, l.0) n.is ∙ s) l.2 h)

-- ---- what is sound has entered the levels that it leaves
some_levels : (g : Setting) (xs : List Body) → All (IsSoundAside g) xs → xs ≢ [] → 1 ≤ levels_aside xs
some_levels g [] all some = absurd (some refl)
some_levels g (x ∷ xs) all some = omega (arith, levels_closed x.elements x.outer (All-head (IsSoundAside g) x xs all).level)

pub levels_of : (g : Setting) (c : Config) → IsSound g c → LevelsOf c
levels_of g c s = record {
  own = λ h. omega (arith, s.level, levels_closed c.elements c.outer h);
  behind_it = λ h. omega (arith, s.level, some_levels g c.aside s.aside h);
}

-- ---- behind the first element of the fragment
module _ (g : Setting) (bytes : List ℕ) (byte : ℕ) (base : Config) (b : Body) (bs : List Body) (going : is_end b.outer ≡ false) (book : IsSetting g) (names : IsStart g.schema.names) where
  abbrev IsOver : Outer → Type 0
  IsOver o = o ≡ outer.AloneOver

  over_moves : (to : ℕ) (es : List Element) (o : Outer) → IsOver o → IsOver (outer_behind to es o)
  over_moves to [] o h = ap (λ (z : Outer). outer_behind to [] z) h
  over_moves to (e ∷ es) o h = h

  pub over_lasts : Lasts IsOver
  over_lasts = record { moves = over_moves; alone = λ o h. ap (λ (z : Outer). is_alone z) h }

  pub first_not_over : outer.AloneFirst ≡ outer.AloneOver → ⊥
  first_not_over e = absurd cc

  -- where the reader goes on behind a fragment that is done
  abbrev goes_on_at : ℕ → Tally → Config
  goes_on_at bit tally = resumed (b ∷ bs) (record base { place = bit; meter = with_tally base.meter tally; after_start = false })

  unfoldable pub Concludes : End → Config → List (Option Happening) → Type 0
  Concludes (end.Done bit tally root) f turns = Leads g bytes (shifted base b bs f) turns (goes_on_at bit tally)
  Concludes (end.Fault fault tally root) f turns = IsRun g bytes (shifted base b bs f) turns (end.Fault fault (with_tally base.meter tally).used base.root)

  level_none : (m : Metering) → m.level ≡ 0 → without_level (shifted_meter base.meter m) ≡ without_level (with_tally base.meter m.used)
  unfolding shifted_meter
  level_none m h = let e : base.meter.level + m.level - 1 ≡ base.meter.level - 1 = omega (arith, h) in ap (λ (z : ℕ). record (without_level (with_tally base.meter m.used)) { level = z }) e

  taken_is : (d : Config) → d.meter.level ≡ 0 → d.after_start ≡ false → taken_up base b bs d ≡ goes_on_at d.place d.meter.used
  unfolding taken_up
  taken_is d h k = ap (λ (z : Metering). record (taken_up base b bs d) { meter = z }) (level_none d.meter h) ∙ ap (λ (z : Bool). record (goes_on_at d.place d.meter.used) { after_start = z }) k

  -- nothing is open at the end
  end_level : (d : Config) → IsSound g d → d.elements ≡ [] → d.aside ≡ [] → d.meter.level ≡ 0
  end_level d s e f =
      let n : levels_in d.elements d.outer ≡ 0 = ap (λ (z : List Element). levels_in z d.outer) e ∙ levels_none d.outer in
      let k : levels_aside d.aside ≡ 0 = ap (λ (z : List Body). levels_aside z) f in
      omega (arith, s.level, n, k)

  module _ (P : Outer → Type 0) (lasts : Lasts P) (tally : Tally) (room : Room base.meter tally) (f : Config) (sound : IsSound g f) (nests : Nests P f.outer f.aside) where
    pub step_of : (r : Result Given Failure) → one g bytes f ≡ r → Fair tally r → Step base b bs P lasts f.place f.root r (one g bytes (shifted base b bs f))
    step_of r h fair = subst (λ (z : Result Given Failure). Step base b bs P lasts f.place f.root z (one g bytes (shifted base b bs f))) h (one_steps base b bs P lasts g bytes book names tally room f sound nests (levels_of g f sound) (subst (λ (z : Result Given Failure). Fair tally z) (sym h) fair))

    -- a fault of the fragment
    pub fault_concludes : (x : Option Happening) (e : End) → LastFault g bytes f x e → tally ≡ tally_of e → ends_by_limit e ≡ false → Concludes e f (x ∷ [])
    unfolding Concludes Step Fair shifted shifted_meter
    fault_concludes x e q same no_limit =
        let fair : Fair tally (Err q.failure) = (subst (λ (z : End). ends_by_limit z ≡ false) q.end_is no_limit, subst (λ (z : Tally). Below q.failure.meter.used z) (sym (same ∙ ap (λ (z : End). tally_of z) q.end_is)) (below_same q.failure.meter.used)) in
        let s = step_of (Err q.failure) q.is fair in
        let ends_so : turn g bytes (shifted base b bs f) ≡ ends None (failed_end (shifted base b bs f) (record q.failure { meter = shifted_meter base.meter q.failure.meter })) = turn_fails g bytes (shifted base b bs f) (record q.failure { meter = shifted_meter base.meter q.failure.meter }) s in
        subst (λ (z : End). Concludes z f (x ∷ [])) (sym q.end_is) (record { before = []; reached = shifted base b bs f; leads = refl; event = None; at_end = ends_so; all = ap (λ (z : Option Happening). z ∷ []) q.event })

    -- its end: what was put aside stands again
    ended_there : (x : Option Happening) (given : Given) → one g bytes f ≡ told given → x ≡ given.0 → EndsThere base b bs P lasts f.place f.root given (one g bytes (shifted base b bs f)) → Concludes (done given.1) f (x ∷ [])
    unfolding Concludes taken_up
    ended_there x given is event q =
        let next : Config = taken_up base b bs given.1 in
        let on_there : turn g bytes (shifted base b bs f) ≡ goes None next = turn_goes g bytes (shifted base b bs f) (None, next) q.is going in
        let turns_so : turn g bytes (shifted base b bs f) ≡ goes x next = on_there ∙ ap (λ (z : Option Happening). goes z next) (sym (event ∙ q.none)) in
        let level : given.1.meter.level ≡ 0 = end_level given.1 (steps_keep_sound g bytes f given.1 given.0 book names sound is) q.elements q.level in
        let after : given.1.after_start ≡ false = one_after g bytes f given is ∙ ap (λ (z : Option Happening). is_start z) q.none in
        (next, turns_so, taken_is given.1 level after)

    by_step : (x : Option Happening) (given : Given) → one g bytes f ≡ told given → is_end given.1.outer ≡ true → x ≡ given.0 → (P outer.AloneFirst → ⊥) → Step base b bs P lasts f.place f.root (told given) (one g bytes (shifted base b bs f)) → Concludes (done given.1) f (x ∷ [])
    unfolding Step
    by_step x given is over event other (inl q) = absurd (true_false (is_end given.1.outer) over q.going)
    by_step x given is over event other (inr (inl q)) = ended_there x given is event q
    by_step x given is over event other (inr (inr q)) = absurd (other q.first.there)

    over_concludes : (x : Option Happening) (e : End) → f.start ≡ start.Fragment byte → (P outer.AloneFirst → ⊥) → LastDone g bytes f x e → tally ≡ tally_of e → Concludes e f (x ∷ [])
    unfolding Fair
    over_concludes x e from other d same =
        let k : e ≡ done d.given.1 = d.end_is ∙ fragment_end g bytes byte d.given.1 (one_start g bytes f d.given d.is ∙ from) in
        let used : tally ≡ d.given.1.meter.used = same ∙ ap (λ (z : End). tally_of z) k in
        let fair : Fair tally (told d.given) = subst (λ (z : Tally). Below d.given.1.meter.used z) (sym used) (below_same d.given.1.meter.used) in
        subst (λ (z : End). Concludes z f (x ∷ [])) (sym k) (by_step x d.given d.is d.over d.event other (step_of (told d.given) d.is fair))

  -- ---- the turns behind the first element
  pub in_front : (e : End) (f next : Config) (x : Option Happening) (turns : List (Option Happening)) → turn g bytes (shifted base b bs f) ≡ goes x (shifted base b bs next) → Concludes e next turns → Concludes e f (x ∷ turns)
  unfolding Concludes
  in_front (end.Done bit tally root) f next x turns h k = (shifted base b bs next, h, k)
  in_front (end.Fault fault tally root) f next x turns h k = record {
    before = x ∷ k.before;
    reached = k.reached;
    leads = (shifted base b bs next, h, k.leads);
    event = k.event;
    at_end = k.at_end;
    all = ap (λ (z : List (Option Happening)). x ∷ z) k.all;
  }

  module _ (tally : Tally) (room : Room base.meter tally) (last : Config) (x : Option Happening) (e : End) (same : tally ≡ tally_of e) (at_end : turn g bytes last ≡ ends x e) where
    pub fair_goes : (f : Config) (y : Option Happening) (next : Config) (turns : List (Option Happening)) → next.start ≡ start.Fragment byte → Leads g bytes next turns last → Fair tally (told (y, next))
    unfolding Fair
    fair_goes f y next turns from l = subst (λ (z : Tally). Below next.meter.used z) (sym same) (end_used g bytes byte next last turns x e from l at_end)

    -- the root stays
    pub root_goes : (z : Option Happening) (d next : Config) → is_end next.outer ≡ false → Step base b bs IsOver over_lasts d.place d.root (told (z, next)) (one g bytes (shifted base b bs d)) → (next.root ≡ d.root) × Nests IsOver next.outer next.aside
    unfolding Step
    root_goes z d next alive (inl q) = (by_root q.rooted, q.nests)
      where
        by_root : (next.root ≡ d.root) ⊎ ((r : IsRoot base b bs IsOver over_lasts d.place d.root (z, next)) × (same_texts b.name r.name ≡ true)) → next.root ≡ d.root
        by_root (inl h) = h
        by_root (inr h) = absurd (first_not_over h.0.there)
    root_goes z d next alive (inr (inl q)) = absurd (true_false (is_end next.outer) (ap (λ (w : Outer). is_end w) q.ended) alive)
    root_goes z d next alive (inr (inr q)) = absurd (first_not_over q.first.there)

    root_ends : (d : Config) (given : Given) → is_end given.1.outer ≡ true → Step base b bs IsOver over_lasts d.place d.root (told given) (one g bytes (shifted base b bs d)) → given.1.root ≡ d.root
    unfolding Step
    root_ends d given over (inl q) = absurd (true_false (is_end given.1.outer) over q.going)
    root_ends d given over (inr (inl q)) = q.root
    root_ends d given over (inr (inr q)) = absurd (first_not_over q.first.there)

    last_root : (f : Config) → IsSound g f → Nests IsOver f.outer f.aside → f.start ≡ start.Fragment byte → LastDone g bytes f x e ⊎ LastFault g bytes f x e → root_of e ≡ f.root
    unfolding Fair
    last_root f sound nests from (inl d) =
        let k : e ≡ done d.given.1 = d.end_is ∙ fragment_end g bytes byte d.given.1 (one_start g bytes f d.given d.is ∙ from) in
        let used : tally ≡ d.given.1.meter.used = same ∙ ap (λ (z : End). tally_of z) k in
        let fair : Fair tally (told d.given) = subst (λ (z : Tally). Below d.given.1.meter.used z) (sym used) (below_same d.given.1.meter.used) in
        ap (λ (z : End). root_of z) k ∙ root_ends f d.given d.over (step_of IsOver over_lasts tally room f sound nests (told d.given) d.is fair)
    last_root f sound nests from (inr q) = ap (λ (z : End). root_of z) q.end_is

    pub late_root : (turns : List (Option Happening)) (f : Config) → IsSound g f → Nests IsOver f.outer f.aside → f.start ≡ start.Fragment byte → Leads g bytes f turns last → root_of e ≡ f.root
    late_root [] f sound nests from l = last_root f sound nests from (last_is g bytes f x e (subst (λ (z : Config). turn g bytes z ≡ ends x e) (sym l) at_end))
    late_root (y ∷ turns) f sound nests from l =
        let n = goes_is g bytes f y l.0 l.1 in
        let start_next : l.0.start ≡ start.Fragment byte = one_start g bytes f (y, l.0) n.is ∙ from in
        let sound_next : IsSound g l.0 = steps_keep_sound g bytes f l.0 y book names sound n.is in
        let s = root_goes y f l.0 n.going (step_of IsOver over_lasts tally room f sound nests (told (y, l.0)) n.is (fair_goes f y l.0 turns start_next l.2)) in
        late_root turns l.0 sound_next s.1 start_next l.2 ∙ s.0

    -- the events, and the end
    module _ (no_limit : ends_by_limit e ≡ false) where
      pub late_end : (f : Config) → IsSound g f → Nests IsOver f.outer f.aside → f.start ≡ start.Fragment byte → LastDone g bytes f x e ⊎ LastFault g bytes f x e → Concludes e f (x ∷ [])
      late_end f sound nests from (inl d) = over_concludes IsOver over_lasts tally room f sound nests x e from first_not_over d same
      late_end f sound nests from (inr q) = fault_concludes IsOver over_lasts tally room f sound nests x e q same no_limit

      late_step : (z : Option Happening) (d next : Config) (rest : List (Option Happening)) → is_end next.outer ≡ false → Step base b bs IsOver over_lasts d.place d.root (told (z, next)) (one g bytes (shifted base b bs d)) → (Nests IsOver next.outer next.aside → Concludes e next (rest ++ x ∷ [])) → Concludes e d (z ∷ (rest ++ x ∷ []))
      unfolding Step shifted
      late_step z d next rest alive (inl q) more = in_front e d next z (rest ++ x ∷ []) (turn_goes g bytes (shifted base b bs d) (z, shifted base b bs next) q.is q.going) (more q.nests)
      late_step z d next rest alive (inr (inl q)) more = absurd (true_false (is_end next.outer) (ap (λ (w : Outer). is_end w) q.ended) alive)
      late_step z d next rest alive (inr (inr q)) more = absurd (first_not_over q.first.there)

      pub late : (turns : List (Option Happening)) (f : Config) → IsSound g f → Nests IsOver f.outer f.aside → f.start ≡ start.Fragment byte → Leads g bytes f turns last → Concludes e f (turns ++ x ∷ [])
      late [] f sound nests from l = late_end f sound nests from (last_is g bytes f x e (subst (λ (z : Config). turn g bytes z ≡ ends x e) (sym l) at_end))
      late (y ∷ turns) f sound nests from l =
          let n = goes_is g bytes f y l.0 l.1 in
          let start_next : l.0.start ≡ start.Fragment byte = one_start g bytes f (y, l.0) n.is ∙ from in
          let sound_next : IsSound g l.0 = steps_keep_sound g bytes f l.0 y book names sound n.is in
          late_step y f l.0 turns n.going (step_of IsOver over_lasts tally room f sound nests (told (y, l.0)) n.is (fair_goes f y l.0 turns start_next l.2)) (λ k. late turns l.0 sound_next k start_next l.2)
