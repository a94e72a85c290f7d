-- Nothing that is charged passes its limit, wherever reading ends.
use Rattle.std.proofs.Common.{◌≡◌, ℕ, ◌+◌, ◌*◌, ◌≤◌, ltb, length, Bool, true, false, cond, List, [], ◌∷◌, Option, Some, None, Result, Ok, Err, refl, sym, ap, ◌∙◌, subst, arith}
use Rattle.std.proofs.lemmas.Bool.{leb-true}
use Rattle.exi_bits.specs.declared.fault.Fault.{Fault}
use Rattle.exi_bits.specs.declared.fault.Kind.{Kind}
use Rattle.exi_bits.specs.declared.fault.Kind.TheVariants as kind
use Rattle.exi_bits.specs.Bits.{Spot}
use Rattle.exi_bits.specs.Unsigned.{◌>>=◌}
use Rattle.exi_gram.specs.Codes.{code_at}
use Rattle.exi_gram.specs.Switches.{align_of}
use Rattle.exi_meter.specs.Metering.{Bounds, Metering, event_fits, level_fits, text_fits, with_event, with_level, with_text}
use Rattle.exi_meter.specs.declared.tally.Tally.{Tally}
use Rattle.exi_names.specs.Events.{Happening}
use Rattle.exi_typed.specs.ReadStates.{ReadState, ContextReader, Failure, failing}
use Rattle.exi_typed.specs.Charging.{Charge, Unmetered, charging}
use Rattle.exi_typed.specs.Metered.{IsMetered}
use Rattle.exi_typed.proofs.ContextItems.{told}
use Rattle.exi_processing.specs.Configurations.{Config, Setting, read_state_in, reached, rules_of, spot_in}
use Rattle.exi_processing.specs.Laws.{IsWithinLimits, LimitsAreKept}
use Rattle.exi_processing.specs.OneEvent.{at_event, behind, charge_at, event_charge, failed, followed, level_charge, one, remembered, unless}
use Rattle.exi_processing.specs.Plans.{Given, Plan, alone_in, plan_of}
use Rattle.exi_processing.specs.Rules.{Rule}
use Rattle.exi_processing.specs.Runs.{IsRun, Leads, closing, done, ends, failed_end, first, goes, has_ended, turned_by, whole_bytes}
use Rattle.exi_processing.specs.Splices.{tally_of}
use Rattle.exi_processing.specs.declared.end.End.{End}
use Rattle.exi_processing.specs.declared.end.End.TheVariants as end
use Rattle.exi_processing.specs.declared.start.Start.{Start}
use Rattle.exi_processing.specs.declared.start.Start.TheVariants as start
use Rattle.exi_processing.proofs.EventOne.{at_place}
use Rattle.exi_processing.proofs.PlanFacts.{Stays, made_stays, plan_reads}

-- these limits, none of them passed
pub record Within (limits : Bounds) (m : Metering) : Type 0 where
  pub same : m.limits ≡ limits
  pub kept : IsWithinLimits limits m.used

-- ---- charges
text_within : (limits : Bounds) (m : Metering) (units : ℕ) → Within limits m → text_fits m units ≡ true → Within limits (with_text m units)
text_within limits m units w fits =
    let le : m.used.text + units ≤ m.limits.text = leb-true (m.used.text + units) m.limits.text fits in
    let same : m.limits.text ≡ limits.text = ap (λ (z : Bounds). z.text) w.same in
    record { same = w.same; kept = record { events = w.kept.events; text = omega (arith, le, same); depth = w.kept.depth } }

event_within : (limits : Bounds) (m : Metering) → Within limits m → event_fits m ≡ true → Within limits (with_event m)
event_within limits m w fits =
    let le : m.used.events + 1 ≤ m.limits.events = leb-true (m.used.events + 1) m.limits.events fits in
    let same : m.limits.events ≡ limits.events = ap (λ (z : Bounds). z.events) w.same in
    record { same = w.same; kept = record { events = omega (arith, le, same); text = w.kept.text; depth = w.kept.depth } }

level_within : (limits : Bounds) (m : Metering) → Within limits m → level_fits m ≡ true → Within limits (with_level m)
level_within limits m w fits =
    let le : m.level + 1 ≤ m.limits.depth = leb-true (m.level + 1) m.limits.depth fits in
    let same : m.limits.depth ≡ limits.depth = ap (λ (z : Bounds). z.depth) w.same in
    record { same = w.same; kept = record { events = w.kept.events; text = w.kept.text; depth = omega (arith, le, same, w.kept.depth) } }

-- ---- a reading
-- whatever is answered
abbrev Fine : {X : Type 0} → Bounds → Result (X × ReadState) Failure → Type 0
Fine limits (Ok x) = Within limits x.1.context.meter
Fine limits (Err e) = Within limits e.meter

charging_within : {X : Type 0} (limits : Bounds) (ks : List Charge) (m : Metering) (r : Unmetered X) → Within limits m → Fine limits (charging ks m r)
charging_within limits [] m (Ok found) w = w
charging_within limits [] m (Err f) w = w
charging_within {X} limits (k ∷ ks) m r w = by_fit (charging_within limits ks (with_text m k.units) r) (text_fits m k.units) refl
  where
    by_fit : (Within limits (with_text m k.units) → Fine limits (charging ks (with_text m k.units) r)) → (b : Bool) → text_fits m k.units ≡ b → Fine limits (cond b (charging ks (with_text m k.units) r) (Err (record { fault = record { kind = kind.TextLimit; bit = k.bit }; meter = m })))
    by_fit f true e = f (text_within limits m k.units w e)
    by_fit f false e = w

read_within : {X : Type 0} (limits : Bounds) (read : ContextReader X) → IsMetered read → (c : ReadState) → Within limits c.context.meter → Fine limits (read c)
read_within {X} limits read metered c w =
    let h = metered c.spot c.context.tables in
    subst (λ (z : Result (X × ReadState) Failure). Fine limits z) (sym (h.is c.context.meter)) (charging_within limits h.charges c.context.meter h.rest w)

-- ---- a plan
abbrev Kept : Bounds → Result Given Failure → Type 0
Kept limits (Ok given) = Within limits given.1.meter
Kept limits (Err e) = Within limits e.meter

module _ (limits : Bounds) (bit : ℕ) where
  unless_kept : (o : Option Kind) (m : Metering) (more : Metering → Result Given Failure) → Within limits m → ((n : Metering) → Within limits n → Kept limits (more n)) → Kept limits (unless o bit m >>= more)
  unless_kept None m more w f = f m w
  unless_kept (Some k) m more w f = w

  event_kept : (b : Bool) (m : Metering) (more : Metering → Result Given Failure) → Within limits m → ((n : Metering) → Within limits n → Kept limits (more n)) → Kept limits (event_charge b bit m >>= more)
  event_kept false m more w f = f m w
  event_kept true m more w f = by_fit (event_fits m) refl
    where
      by_fit : (b : Bool) → event_fits m ≡ b → Kept limits (cond b (told (with_event m)) (failed kind.EventLimit bit m) >>= more)
      by_fit true e = f (with_event m) (event_within limits m w e)
      by_fit false e = w

  level_kept : (b : Bool) (m : Metering) (more : Metering → Result Given Failure) → Within limits m → ((n : Metering) → Within limits n → Kept limits (more n)) → Kept limits (level_charge b bit m >>= more)
  level_kept false m more w f = f m w
  level_kept true m more w f = by_fit (level_fits m) refl
    where
      by_fit : (b : Bool) → level_fits m ≡ b → Kept limits (cond b (told (with_level m)) (failed kind.DepthLimit bit m) >>= more)
      by_fit true e = f (with_level m) (level_within limits m w e)
      by_fit false e = w

  in_turn : {X Y Z : Type 0} (r : Result X Failure) (f : X → Result Y Failure) (h : Y → Result Z Failure) → ((r >>= f) >>= h) ≡ (r >>= λ x. f x >>= h)
  in_turn (Ok x) f h = refl
  in_turn (Err x) f h = refl

  charge_kept : (p : Plan) (m : Metering) (more : Metering → Result Given Failure) → Within limits m → ((n : Metering) → Within limits n → Kept limits (more n)) → Kept limits (charge_at bit p m >>= more)
  unfolding charge_at
  charge_kept p m more w f =
      let three : Metering → Result Metering Failure = λ n. level_charge p.entered bit n in
      let two : Metering → Result Metering Failure = λ n. unless p.misplaced bit n >>= three in
      let one_more : Metering → Result Metering Failure = λ n. event_charge p.counted bit n >>= two in
      subst (λ (z : Result Given Failure). Kept limits z) (sym (in_turn (unless p.barred bit m) one_more more))
      (unless_kept p.barred m (λ n. one_more n >>= more) w
      (λ n v. subst (λ (z : Result Given Failure). Kept limits z) (sym (in_turn (event_charge p.counted bit n) two more))
      (event_kept p.counted n (λ i. two i >>= more) v
      (λ i u. subst (λ (z : Result Given Failure). Kept limits z) (sym (in_turn (unless p.misplaced bit i) three more))
      (unless_kept p.misplaced i (λ j. three j >>= more) u (λ j t. level_kept p.entered j more t f))))))

  read_kept : {X : Type 0} (r : Result (X × ReadState) Failure) (more : X × ReadState → Result Given Failure) → Fine limits r → ((x : X × ReadState) → Within limits x.1.context.meter → Kept limits (more x)) → Kept limits (at_event bit r >>= more)
  read_kept (Ok x) more w f = f x w
  read_kept (Err e) more w f = w

  behind_within : (b : Bool) (k : ReadState) → Within limits k.context.meter → Within limits (behind b k).context.meter
  behind_within true k w = w
  behind_within false k w = w

  made_within : (k d : Config) → Stays k d → Within limits k.meter → Within limits d.meter
  made_within k d s w = record { same = s.limits ∙ w.same; kept = subst (λ (z : Tally). IsWithinLimits limits z) (sym s.used) w.kept }

  followed_kept : (bytes : List ℕ) (p : Plan) → IsMetered {X = p.Item} p.read → ((x : p.Item) (k : Config) → Stays k (p.make x k).1) → (c : Config) → Within limits c.meter → Kept limits (followed bytes bit p c)
  unfolding followed
  followed_kept bytes p metered stays c w =
      charge_kept p c.meter (λ m. at_event bit (p.read (read_state_in bytes m c)) >>= λ found. unless (p.refused found.0) bit found.1.context.meter >>= λ free. told (remembered (p.make found.0 (reached (behind p.padded found.1) c)))) w
      (λ m v. read_kept (p.read (read_state_in bytes m c)) (λ found. unless (p.refused found.0) bit found.1.context.meter >>= λ free. told (remembered (p.make found.0 (reached (behind p.padded found.1) c)))) (read_within limits p.read metered (read_state_in bytes m c) v)
      (λ found u. unless_kept (p.refused found.0) found.1.context.meter (λ free. told (remembered (p.make found.0 (reached (behind p.padded found.1) c)))) u
      (λ n t. made_within (reached (behind p.padded found.1) c) (p.make found.0 (reached (behind p.padded found.1) c)).1 (stays found.0 (reached (behind p.padded found.1) c)) (behind_within p.padded found.1 u))))

-- ---- one event
by_code : (g : Setting) (bytes : List ℕ) (limits : Bounds) (c : Config) → Within limits c.meter → (r : Result (Rule × Spot) Fault) → Kept limits (failing c.meter r >>= λ chosen. followed bytes c.place (plan_of g c chosen.0) (at_place c chosen.1.place))
by_code g bytes limits c w (Ok chosen) = followed_kept limits c.place bytes (plan_of g c chosen.0) (plan_reads g (alone_in c.elements c.outer) c chosen.0 chosen.0.on).metered (made_stays g (alone_in c.elements c.outer) c chosen.0 chosen.0.on) (at_place c chosen.1.place) w
by_code g bytes limits c w (Err e) = w

one_kept : (g : Setting) (bytes : List ℕ) (limits : Bounds) (c : Config) → Within limits c.meter → Kept limits (one g bytes c)
unfolding one
one_kept g bytes limits c w = by_code g bytes limits c w (code_at (align_of g.options) (rules_of g c) (spot_in bytes c))

-- ---- a run
goes_kept : (over : Bool) (limits : Bounds) (bytes : List ℕ) (given : Given) (x : Option Happening) (next : Config) → cond over (ends given.0 (closing given.1.start bytes given.1)) (goes given.0 given.1) ≡ goes x next → Within limits given.1.meter → Within limits next.meter
goes_kept true limits bytes given x next h w = absurd cc
goes_kept false limits bytes given x next h w = let same : given.1 ≡ next = cc in subst (λ (z : Config). Within limits z.meter) same w

turn_kept : (limits : Bounds) (bytes : List ℕ) (c : Config) (r : Result Given Failure) (x : Option Happening) (next : Config) → turned_by bytes c r ≡ goes x next → Kept limits r → Within limits next.meter
turn_kept limits bytes c (Ok given) x next h k = goes_kept (has_ended given.1) limits bytes given x next h k
turn_kept limits bytes c (Err e) x next h k = absurd cc

pub leads_kept : (g : Setting) (bytes : List ℕ) (limits : Bounds) (c last : Config) (turns : List (Option Happening)) → Within limits c.meter → Leads g bytes c turns last → Within limits last.meter
leads_kept g bytes limits c last [] w l = subst (λ (z : Config). Within limits z.meter) l w
leads_kept g bytes limits c last (x ∷ turns) w l = leads_kept g bytes limits l.0 last turns (turn_kept limits bytes c (one g bytes c) x l.0 l.1 (one_kept g bytes limits c w)) l.2

end_of : (x y : Option Happening) (d e : End) → ends x d ≡ ends y e → d ≡ e
end_of x y d e h = cc

closing_kept : (limits : Bounds) (s : Start) (bytes : List ℕ) (c : Config) → Within limits c.meter → IsWithinLimits limits (tally_of (closing s bytes c))
closing_kept limits (start.Fragment byte) bytes c w = w.kept
closing_kept limits start.Body bytes c w = by_rest (ltb (whole_bytes c.place) (length bytes))
  where
    by_rest : (b : Bool) → IsWithinLimits limits (tally_of (cond b (end.Fault (record { kind = kind.TrailingBytes; bit = 8 * whole_bytes c.place }) c.meter.used c.root) (done c)))
    by_rest true = w.kept
    by_rest false = w.kept

ends_kept : (over : Bool) (limits : Bounds) (bytes : List ℕ) (given : Given) (x : Option Happening) (e : End) → cond over (ends given.0 (closing given.1.start bytes given.1)) (goes given.0 given.1) ≡ ends x e → Within limits given.1.meter → IsWithinLimits limits (tally_of e)
ends_kept true limits bytes given x e h w = subst (λ (z : End). IsWithinLimits limits (tally_of z)) (end_of given.0 x (closing given.1.start bytes given.1) e h) (closing_kept limits given.1.start bytes given.1 w)
ends_kept false limits bytes given x e h w = absurd cc

last_kept : (limits : Bounds) (bytes : List ℕ) (c : Config) (r : Result Given Failure) (x : Option Happening) (e : End) → turned_by bytes c r ≡ ends x e → Kept limits r → IsWithinLimits limits (tally_of e)
last_kept limits bytes c (Ok given) x e h k = ends_kept (has_ended given.1) limits bytes given x e h k
last_kept limits bytes c (Err f) x e h k = subst (λ (z : End). IsWithinLimits limits (tally_of z)) (end_of None x (failed_end c f) e h) k.kept

-- wherever a run ends
pub run_kept : (g : Setting) (bytes : List ℕ) (limits : Bounds) (c : Config) (turns : List (Option Happening)) (e : End) → Within limits c.meter → IsRun g bytes c turns e → IsWithinLimits limits (tally_of e)
run_kept g bytes limits c turns e w r =
    let there = leads_kept g bytes limits c r.reached r.before w r.leads in
    last_kept limits bytes r.reached (one g bytes r.reached) r.event e r.at_end (one_kept g bytes limits r.reached there)

pub limits_are_kept : LimitsAreKept
limits_are_kept j s limits es e count p = run_kept j.setting j.bytes limits (first j s limits) p.0 e (record { same = refl; kept = record { events = omega arith; text = omega arith; depth = omega arith } }) p.1
