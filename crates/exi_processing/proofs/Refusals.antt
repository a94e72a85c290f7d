-- One event that is refused, for every plan.
use Rattle.std.proofs.Common.{◌≡◌, ◌⊎◌, inl, inr, ℕ, ◌+◌, Bool, true, false, cond, List, length, Option, Some, None, Result, Ok, Err, refl, sym, ap, ◌∙◌, subst}
use Rattle.exi_bits.specs.declared.align.Align.{Align}
use Rattle.exi_bits.specs.declared.fault.Fault.{Fault}
use Rattle.exi_bits.specs.declared.fault.Kind.{Kind}
use Rattle.exi_bits.specs.declared.fault.Kind.TheVariants as kind
use Rattle.exi_bits.specs.Bits.{Spot, IsAligned, IsBytes, moved, rest}
use Rattle.exi_bits.specs.Unsigned.{◌>>=◌}
use Rattle.exi_gram.specs.Codes.{code_at}
use Rattle.exi_gram.specs.Switches.{align_of}
use Rattle.exi_gram.proofs.CodeLaws.{spelled_item}
use Rattle.exi_meter.specs.Metering.{Metering, event_fits, level_fits, with_event, with_level}
use Rattle.exi_typed.specs.ReadStates.{Context, ReadState, Failure, failing}
use Rattle.exi_typed.proofs.ContextItems.{fine, told, told_is, was_taken, where_taken}
use Rattle.exi_processing.specs.Configurations.{Config, IsSetting, Setting, read_state_in, reached, rules_of, spot_in}
use Rattle.exi_processing.specs.OneEvent.{at_event, behind, charge_at, event_charge, followed, level_charge, moved_limit, one, remembered, unless}
use Rattle.exi_processing.specs.Plans.{Given, Plan, alone_in, plan_of}
use Rattle.exi_processing.specs.Refused.{FaultIsRefused, HasOne, HasRefusal, IsBehindCode, IsPlanRefused, IsRefusedBefore, OneSpelledOrOneFault, RefusedIsFault, failure_of}
use Rattle.exi_processing.specs.Rules.{Rule}
use Rattle.exi_processing.specs.Spelled.{IsCharged, IsIn, counted_by}
use Rattle.exi_processing.proofs.ClosedUp.{closed_up}
use Rattle.exi_processing.proofs.CodeRefusals.{code_again, code_refused}
use Rattle.exi_processing.proofs.EventOne.{aligned_on, at_event_is, at_place, charge_again, charge_is, event_again, event_is, one_is_spelled, same_spot, spelled_is_one, unless_is}
use Rattle.exi_processing.proofs.PlanFacts.{plan_reads}
use Rattle.exi_processing.proofs.Readings.{Reads}

-- ---- results that fail
abbrev fails : {X : Type 0} → Failure → Result X Failure
fails e = Err e

fails_is : {X : Type 0} (e f : Failure) → fails {X = X} e ≡ fails f → e ≡ f
fails_is e f h = cc

no_told : {X : Type 0} (x : X) (e : Failure) → told x ≡ fails e → ⊥
no_told x e h = cc

bind_fails : {X Y : Type 0} (r : Result X Failure) (f : X → Result Y Failure) (e : Failure) → (r >>= f) ≡ fails e → (r ≡ fails e) ⊎ ((x : X) × (r ≡ told x) × (f x ≡ fails e))
bind_fails (Ok x) f e h = inr (x, refl, h)
bind_fails {X} {Y} (Err d) f e h = inl (ap (λ (z : Failure). fails {X = X} z) (fails_is {X = Y} d e h))

-- ---- before the content
unless_fails : (o : Option Kind) (bit : ℕ) (m : Metering) (e : Failure) → unless o bit m ≡ fails e → (k : Kind) × (o ≡ Some k) × (e ≡ failure_of k bit m)
unless_fails None bit m e h = absurd (no_told m e h)
unless_fails (Some k) bit m e h = (k, refl, sym (fails_is {X = Metering} (failure_of k bit m) e h))

guard_fails : (b : Bool) (n : Metering) (d e : Failure) → cond b (told n) (fails d) ≡ fails e → (b ≡ false) × (e ≡ d)
guard_fails true n d e h = absurd (no_told n e h)
guard_fails false n d e h = (refl, sym (fails_is {X = Metering} d e h))

event_fails : (b : Bool) (bit : ℕ) (m : Metering) (e : Failure) → event_charge b bit m ≡ fails e → (b ≡ true) × (event_fits m ≡ false) × (e ≡ failure_of kind.EventLimit bit m)
event_fails false bit m e h = absurd (no_told m e h)
event_fails true bit m e h = (let k = guard_fails (event_fits m) (with_event m) (failure_of kind.EventLimit bit m) e h in (refl, k.0, k.1))

level_fails : (b : Bool) (bit : ℕ) (m : Metering) (e : Failure) → level_charge b bit m ≡ fails e → (b ≡ true) × (level_fits m ≡ false) × (e ≡ failure_of kind.DepthLimit bit m)
level_fails false bit m e h = absurd (no_told m e h)
level_fails true bit m e h = (let k = guard_fails (level_fits m) (with_level m) (failure_of kind.DepthLimit bit m) e h in (refl, k.0, k.1))

before_refused : (bit : ℕ) (p : Plan) (m : Metering) (e : Failure) → charge_at bit p m ≡ fails e → IsRefusedBefore bit p m e
unfolding charge_at
before_refused bit p m e h = elim (bind_fails (unless p.barred bit m) (λ (x : Metering). event_charge p.counted bit x >>= λ y. unless p.misplaced bit y >>= λ z. level_charge p.entered bit z) e h) [
  | inl u ↦ (let k = unless_fails p.barred bit m e u in inl (record { kind = k.0; barred = k.1; is = k.2 }))
  | inr u ↦ counting (unless_is p.barred bit m u.0 u.1).0 (subst (λ (z : Metering). (event_charge p.counted bit z >>= λ y. unless p.misplaced bit y >>= λ w. level_charge p.entered bit w) ≡ fails e) (sym (unless_is p.barred bit m u.0 u.1).1) u.2)
]
  where
    entering : p.barred ≡ None → (p.counted ≡ true → event_fits m ≡ true) → p.misplaced ≡ None → level_charge p.entered bit (counted_by p.counted m) ≡ fails e → IsRefusedBefore bit p m e
    entering free counted placed l = let k = level_fails p.entered bit (counted_by p.counted m) e l in inr (inr (inr (record { free = free; counted = counted; placed = placed; enters = k.0; over = k.1; is = k.2 })))

    placing : p.barred ≡ None → (p.counted ≡ true → event_fits m ≡ true) → (unless p.misplaced bit (counted_by p.counted m) >>= λ w. level_charge p.entered bit w) ≡ fails e → IsRefusedBefore bit p m e
    placing free counted l = elim (bind_fails (unless p.misplaced bit (counted_by p.counted m)) (λ (w : Metering). level_charge p.entered bit w) e l) [
      | inl u ↦ (let k = unless_fails p.misplaced bit (counted_by p.counted m) e u in inr (inr (inl (record { free = free; counted = counted; kind = k.0; misplaced = k.1; is = k.2 }))))
      | inr u ↦ (let k = unless_is p.misplaced bit (counted_by p.counted m) u.0 u.1 in entering free counted k.0 (subst (λ (z : Metering). level_charge p.entered bit z ≡ fails e) (sym k.1) u.2))
    ]

    counting : p.barred ≡ None → (event_charge p.counted bit m >>= λ y. unless p.misplaced bit y >>= λ w. level_charge p.entered bit w) ≡ fails e → IsRefusedBefore bit p m e
    counting free l = elim (bind_fails (event_charge p.counted bit m) (λ (y : Metering). unless p.misplaced bit y >>= λ w. level_charge p.entered bit w) e l) [
      | inl u ↦ (let k = event_fails p.counted bit m e u in inr (inl (record { free = free; counts = k.0; over = k.1; is = k.2 })))
      | inr u ↦ (let k = event_is p.counted bit m u.0 u.1 in placing free k.0 (subst (λ (z : Metering). (unless p.misplaced bit z >>= λ w. level_charge p.entered bit w) ≡ fails e) (sym k.1) u.2))
    ]

over_events : (b : Bool) (bit : ℕ) (m : Metering) → b ≡ true → event_fits m ≡ false → event_charge b bit m ≡ fails (failure_of kind.EventLimit bit m)
over_events b bit m e f = rw (e, f) refl

too_deep : (b : Bool) (bit : ℕ) (m : Metering) → b ≡ true → level_fits m ≡ false → level_charge b bit m ≡ fails (failure_of kind.DepthLimit bit m)
too_deep b bit m e f = rw (e, f) refl

before_again : (bit : ℕ) (p : Plan) (m : Metering) (e : Failure) → IsRefusedBefore bit p m e → charge_at bit p m ≡ fails e
unfolding charge_at
before_again bit p m e (inl h) = rw h.barred (ap (λ (z : Failure). fails z) (sym h.is))
before_again bit p m e (inr (inl h)) = rw (h.free, over_events p.counted bit m h.counts h.over) (ap (λ (z : Failure). fails z) (sym h.is))
before_again bit p m e (inr (inr (inl h))) = rw (h.free, event_again p.counted bit m h.counted, h.misplaced) (ap (λ (z : Failure). fails z) (sym h.is))
before_again bit p m e (inr (inr (inr h))) = rw (h.free, event_again p.counted bit m h.counted, h.placed, too_deep p.entered bit (counted_by p.counted m) h.enters h.over) (ap (λ (z : Failure). fails z) (sym h.is))

-- ---- in the content, or behind it
abbrev with_limit_at : ℕ → Failure → Failure
with_limit_at bit f = record f { fault = moved_limit bit f.fault }

event_fault : {X : Type 0} (bit : ℕ) (r : Result X Failure) (e : Failure) → at_event bit r ≡ fails e → (f : Failure) × (r ≡ fails f) × (e ≡ with_limit_at bit f)
event_fault bit (Ok x) e h = absurd (no_told x e h)
event_fault {X} bit (Err f) e h = (f, refl, sym (fails_is {X = X} (with_limit_at bit f) e h))

module _ (b : Align) (bytes : List ℕ) (octets : IsBytes bytes) where
  plan_refused : (bit : ℕ) (p : Plan) → Reads {X = p.Item} b p.read p.Spells p.Refuses → (c : Config) (e : Failure) → IsAligned b (spot_in bytes c) → followed bytes bit p c ≡ fails e → IsPlanRefused bytes bit p c e
  unfolding followed
  plan_refused bit p reads c e al h = elim (bind_fails (charge_at bit p c.meter) (λ (m : Metering). at_event bit (p.read (read_state_in bytes m c)) >>= λ found. unless (p.refused found.0) bit found.1.context.meter >>= λ free. told (remembered (p.make found.0 (reached (behind p.padded found.1) c)))) e h) [
    | inl u ↦ inl (before_refused bit p c.meter e u)
    | inr u ↦ reading u.0 (charge_is bit p c.meter u.0 u.1) u.2
  ]
    where
      ending : (m : Metering) → IsCharged p c.meter m → (found : p.Item × ReadState) → p.read (read_state_in bytes m c) ≡ told found → (unless (p.refused found.0) bit found.1.context.meter >>= λ free. told (remembered (p.make found.0 (reached (behind p.padded found.1) c)))) ≡ fails e → IsPlanRefused bytes bit p c e
      ending m charged found r l = elim (bind_fails (unless (p.refused found.0) bit found.1.context.meter) (λ (free : Metering). told (remembered (p.make found.0 (reached (behind p.padded found.1) c)))) e l) [
        | inl u ↦ (
            let k = unless_fails (p.refused found.0) bit found.1.context.meter e u in
            let t = reads.item.takes found.0 (read_state_in bytes m c) found.1 octets al r in
            inr (inr (record { meter = m; charged = charged; item = found.0; content = t.text; more = rest found.1.spot; stands = t.front.parts; after = found.1.context; charges = t.charges; spelled = t.spelled; taken = was_taken b p.Spells p.read reads.item found.0 (read_state_in bytes m c) found.1 octets al r t; kind = k.0; refused = k.1; is = k.2 }))
            )
        | inr u ↦ absurd (no_told (remembered (p.make found.0 (reached (behind p.padded found.1) c))) e u.2)
      ]

      reading : (m : Metering) → IsCharged p c.meter m → (at_event bit (p.read (read_state_in bytes m c)) >>= λ found. unless (p.refused found.0) bit found.1.context.meter >>= λ free. told (remembered (p.make found.0 (reached (behind p.padded found.1) c)))) ≡ fails e → IsPlanRefused bytes bit p c e
      reading m charged l = elim (bind_fails (at_event bit (p.read (read_state_in bytes m c))) (λ (found : p.Item × ReadState). unless (p.refused found.0) bit found.1.context.meter >>= λ free. told (remembered (p.make found.0 (reached (behind p.padded found.1) c)))) e l) [
        | inl u ↦ (let k = event_fault bit (p.read (read_state_in bytes m c)) e u in inr (inl (record { meter = m; charged = charged; failure = k.0; refused = reads.refusal.fails (record { meter = m; tables = c.tables }) (spot_in bytes c) k.0 octets al k.1; is = k.2 })))
        | inr u ↦ ending m charged u.0 (at_event_is bit (p.read (read_state_in bytes m c)) u.0 u.1) u.2
      ]

  plan_again : (bit : ℕ) (p : Plan) → Reads {X = p.Item} b p.read p.Spells p.Refuses → (c : Config) (e : Failure) → IsAligned b (spot_in bytes c) → IsPlanRefused bytes bit p c e → followed bytes bit p c ≡ fails e
  unfolding followed
  plan_again bit p reads c e al (inl h) = rw (before_again bit p c.meter e h) refl
  plan_again bit p reads c e al (inr (inl h)) = rw (charge_again bit p c.meter h.meter h.charged, reads.refusal.again (record { meter = h.meter; tables = c.tables }) (spot_in bytes c) h.failure octets al h.refused) (ap (λ (z : Failure). fails z) (sym h.is))
  plan_again bit p reads c e al (inr (inr h)) =
      let w : Context = record { meter = h.meter; tables = c.tables } in
      let r = where_taken b p.Spells p.read reads.item h.item (spot_in bytes c) w h.after h.charges h.content h.more octets al h.spelled h.taken h.stands in
      rw (charge_again bit p c.meter h.meter h.charged, r, h.refused) (ap (λ (z : Failure). fails z) (sym h.is))

-- ---- one event
failing_fails : {X : Type 0} (m : Metering) (r : Result X Fault) (e : Failure) → failing m r ≡ fails e → (f : Fault) × (r ≡ Err f) × (e ≡ record { fault = f; meter = m })
failing_fails m (Ok x) e h = absurd (no_told x e h)
failing_fails {X} m (Err f) e h = (f, refl, sym (fails_is {X = X} (record { fault = f; meter = m }) e h))

failing_told : {X : Type 0} (m : Metering) (r : Result X Fault) (x : X) → failing m r ≡ told x → r ≡ fine x
failing_told {X} m (Ok y) x h = ap (λ (z : X). fine z) (told_is y x h)
failing_told m (Err f) x h = absurd cc

pub fault_is_refused : FaultIsRefused
unfolding one
fault_is_refused g bytes c e book at h = elim (bind_fails (failing c.meter (code_at (align_of g.options) (rules_of g c) (spot_in bytes c))) (λ (chosen : Rule × Spot). followed bytes c.place (plan_of g c chosen.0) (at_place c chosen.1.place)) e h) [
  | inl u ↦ (let k = failing_fails c.meter (code_at (align_of g.options) (rules_of g c) (spot_in bytes c)) e u in inl (record { fault = k.0; refused = code_refused (align_of g.options) (rules_of g c) (spot_in bytes c) at.octets at.aligned k.0 k.1; is = k.2 }))
  | inr u ↦ inr (behind_code u.0 (failing_told c.meter (code_at (align_of g.options) (rules_of g c) (spot_in bytes c)) u.0 u.1) u.2)
]
  where
    behind_code : (chosen : Rule × Spot) → code_at (align_of g.options) (rules_of g c) (spot_in bytes c) ≡ fine chosen → followed bytes c.place (plan_of g c chosen.0) (at_place c chosen.1.place) ≡ fails e → IsBehindCode g bytes c e
    behind_code chosen r l =
        let b : Align = align_of g.options in
        let rule : Rule = chosen.0 in
        let on : Config = at_place c chosen.1.place in
        let k = (spelled_item (rules_of g c) (closed_up g c book) b).takes rule (spot_in bytes c) chosen.1 at.octets at.aligned r in
        let same : chosen.1 ≡ spot_in bytes on = same_spot chosen.1 (spot_in bytes on) k.front.bytes refl in
        let al : IsAligned b (spot_in bytes on) = subst (λ (z : Spot). IsAligned b z) same k.aligned in
        let p = plan_refused b bytes at.octets c.place (plan_of g c rule) (plan_reads g (alone_in c.elements c.outer) c rule rule.on) on e al l in
        record {
          rule = rule;
          code = k.text;
          more = rest chosen.1;
          stands = k.front.parts;
          told = k.spelled;
          behind = subst (λ (n : ℕ). IsPlanRefused bytes c.place (plan_of g c rule) (at_place c n) e) k.front.place p;
        }

pub refused_is_fault : RefusedIsFault
unfolding one
refused_is_fault g bytes c e book at (inl h) = rw (code_again (align_of g.options) (rules_of g c) (spot_in bytes c) at.octets at.aligned h.fault h.refused) (ap (λ (z : Failure). fails z) (sym h.is))
refused_is_fault g bytes c e book at (inr h) =
    let b : Align = align_of g.options in
    let item = spelled_item (rules_of g c) (closed_up g c book) b in
    let r1 = item.again h.rule h.code (spot_in bytes c) h.more at.octets at.aligned h.told h.stands in
    let al : IsAligned b (moved (spot_in bytes c) (length h.code)) = aligned_on b (spot_in bytes c) (length h.code) at.aligned (item.whole h.rule h.code h.told) in
    let r2 = plan_again b bytes at.octets c.place (plan_of g c h.rule) (plan_reads g (alone_in c.elements c.outer) c h.rule h.rule.on) (at_place c (c.place + length h.code)) e al h.behind in
    rw (r1, r2) refl

-- ---- one or the other
mixed : (r : Result Given Failure) (given : Given) (e : Failure) → r ≡ told given → r ≡ fails e → ⊥
mixed r given e p q = no_told given e (sym p ∙ q)

one_of_results : (g : Setting) (bytes : List ℕ) (c : Config) → IsSetting g → IsIn g bytes c → (r : Result Given Failure) → one g bytes c ≡ r → HasOne g bytes c ⊎ HasRefusal g bytes c
one_of_results g bytes c book at (Ok given) h =
    let u = one_is_spelled g bytes c given book at h in
    inl (record {
      given = given;
      text = u.0;
      more = rest (spot_in bytes given.1);
      stands = u.2.parts;
      spelled = u.1;
      no_other = λ other words less e s. told_is other given (sym (spelled_is_one g bytes c other words less book at s e) ∙ h);
      no_fault = λ e f. mixed (one g bytes c) given e h (refused_is_fault g bytes c e book at f);
    })
one_of_results g bytes c book at (Err e) h =
    inr (record {
      failure = e;
      refused = fault_is_refused g bytes c e book at h;
      no_other = λ other f. fails_is {X = Given} other e (sym (refused_is_fault g bytes c other book at f) ∙ h);
      no_event = λ given text more s o. mixed (one g bytes c) given e (spelled_is_one g bytes c given text more book at o s) h;
    })

pub one_spelled_or_one_fault : OneSpelledOrOneFault
one_spelled_or_one_fault g bytes c book at = one_of_results g bytes c book at (one g bytes c) refl
