-- One event charges a list of dues, whatever the meter is.
use Rattle.std.proofs.Common.{◌≡◌, ◌⊎◌, inl, inr, ℕ, Bool, true, false, cond, List, [], ◌∷◌, map, Option, Some, None, Result, Ok, Err, refl, ap, ◌∙◌}
use Rattle.exi_bits.specs.declared.fault.Fault.{Fault}
use Rattle.exi_bits.specs.declared.fault.Kind.{Kind}
use Rattle.exi_bits.specs.declared.fault.Kind.TheVariants as kind
use Rattle.exi_bits.specs.Bits.{Spot}
use Rattle.exi_bits.specs.Unsigned.{◌>>=◌}
use Rattle.exi_builtin.specs.declared.learnable.Learned.{Learned}
use Rattle.exi_builtin.specs.declared.learnable.Learned.TheVariants as used
use Rattle.exi_gram.specs.Codes.{code_at}
use Rattle.exi_gram.specs.Switches.{align_of}
use Rattle.exi_meter.specs.Metering.{Metering, event_fits, level_fits, text_fits, with_event, with_level, with_text}
use Rattle.exi_names.specs.Events.{Happening}
use Rattle.exi_names.specs.Events as happening
use Rattle.exi_tables.specs.Partitions.{Partitions}
use Rattle.exi_typed.specs.ReadStates.{ReadState, Failure, failing}
use Rattle.exi_typed.specs.Charging.{Charge, Unmetered, charging}
use Rattle.exi_typed.specs.Metered.{IsMetered}
use Rattle.exi_typed.proofs.ContextItems.{context, read_state, told}
use Rattle.exi_processing.specs.Changes.{Effect, effect_of, effected, emptied, has_level, leads, learns_name, left_level, resumed, retyped, stays}
use Rattle.exi_processing.specs.Configurations.{Body, Config, Setting, read_state_in, reached, rules_of, spot_in}
use Rattle.exi_processing.specs.Metered.{Due, IsPaid, OneIsMetered, Outcome, event, level, outcome, paying, text, with_meter}
use Rattle.exi_processing.specs.OneEvent.{at_event, behind, charge_at, event_charge, failed, followed, is_start, level_charge, moved_limit, one, remembered, unless}
use Rattle.exi_processing.specs.Plans.{Alone, Given, Plan, alone_in, at_end, at_first, at_start, nowhere, plan_of, plan_on}
use Rattle.exi_processing.specs.Rules.{Rule, Telling, Terminal, attribute, characters, comment, declaration, document_type, element, end_document, end_element, entity, instruction, known, self_contained, spelled, start_document, under}
use Rattle.exi_processing.proofs.EventOne.{at_place}
use Rattle.exi_processing.proofs.PlanFacts.{plan_reads}

-- ---- readings that charge the same, whatever the meter is
-- behind the dues all go on as these do, or all have the same fault
pub record AllPaid {I : Type 0} (bit : ℕ) (inner : I → Result Outcome Fault) (read : I → Metering → Result Given Failure) : Type 0 where
  pub dues : List Due
  pub rest : I → Result Outcome Fault
  pub is : (i : I) (m : Metering) → read i m ≡ paying bit dues m (rest i)
  pub either : ((i : I) → rest i ≡ inner i) ⊎ ((f : Fault) × ((i : I) → rest i ≡ Err f))

module _ {I : Type 0} (bit : ℕ) (inner : I → Result Outcome Fault) where
  unless_paid : (o : Option Kind) (more : I → Metering → Result Given Failure) → AllPaid bit inner more → AllPaid {I = I} bit inner (λ i m. unless o bit m >>= more i)
  unless_paid None more p = p
  unless_paid (Some k) more p = record { dues = []; rest = λ i. Err (record { kind = k; bit = bit }); is = λ i m. refl; either = inr (record { kind = k; bit = bit }, λ i. refl) }

  event_paid : (b : Bool) (more : I → Metering → Result Given Failure) → AllPaid bit inner more → AllPaid {I = I} bit inner (λ i m. event_charge b bit m >>= more i)
  event_paid false more p = p
  event_paid true more p = record { dues = event ∷ p.dues; rest = p.rest; is = λ i m. by_fit i m (event_fits m); either = p.either }
    where
      by_fit : (i : I) (m : Metering) (b : Bool) → (cond b (told (with_event m)) (failed kind.EventLimit bit m) >>= more i) ≡ cond b (paying bit p.dues (with_event m) (p.rest i)) (Err (record { fault = record { kind = kind.EventLimit; bit = bit }; meter = m }))
      by_fit i m true = p.is i (with_event m)
      by_fit i m false = refl

  level_paid : (b : Bool) (more : I → Metering → Result Given Failure) → AllPaid bit inner more → AllPaid {I = I} bit inner (λ i m. level_charge b bit m >>= more i)
  level_paid false more p = p
  level_paid true more p = record { dues = level ∷ p.dues; rest = p.rest; is = λ i m. by_fit i m (level_fits m); either = p.either }
    where
      by_fit : (i : I) (m : Metering) (b : Bool) → (cond b (told (with_level m)) (failed kind.DepthLimit bit m) >>= more i) ≡ cond b (paying bit p.dues (with_level m) (p.rest i)) (Err (record { fault = record { kind = kind.DepthLimit; bit = bit }; meter = m }))
      by_fit i m true = p.is i (with_level m)
      by_fit i m false = refl

  in_turn : {X Y Z : Type 0} (r : Result X Failure) (f : X → Result Y Failure) (h : Y → Result Z Failure) → ((r >>= f) >>= h) ≡ (r >>= λ x. f x >>= h)
  in_turn (Ok x) f h = refl
  in_turn (Err x) f h = refl

  same_paid : (f h : I → Metering → Result Given Failure) → ((i : I) (m : Metering) → f i m ≡ h i m) → AllPaid bit inner h → AllPaid {I = I} bit inner f
  same_paid f h same p = record { dues = p.dues; rest = p.rest; is = λ i m. same i m ∙ p.is i m; either = p.either }

  charge_paid : (p : Plan) (more : I → Metering → Result Given Failure) → AllPaid bit inner more → AllPaid {I = I} bit inner (λ i m. charge_at bit p m >>= more i)
  unfolding charge_at
  charge_paid p more paid =
      let three : Metering → Result Metering Failure = λ n. level_charge p.entered bit n in
      let two : Metering → Result Metering Failure = λ n. unless p.misplaced bit n >>= three in
      let one_more : Metering → Result Metering Failure = λ n. event_charge p.counted bit n >>= two in
      same_paid (λ i m. (unless p.barred bit m >>= one_more) >>= more i) (λ i m. unless p.barred bit m >>= λ n. one_more n >>= more i) (λ i m. in_turn (unless p.barred bit m) one_more (more i))
      (unless_paid p.barred (λ i n. one_more n >>= more i)
      (same_paid (λ i n. one_more n >>= more i) (λ i n. event_charge p.counted bit n >>= λ j. two j >>= more i) (λ i n. in_turn (event_charge p.counted bit n) two (more i))
      (event_paid p.counted (λ i j. two j >>= more i)
      (same_paid (λ i j. two j >>= more i) (λ i j. unless p.misplaced bit j >>= λ l. three l >>= more i) (λ i j. in_turn (unless p.misplaced bit j) three (more i))
      (unless_paid p.misplaced (λ i l. three l >>= more i) (level_paid p.entered more paid))))))

-- ---- what is made, without the meter
pub record Makes {X : Type 0} (make : X → Config → Given) (x : X) (k : Config) : Type 0 where
  pub made : Outcome
  pub is : (m : Metering) → make x (with_meter m k) ≡ (made.event, with_meter (left_level made.leaves m) made.next)

resumed_makes : (e : Option Happening) (bs : List Body) (k : Config) → Makes {X = Unit {0}} (λ x j. (e, resumed bs j)) tt k
resumed_makes e [] k = record { made = record { event = e; next = resumed [] k; leaves = false }; is = λ m. refl }
resumed_makes e (b ∷ bs) k = record { made = record { event = e; next = resumed (b ∷ bs) k; leaves = true }; is = λ m. refl }

-- the meter has no part in what an attribute makes
learned_metered : (s : Telling) (use_of : Learned) (k : Config) (m : Metering) → learns_name s use_of (with_meter m k) ≡ with_meter m (learns_name s use_of k)
learned_metered spelled use_of k m = refl
learned_metered (under uri) use_of k m = refl
learned_metered (known id) use_of k m = refl

effect_metered : (e : Effect) (to : ℕ) (k : Config) (m : Metering) → effected e to (with_meter m k) ≡ with_meter m (effected e to k)
effect_metered leads to k m = refl
effect_metered (retyped grammar) to k m = refl
effect_metered emptied to k m = refl
effect_metered stays to k m = refl

abbrev given_by : Option Happening → Config → Given
given_by h k = (h, k)

attribute_metered : (e : Effect) (to : ℕ) (s : Telling) (use_of : Learned) (h : Option Happening) (k : Config) (m : Metering) → given_by h (effected e to (learns_name s use_of (with_meter m k))) ≡ given_by h (with_meter m (effected e to (learns_name s use_of k)))
attribute_metered e to s use_of h k m =
    ap (λ (z : Config). given_by h (effected e to z)) (learned_metered s use_of k m) ∙ ap (λ (z : Config). given_by h z) (effect_metered e to (learns_name s use_of k) m)

module _ (g : Setting) (c : Config) (r : Rule) where
  abbrev p : Alone → Terminal → Plan
  p a t = plan_on g a c r t

  -- a level is left by EE and by a fragment's ED alone
  kept : (a : Alone) (t : Terminal) (x : (p a t).Item) (k : Config) → ((m : Metering) → (p a t).make x (with_meter m k) ≡ (((p a t).make x k).0, with_meter m ((p a t).make x k).1)) → Makes (p a t).make x k
  kept a t x k h = record { made = record { event = ((p a t).make x k).0; next = ((p a t).make x k).1; leaves = false }; is = h }

  end_makes : (a : Alone) (x : Unit {0}) (k : Config) → Makes (p a end_document).make x k
  end_makes nowhere x k = record { made = record { event = ((p nowhere end_document).make x k).0; next = ((p nowhere end_document).make x k).1; leaves = false }; is = λ m. refl }
  end_makes at_start x k = let h = resumed_makes None k.aside k in record { made = h.made; is = h.is }
  end_makes at_first x k = let h = resumed_makes None k.aside k in record { made = h.made; is = h.is }
  end_makes at_end x k = let h = resumed_makes None k.aside k in record { made = h.made; is = h.is }

  pub makes : (a : Alone) (t : Terminal) (x : (p a t).Item) (k : Config) → Makes (p a t).make x k
  makes a start_document x k = kept a start_document x k (λ m. refl)
  makes a end_document x k = end_makes a x k
  makes nowhere (element spelled) x k = kept nowhere (element spelled) x k (λ m. refl)
  makes nowhere (element (under uri)) x k = kept nowhere (element (under uri)) x k (λ m. refl)
  makes nowhere (element (known id)) x k = kept nowhere (element (known id)) x k (λ m. refl)
  makes at_start (element spelled) x k = kept at_start (element spelled) x k (λ m. refl)
  makes at_start (element (under uri)) x k = kept at_start (element (under uri)) x k (λ m. refl)
  makes at_start (element (known id)) x k = kept at_start (element (known id)) x k (λ m. refl)
  makes at_first (element spelled) x k = kept at_first (element spelled) x k (λ m. refl)
  makes at_first (element (under uri)) x k = kept at_first (element (under uri)) x k (λ m. refl)
  makes at_first (element (known id)) x k = kept at_first (element (known id)) x k (λ m. refl)
  makes at_end (element spelled) x k = kept at_end (element spelled) x k (λ m. refl)
  makes at_end (element (under uri)) x k = kept at_end (element (under uri)) x k (λ m. refl)
  makes at_end (element (known id)) x k = kept at_end (element (known id)) x k (λ m. refl)
  makes a (attribute s v) x k = kept a (attribute s v) x k (λ m. attribute_metered (effect_of g v x.0.id x.1) r.to s (used.At x.0.id) (Some (happening.at x.0.name x.1)) k m)
  makes a (characters d) x k = kept a (characters d) x k (λ m. refl)
  makes a end_element x k = record { made = record { event = ((p a end_element).make x k).0; next = ((p a end_element).make x k).1; leaves = has_level k.elements k.outer }; is = λ m. refl }
  makes a declaration x k = kept a declaration x k (λ m. refl)
  makes a self_contained x k = kept a self_contained x k (λ m. refl)
  makes a comment x k = kept a comment x k (λ m. refl)
  makes a instruction x k = kept a instruction x k (λ m. refl)
  makes a document_type x k = kept a document_type x k (λ m. refl)
  makes a entity x k = kept a entity x k (λ m. refl)

-- ---- a plan
abbrev pub texts : List Charge → List Due
texts ks = map (λ k. text k.units) ks

-- so far, with any meter
abbrev came : Bool → Spot → Partitions → Config → Config
came b s q c = record (reached (behind b (read_state s (context c.meter q))) c) { meter = c.meter }

reached_came : (b : Bool) (s : Spot) (q : Partitions) (c : Config) (m : Metering) → reached (behind b (read_state s (context m q))) c ≡ with_meter m (came b s q c)
reached_came true s q c m = refl
reached_came false s q c m = refl

abbrev pub by_refusal : ℕ → Option Kind → Outcome → Result Outcome Fault
by_refusal bit None o = Ok o
by_refusal bit (Some k) o = Err (record { kind = k; bit = bit })

abbrev pub remembered_outcome : Outcome → Outcome
remembered_outcome o = record o { next = record o.next { after_start = is_start o.event } }

-- what a plan does, with other things that it refuses
unfoldable pub followed_as : List ℕ → ℕ → (p : Plan) → (p.Item → Option Kind) → Config → Result Given Failure
followed_as bytes bit p refused c = charge_at bit p c.meter >>= λ m. at_event bit (p.read (read_state_in bytes m c)) >>= λ found. unless (refused found.0) bit found.1.context.meter >>= λ free. told (remembered (p.make found.0 (reached (behind p.padded found.1) c)))

module _ {I : Type 0} (bit : ℕ) (p : Plan) (refused : I → p.Item → Option Kind) (conf : I → Config) (made : (x : p.Item) (k : Config) → Makes p.make x k) where
  abbrev pub last : I → p.Item × ReadState → Result Given Failure
  last i found = unless (refused i found.0) bit found.1.context.meter >>= λ free. told (remembered (p.make found.0 (reached (behind p.padded found.1) (conf i))))

  abbrev pub rest_of : Unmetered p.Item → I → Result Outcome Fault
  rest_of (Ok found) i = by_refusal bit (refused i found.0) (remembered_outcome (made found.0 (came p.padded found.1.0 found.1.1 (conf i))).made)
  rest_of (Err f) i = Err (moved_limit bit f)

  last_is : (i : I) (x : p.Item) (s : Spot) (q : Partitions) (m : Metering) (o : Option Kind) → (unless o bit m >>= λ free. told (remembered (p.make x (reached (behind p.padded (read_state s (context m q))) (conf i))))) ≡ outcome m (by_refusal bit o (remembered_outcome (made x (came p.padded s q (conf i))).made))
  last_is i x s q m None =
      let h = made x (came p.padded s q (conf i)) in
      ap (λ (z : Config). told (remembered (p.make x z))) (reached_came p.padded s q (conf i) m) ∙ ap (λ (z : Given). told (remembered z)) (h.is m)
  last_is i x s q m (Some k) = refl

  pub none_paid : (i : I) (r : Unmetered p.Item) (m : Metering) → (at_event bit (charging [] m r) >>= last i) ≡ outcome m (rest_of r i)
  none_paid i (Ok found) m = last_is i found.0 found.1.0 found.1.1 m (refused i found.0)
  none_paid i (Err f) m = refl

  texts_paid : (i : I) (r : Unmetered p.Item) (ks : List Charge) (m : Metering) → (at_event bit (charging ks m r) >>= last i) ≡ paying bit (texts ks) m (rest_of r i)
  texts_paid i r [] m = none_paid i r m
  texts_paid i r (k ∷ ks) m = by_fit (texts_paid i r ks (with_text m k.units)) (text_fits m k.units)
    where
      by_fit : (at_event bit (charging ks (with_text m k.units) r) >>= last i) ≡ paying bit (texts ks) (with_text m k.units) (rest_of r i)
          → (b : Bool) → (at_event bit (cond b (charging ks (with_text m k.units) r) (Err (record { fault = record { kind = kind.TextLimit; bit = k.bit }; meter = m }))) >>= last i) ≡ cond b (paying bit (texts ks) (with_text m k.units) (rest_of r i)) (Err (record { fault = record { kind = kind.TextLimit; bit = bit }; meter = m }))
      by_fit e true = e
      by_fit e false = refl

  -- configurations at the same place, with the same tables
  pub followed_paid : (bytes : List ℕ) (c : Config) → ((i : I) (m : Metering) → read_state_in bytes m (conf i) ≡ read_state_in bytes m c) → (metered : IsMetered {X = p.Item} p.read) → AllPaid {I = I} bit (rest_of (metered (spot_in bytes c) c.tables).rest) (λ i m. followed_as bytes bit p (refused i) (with_meter m (conf i)))
  unfolding followed_as
  followed_paid bytes c same metered =
      let h = metered (spot_in bytes c) c.tables in
      charge_paid bit (rest_of h.rest) p (λ i m. at_event bit (p.read (read_state_in bytes m (conf i))) >>= last i)
      (record {
        dues = texts h.charges;
        rest = rest_of h.rest;
        is = λ i m. (ap (λ (z : ReadState). at_event bit (p.read z) >>= last i) (same i m) ∙ ap (λ (z : Result (p.Item × ReadState) Failure). at_event bit z >>= last i) (h.is m) ∙ texts_paid i h.rest h.charges m);
        either = inl (λ i. refl);
      })

-- ---- one event
as_followed : (bytes : List ℕ) (bit : ℕ) (p : Plan) (c : Config) → followed bytes bit p c ≡ followed_as bytes bit p p.refused c
unfolding followed followed_as
as_followed bytes bit p c = refl

by_code : (g : Setting) (bytes : List ℕ) (c : Config) (r : Result (Rule × Spot) Fault) → IsPaid c.place (λ m. failing m r >>= λ chosen. followed bytes c.place (plan_of g c chosen.0) (with_meter m (at_place c chosen.1.place)))
by_code g bytes c (Ok chosen) =
    let p : Plan = plan_of g c chosen.0 in
    let on : Config = at_place c chosen.1.place in
    let h = followed_paid {I = Unit {0}} c.place p (λ i x. p.refused x) (λ i. on) (makes g c chosen.0 (alone_in c.elements c.outer) chosen.0.on) bytes on (λ i m. refl) (plan_reads g (alone_in c.elements c.outer) c chosen.0 chosen.0.on).metered in
    record { dues = h.dues; rest = h.rest tt; is = λ m. (as_followed bytes c.place p (with_meter m on) ∙ h.is tt m) }
by_code g bytes c (Err f) = record { dues = []; rest = Err f; is = λ m. refl }

pub one_is_metered : OneIsMetered
unfolding one
one_is_metered g bytes c = by_code g bytes c (code_at (align_of g.options) (rules_of g c) (spot_in bytes c))
