-- The meter shift: a fragment read by itself, and the same fragment read where it stands, go on in step.
use Rattle.std.proofs.Common.{◌≡◌, ◌⊎◌, inl, inr, ℕ, ◌+◌, ◌≤◌, max, leb, Bool, true, false, cond, List, [], ◌∷◌, Result, Ok, Err, refl, sym, ap, ◌∙◌, subst, arith}
use Rattle.std.specs.Prelude.{◌&&◌}
use Rattle.std.proofs.lemmas.Bool.{cases_Bool, leb-true, le-leb}
use Rattle.exi_bits.specs.declared.fault.Fault.{Fault}
use Rattle.exi_meter.specs.Metering.{Bounds, Metering, tally_fits, with_tally}
use Rattle.exi_meter.specs.declared.tally.Tally.{Tally}
use Rattle.exi_typed.specs.ReadStates.{Failure}
use Rattle.exi_processing.specs.Changes.{left_level}
use Rattle.exi_processing.specs.Metered.{Due, Outcome, due_fits, event, level, limit_of, outcome, paying, text, with_due}
use Rattle.exi_processing.specs.Plans.{Given}
use Rattle.exi_processing.specs.Splices.{is_limit}

-- ---- the meter of what is read in front of another
unfoldable pub shifted_meter : Metering → Metering → Metering
shifted_meter b m = record { limits = b.limits; used = (with_tally b m.used).used; level = b.level + m.level }

abbrev metering : Bounds → ℕ → ℕ → ℕ → ℕ → Metering
metering limits events units deepest lev = record { limits = limits; used = record { events = events; text = units; deepest = deepest }; level = lev }

pub metering_is : (limits : Bounds) (e f u v d i l k : ℕ) → e ≡ f → u ≡ v → d ≡ i → l ≡ k → metering limits e u d l ≡ metering limits f v i k
metering_is limits e f u v d i l k p q r s =
    ap (λ (z : ℕ). metering limits z u d l) p ∙ ap (λ (z : ℕ). metering limits f z d l) q ∙ ap (λ (z : ℕ). metering limits f v z l) r ∙ ap (λ (z : ℕ). metering limits f v i z) s

shifted_due : (b : Metering) (d : Due) (m : Metering) → with_due d (shifted_meter b m) ≡ shifted_meter b (with_due d m)
unfolding shifted_meter
shifted_due b event m = metering_is b.limits (b.used.events + m.used.events + 1) (b.used.events + (m.used.events + 1)) (b.used.text + m.used.text) (b.used.text + m.used.text) (max b.used.deepest (b.level + m.used.deepest)) (max b.used.deepest (b.level + m.used.deepest)) (b.level + m.level) (b.level + m.level) (omega arith) refl refl refl
shifted_due b level m = metering_is b.limits (b.used.events + m.used.events) (b.used.events + m.used.events) (b.used.text + m.used.text) (b.used.text + m.used.text) (max (max b.used.deepest (b.level + m.used.deepest)) (b.level + m.level + 1)) (max b.used.deepest (b.level + max m.used.deepest (m.level + 1))) (b.level + m.level + 1) (b.level + (m.level + 1)) refl refl (omega arith) (omega arith)
shifted_due b (text units) m = metering_is b.limits (b.used.events + m.used.events) (b.used.events + m.used.events) (b.used.text + m.used.text + units) (b.used.text + (m.used.text + units)) (max b.used.deepest (b.level + m.used.deepest)) (max b.used.deepest (b.level + m.used.deepest)) (b.level + m.level) (b.level + m.level) refl (omega arith) refl refl

-- ---- what is used never grows less
pub record Below (t u : Tally) : Type 0 where
  pub events : t.events ≤ u.events
  pub units : t.text ≤ u.text
  pub deepest : t.deepest ≤ u.deepest

pub below_then : (t u v : Tally) → Below t u → Below u v → Below t v
below_then t u v p q = record { events = omega (arith, p.events, q.events); units = omega (arith, p.units, q.units); deepest = omega (arith, p.deepest, q.deepest) }

pub due_below : (d : Due) (m : Metering) → Below m.used (with_due d m).used
due_below event m = record { events = omega arith; units = omega arith; deepest = omega arith }
due_below level m = record { events = omega arith; units = omega arith; deepest = omega arith }
due_below (text units) m = record { events = omega arith; units = omega arith; deepest = omega arith }

pub left_used : (b : Bool) (m : Metering) → (left_level b m).used ≡ m.used
left_used true m = refl
left_used false m = refl

-- what was answered is no limit, and used no more than so much
unfoldable pub Fair : Tally → Result Given Failure → Type 0
Fair t (Ok given) = Below given.1.meter.used t
Fair t (Err e) = (is_limit e.fault.kind ≡ false) × Below e.meter.used t

due_limit : (d : Due) → is_limit (limit_of d) ≡ true
due_limit event = refl
due_limit level = refl
due_limit (text units) = refl

true_false : (b : Bool) → b ≡ true → b ≡ false → ⊥
true_false true e f = absurd cc
true_false false e f = absurd cc

outcome_used : (t : Tally) (m : Metering) (r : Result Outcome Fault) → Fair t (outcome m r) → Below m.used t
unfolding Fair
outcome_used t m (Ok o) h = subst (λ (z : Tally). Below z t) (left_used o.leaves m) h
outcome_used t m (Err f) h = h.1

paid_used : (bit : ℕ) (t : Tally) (ds : List Due) (m : Metering) (r : Result Outcome Fault) → Fair t (paying bit ds m r) → Below m.used t
unfolding Fair
paid_used bit t [] m r h = outcome_used t m r h
paid_used bit t (d ∷ ds) m r h = by_fit (due_fits d m) (paid_used bit t ds (with_due d m) r) h
  where
    by_fit : (b : Bool) → (Fair t (paying bit ds (with_due d m) r) → Below (with_due d m).used t) → Fair t (cond b (paying bit ds (with_due d m) r) (Err (record { fault = record { kind = limit_of d; bit = bit }; meter = m }))) → Below m.used t
    by_fit true more k = below_then m.used (with_due d m).used t (due_below d m) (more k)
    by_fit false more k = k.1

-- ---- what fits apart fits where it stands
both_true : (x y : Bool) → (x && y) ≡ true → (x ≡ true) × (y ≡ true)
both_true true y e = (refl, e)
both_true false y e = absurd cc

pub record Room (b : Metering) (t : Tally) : Type 0 where
  pub events : b.used.events + t.events ≤ b.limits.events
  pub units : b.used.text + t.text ≤ b.limits.text
  pub depth : b.level + t.deepest ≤ b.limits.depth

pub room_is : (b : Metering) (t : Tally) → tally_fits b t ≡ true → Room b t
room_is b t e =
    let k = both_true (leb (b.used.events + t.events) b.limits.events && leb (b.used.text + t.text) b.limits.text) (leb (b.level + t.deepest) b.limits.depth) e in
    let l = both_true (leb (b.used.events + t.events) b.limits.events) (leb (b.used.text + t.text) b.limits.text) k.0 in
    record {
      events = leb-true (b.used.events + t.events) b.limits.events l.0;
      units = leb-true (b.used.text + t.text) b.limits.text l.1;
      depth = leb-true (b.level + t.deepest) b.limits.depth k.1;
    }

due_room : (b : Metering) (t : Tally) (d : Due) (m : Metering) → Room b t → Below (with_due d m).used t → due_fits d (shifted_meter b m) ≡ true
unfolding shifted_meter
due_room b t event m r h = le-leb (b.used.events + m.used.events + 1) b.limits.events (omega (arith, r.events, h.events))
due_room b t level m r h = le-leb (b.level + m.level + 1) b.limits.depth (omega (arith, r.depth, h.deepest))
due_room b t (text units) m r h = le-leb (b.used.text + m.used.text + units) b.limits.text (omega (arith, r.units, h.units))

-- ---- paying in step
-- two answers in step: what each gives is for whoever says what that is
module _ (bit : ℕ) (b : Metering) (t : Tally) (room : Room b t) (Step : Result Given Failure → Result Given Failure → Type 0) (r q : Result Outcome Fault) where
  level_grows : (d : Due) (m : Metering) → m.level ≤ (with_due d m).level
  level_grows event m = omega arith
  level_grows level m = omega arith
  level_grows (text units) m = omega arith

  pub paid_shift : (ds : List Due) (m : Metering) → ((n : Metering) → m.level ≤ n.level → Fair t (outcome n r) → Step (outcome n r) (outcome (shifted_meter b n) q)) → Fair t (paying bit ds m r) → Step (paying bit ds m r) (paying bit ds (shifted_meter b m) q)
  unfolding Fair
  paid_shift [] m step h = step m (omega arith) h
  paid_shift (d ∷ ds) m step h = by_fit (cases_Bool (due_fits d m)) (paid_shift ds (with_due d m) (λ n le. step n (omega (arith, le, level_grows d m))))
    where
      by_fit : (due_fits d m ≡ true) ⊎ (due_fits d m ≡ false) → (Fair t (paying bit ds (with_due d m) r) → Step (paying bit ds (with_due d m) r) (paying bit ds (shifted_meter b (with_due d m)) q)) → Step (paying bit (d ∷ ds) m r) (paying bit (d ∷ ds) (shifted_meter b m) q)
      by_fit (inl e) more =
          let fair : Fair t (paying bit ds (with_due d m) r) = subst (λ (z : Bool). Fair t (cond z (paying bit ds (with_due d m) r) (Err (record { fault = record { kind = limit_of d; bit = bit }; meter = m })))) e h in
          let fits : due_fits d (shifted_meter b m) ≡ true = due_room b t d m room (paid_used bit t ds (with_due d m) r fair) in
          let on : Step (paying bit ds (with_due d m) r) (paying bit ds (with_due d (shifted_meter b m)) q) = subst (λ (z : Metering). Step (paying bit ds (with_due d m) r) (paying bit ds z q)) (sym (shifted_due b d m)) (more fair) in
          rw (e, fits) on
      by_fit (inr e) more =
          let fair : Fair t (Err (record { fault = record { kind = limit_of d; bit = bit }; meter = m })) = subst (λ (z : Bool). Fair t (cond z (paying bit ds (with_due d m) r) (Err (record { fault = record { kind = limit_of d; bit = bit }; meter = m })))) e h in
          absurd (true_false (is_limit (limit_of d)) (due_limit d) fair.0)

-- ---- or a limit is passed where it stands
unfoldable pub used_of : Result Given Failure → Tally
used_of (Ok given) = given.1.meter.used
used_of (Err e) = e.meter.used

-- this limit is passed there, behind what was charged before
pub record Passes (bit : ℕ) (b : Metering) (answer : Result Given Failure) : Type 0 where
  pub due : Due
  pub meter : Metering
  pub over : due_fits due (shifted_meter b meter) ≡ false
  pub is : answer ≡ Err (record { fault = record { kind = limit_of due; bit = bit }; meter = shifted_meter b meter })

room_due : (b : Metering) (d : Due) (m : Metering) → Room b m.used → due_fits d (shifted_meter b m) ≡ true → Room b (with_due d m).used
unfolding shifted_meter
room_due b event m r h =
    let le : b.used.events + m.used.events + 1 ≤ b.limits.events = leb-true (b.used.events + m.used.events + 1) b.limits.events h in
    record { events = omega (arith, le); units = r.units; depth = r.depth }
room_due b level m r h =
    let le : b.level + m.level + 1 ≤ b.limits.depth = leb-true (b.level + m.level + 1) b.limits.depth h in
    record { events = r.events; units = r.units; depth = omega (arith, le, r.depth) }
room_due b (text units) m r h =
    let le : b.used.text + m.used.text + units ≤ b.limits.text = leb-true (b.used.text + m.used.text + units) b.limits.text h in
    record { events = r.events; units = omega (arith, le); depth = r.depth }

module _ (bit : ℕ) (b : Metering) (r q : Result Outcome Fault) where
  outcome_room : (m : Metering) (o : Result Outcome Fault) → Room b m.used → Room b (used_of (outcome m o))
  unfolding used_of
  outcome_room m (Ok o) room = subst (λ (t : Tally). Room b t) (sym (left_used o.leaves m)) room
  outcome_room m (Err f) room = room

  pub paid_split : (ds : List Due) (m : Metering) → Room b m.used → Passes bit b (paying bit ds (shifted_meter b m) q) ⊎ Room b (used_of (paying bit ds m r))
  unfolding used_of
  paid_split [] m room = inr (outcome_room m r room)
  paid_split (d ∷ ds) m room = by_fit (due_fits d m) (due_fits d (shifted_meter b m)) refl (λ more. paid_split ds (with_due d m) more)
    where
      by_fit : (own there : Bool) → due_fits d (shifted_meter b m) ≡ there
          → (Room b (with_due d m).used → Passes bit b (paying bit ds (shifted_meter b (with_due d m)) q) ⊎ Room b (used_of (paying bit ds (with_due d m) r)))
          → Passes bit b (cond there (paying bit ds (with_due d (shifted_meter b m)) q) (Err (record { fault = record { kind = limit_of d; bit = bit }; meter = shifted_meter b m }))) ⊎ Room b (used_of (cond own (paying bit ds (with_due d m) r) (Err (record { fault = record { kind = limit_of d; bit = bit }; meter = m }))))
      by_fit own false h more = inl (record { due = d; meter = m; over = h; is = refl })
      by_fit false true h more = inr room
      by_fit true true h more = subst (λ (z : Metering). Passes bit b (paying bit ds z q) ⊎ Room b (used_of (paying bit ds (with_due d m) r))) (sym (shifted_due b d m)) (more (room_due b d m room h))

-- what has room fits
pub room_fits : (b : Metering) (t : Tally) → Room b t → tally_fits b t ≡ true
room_fits b t r = rw (le-leb (b.used.events + t.events) b.limits.events r.events, le-leb (b.used.text + t.text) b.limits.text r.units, le-leb (b.level + t.deepest) b.limits.depth r.depth) refl
