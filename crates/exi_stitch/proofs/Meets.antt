-- What is done at a fragment, case by case.
use Rattle.std.proofs.Common.{◌≡◌, inl, inr, ◌*◌, ℕ, List, [], ◌∷◌, ◌++◌, Option, Some, None, Result, Ok, Err, refl, sym, subst}
use Rattle.std.proofs.lemmas.List.{append-nil}
use Rattle.exi_names.specs.Events.{Happening}
use Rattle.exi_processing.specs.Configurations.{Config, Setting}
use Rattle.exi_processing.specs.Reading.{IsOutcome, Reading}
use Rattle.exi_processing.specs.Runs.{IsSequence, Job}
use Rattle.exi_processing.specs.Splices.{Spliced, ended, on, spliced, wrong_root}
use Rattle.exi_processing.specs.declared.end.End.{End}
use Rattle.exi_processing.specs.declared.start.Start.TheVariants as start
use Rattle.exi_processing.specs.declared.turn.ReadStop.{ReadStop}
use Rattle.exi_processing.specs.declared.turn.ReadStop.TheVariants as stop
use Rattle.exi_stitch.specs.Meetings.{Comes, Enters, Meets, ShowsSome, StillReached, job_in}
use Rattle.exi_stitch.specs.Moves.{Posting}
use Rattle.exi_stitch.specs.Stitches.{IsOutcomeAt, MayJoin, MayNotJoin, Meeting, entered, given_at, joined, misplaced, shown_at}

-- ---- outcomes
pub outcome_is : (r : Reading) (byte : ℕ) (p : Posting) → r.config.place ≡ 8 * byte → IsOutcomeAt (job_in r) byte p → IsOutcome r p.end
outcome_is r byte p place o = record {
  byte = byte;
  stands = place;
  body = 0;
  limits = o.0;
  events = p.events;
  count = o.1.count;
  sequence = o.1.sequence;
}

pub outcome_in : (j : Job) (r : Reading) (byte : ℕ) (p : Posting) → j.setting ≡ r.setting → j.bytes ≡ r.bytes → IsOutcomeAt j byte p → IsOutcomeAt (job_in r) byte p
outcome_in j r byte p e f o = (
  o.0,
  record {
    count = o.1.count;
    sequence = subst (λ (z : Setting). IsSequence (record { setting = z; bytes = r.bytes; body = 0 }) (start.Fragment byte) o.0 p.events p.end o.1.count) e (subst (λ (z : List ℕ). IsSequence (record { setting = j.setting; bytes = z; body = 0 }) (start.Fragment byte) o.0 p.events p.end o.1.count) f o.1.sequence);
  },
)

-- a posting that may be joined comes to one of three things
pub comes_by : (j : Job) (byte : ℕ) (c : Config) (p : Posting) → MayJoin j byte c p → (m : Meeting) × Comes j byte c m × (given_at m ≡ Some p)
comes_by j byte c p m = at (spliced c p.end) refl
  where
    at : (x : Spliced) → spliced c p.end ≡ x → (m : Meeting) × Comes j byte c m × (given_at m ≡ Some p)
    at (on next) e = (joined p, inl (next, (m, e)), refl)
    at (ended end) e = (joined p, inr (end, (m, e)), refl)
    at (wrong_root end) e = (misplaced p, inr (end, (m, e)), refl)

module _ {T : Type 0} (took : T → List Happening → T → Type 0) (broke : T → Happening → T → Type 0) (none : (a : T) → took a [] a) (byte : ℕ) (old new : Reading) where
  -- ---- it is entered
  pub meets_entered : (gave : Option Posting → Type 0) (result : Result (Option End) ReadStop) (given : Option Posting) (used : List ℕ) (a : T) → gave given → MayNotJoin old.config given → Enters result old new → Meets took broke gave result byte old new used used a a
  meets_entered gave (Ok None) given used a g n e = (entered given, (n, e.0), g, none a, sym (append-nil used))
  meets_entered gave (Ok (Some end)) given used a g n e = absurd e
  meets_entered gave (Err stop.Memory) given used a g n e = (entered given, inl (old.config, (n, refl)), g, ([], [], refl, none a))
  meets_entered gave (Err stop.Stopped) given used a g n e = absurd e

  pub reached_entered : (result : Result (Option End) ReadStop) → Enters result old new → StillReached result new
  reached_entered (Ok None) e = (e.2, e.1)
  reached_entered (Ok (Some end)) e = absurd e
  reached_entered (Err stop.Memory) e = tt
  reached_entered (Err stop.Stopped) e = absurd e

  -- ---- a posting is joined
  -- no memory is left to list its byte
  pub meets_unlisted : (p : Posting) (used u : List ℕ) (a : T) → MayJoin (job_in old) byte old.config p → Meets took broke (λ (given : Option Posting). given ≡ Some p) (Err stop.Memory) byte old new used u a a
  meets_unlisted p used u a m =
      let c = comes_by (job_in old) byte old.config p m in
      (c.0, c.1, c.2, ([], shown_at c.0, refl, none a))

  module _ (p : Posting) (m : MayJoin (job_in old) byte old.config p) (used u : List ℕ) (listed : u ≡ used ++ byte ∷ []) (a b : T) where
    abbrev same : Option Posting → Type 0
    same given = given ≡ Some p

    pub meets_on : spliced old.config p.end ≡ on new.config → took a p.events b → Meets took broke same (Ok None) byte old new used u a b
    meets_on s t = (joined p, (m, s), refl, t, listed)

    pub meets_ended : (end : End) → spliced old.config p.end ≡ ended end → took a p.events b → Meets took broke same (Ok (Some end)) byte old new used u a b
    meets_ended end s t = (joined p, (m, s), refl, t, listed)

    pub meets_misplaced : (end : End) → spliced old.config p.end ≡ wrong_root end → Meets took broke same (Ok (Some end)) byte old new used u a a
    meets_misplaced end s = (misplaced p, (m, s), refl, none a, listed)

    pub meets_on_stopped : (e : ReadStop) → spliced old.config p.end ≡ on new.config → ShowsSome took broke e p.events a b → Meets took broke same (Err e) byte old new used u a b
    meets_on_stopped e s t = (joined p, inl (new.config, (m, s)), refl, t)

    pub meets_ended_stopped : (e : ReadStop) (end : End) → spliced old.config p.end ≡ ended end → ShowsSome took broke e p.events a b → Meets took broke same (Err e) byte old new used u a b
    meets_ended_stopped e end s t = (joined p, inr (end, (m, s)), refl, t)

  -- and what the desk gave is told in the desk's words
  pub meets_given : (gave : Option Posting → Type 0) (p : Posting) (result : Result (Option End) ReadStop) (used u : List ℕ) (a b : T) → gave (Some p) → Meets took broke (λ (given : Option Posting). given ≡ Some p) result byte old new used u a b → Meets took broke gave result byte old new used u a b
  meets_given gave p (Ok None) used u a b g h = (h.0, h.1, subst gave (sym h.2) g, h.3, h.4)
  meets_given gave p (Ok (Some end)) used u a b g h = (h.0, h.1, subst gave (sym h.2) g, h.3, h.4)
  meets_given gave p (Err e) used u a b g h = (h.0, h.1, subst gave (sym h.2) g, h.3)
