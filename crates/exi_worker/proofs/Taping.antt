-- What reading onto a tape leaves.
use Rattle.std.proofs.Common.{◌≡◌, ℕ, List, [], ◌++◌, Result, Ok, Err, IfOk, sym, ap, subst, ◌∙◌}
use Rattle.exi_pool.specs.declared.pass.PoolPass.{PoolPass}
use Rattle.exi_processing.specs.Reading.{Sequences}
use Rattle.exi_names.specs.Events.{Happening}
use Rattle.exi_processing.specs.Runs.{IsSequence, Job}
use Rattle.exi_processing.specs.Splices.{IsFragmentOutcome}
use Rattle.exi_processing.specs.declared.end.End.{End}
use Rattle.exi_processing.specs.declared.start.Start.TheVariants as start
use Rattle.exi_processing.specs.declared.turn.ReadStop.{ReadStop}
use Rattle.exi_processing.specs.declared.turn.ReadStop.TheVariants as stop
use Rattle.exi_tape.specs.Lists.{events_of}
use Rattle.exi_tape.specs.Taking.{Refuses, Tapes}
use Rattle.exi_tape.specs.declared.tape.Tape.{Tape}
use Rattle.exi_worker.specs.Outcomes.{worker_bounds}

module _ {T : Type 0} (tape_in : T → Tape) (pass_in : T → PoolPass) where
  abbrev took : T → List Happening → T → Type 0
  took a es b = Tapes (tape_in a) (pass_in a) es (tape_in b) (pass_in b)

  abbrev broke : T → Happening → T → Type 0
  broke a e b = Refuses (tape_in a) (pass_in a) e (tape_in b) (pass_in b)

  -- where reading came to an end, the events of the tape are those of the fragment
  pub outcome : (r : Result End ReadStop) (j : Job) (byte n : ℕ) (a b : T) → Sequences took broke r j (start.Fragment byte) worker_bounds a b 0 n → events_of (tape_in a) ≡ [] → IfOk r (IsFragmentOutcome j byte worker_bounds (events_of (tape_in b)))
  outcome (Ok e) j byte n a b s none = record {
    count = s.1;
    sequence = subst (λ l. IsSequence j (start.Fragment byte) worker_bounds l e s.1) (sym (s.3.events ∙ ap (λ l. l ++ s.0) none)) s.2;
  }
  outcome (Err stop.Memory) j byte n a b s none = tt
  outcome (Err stop.Stopped) j byte n a b s none = tt
