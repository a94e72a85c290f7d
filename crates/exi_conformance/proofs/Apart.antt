-- A fragment that is read by itself.
use Rattle.std.proofs.Common.{◌≡◌, ◌∙◌, ℕ, List, Option, Some, None, Result, Ok, Err, IfOk}
use Rattle.exi_meter.specs.Metering.{Bounds}
use Rattle.exi_names.specs.Events.{Happening}
use Rattle.exi_processing.specs.Reading.{Reading, Sequences}
use Rattle.exi_processing.specs.Runs.{Job}
use Rattle.exi_processing.specs.declared.end.End.{End}
use Rattle.exi_processing.specs.declared.start.Start.TheVariants as start
use Rattle.exi_processing.specs.declared.turn.ReadStop.{ReadStop}
use Rattle.exi_conformance.specs.Turns.{GoesOn, IsApart}

-- what sequential processing from the fragment's byte came to
pub apart_of : {T : Type 0} (took : T → List Happening → T → Type 0) (broke : T → Happening → T → Type 0) (r : Result End ReadStop) (j : Job) (byte : ℕ) (limits : Bounds) (a b : T) (old new : ℕ) → Sequences took broke r j (start.Fragment byte) limits a b old new → IfOk r (λ e. IsApart j byte e)
apart_of took broke (Ok e) j byte limits a b old new h = (limits, h.0, h.1, h.2)
apart_of took broke (Err e) j byte limits a b old new h = tt

-- where reading goes on from a place of the same job
pub goes_from : (r : Result (Option End) ReadStop) (old mid new : Reading) → mid.setting ≡ old.setting → mid.bytes ≡ old.bytes → IfOk r (λ e. GoesOn mid e new) → IfOk r (λ e. GoesOn old e new)
goes_from (Ok None) old mid new s b h = (h.0, h.1, h.2 ∙ s, h.3 ∙ b)
goes_from (Ok (Some e)) old mid new s b h = tt
goes_from (Err e) old mid new s b h = tt
