-- One event more, as a line in a sink.
use Rattle.std.proofs.Common.{◌≡◌, ◌≤◌, ℕ, List, [], ◌∷◌, ◌++◌, Option, Some, None, Result, Ok, Err, OnOk, IsErrOf, refl, sym, subst, arith}
use Rattle.std.proofs.lemmas.List.{append-nil}
use Rattle.exi_index.specs.Hints as hints
use Rattle.exi_names.specs.Events.{Happening, Grows, Rose}
use Rattle.exi_ports.specs.Ports.{GrowsInPart}
use Rattle.exi_ports.specs.declared.sink.SinkStop.{SinkStop}
use Rattle.exi_ports.specs.declared.sink.SinkStop.TheVariants as stop
use Rattle.exi_run.specs.declared.form.Form.{Form}
use Rattle.exi_run.specs.declared.form.Form.TheVariants as form
use Rattle.exi_run.specs.Forms.{said, start_of, start_text}
use Rattle.exi_run.specs.Printing.{Prints, BreaksOff, PutsLine, PutsText, grows_none}

-- ---- a text in one put
pub puts_text : (r : Result (Unit {0}) SinkStop) (old new : Option (List ℕ)) (before after : ℕ) (piece text : List ℕ) → piece ≡ text → OnOk r (Grows old piece new) → (IsErrOf r stop.Failed → GrowsInPart old piece new) → (IsErrOf r stop.Memory → new ≡ old) → before ≤ after → (IsErrOf r stop.Failed → Rose before after) → PutsText text r old before new after
puts_text (Ok done) old new before after piece text is ok part memory later rose = (subst (λ (t : List ℕ). Grows old t new) is ok, later)
puts_text (Err stop.Failed) old new before after piece text is ok part memory later rose = (subst (λ (t : List ℕ). GrowsInPart old t new) is (part refl), rose refl, later)
puts_text (Err stop.Memory) old new before after piece text is ok part memory later rose = (memory refl, later)

-- ---- what is said of an event
pub puts_event : (f : Form) (e : Happening) (r : Result (Unit {0}) SinkStop) (old new : Option (List ℕ)) (before after : ℕ) → PutsText (said f e) r old before new after → PutsLine f e r old before new after
unfolding Prints BreaksOff
puts_event f e (Ok done) old new before after p = (subst (λ (t : List ℕ). Grows old t new) (sym (append-nil (said f e))) p.0, p.1)
puts_event f e (Err stop.Failed) old new before after p = p
puts_event f e (Err stop.Memory) old new before after p = (subst (λ (o : Option (List ℕ)). Grows old [] o) (sym p.0) (grows_none old), p.1)

pub puts_start : (e : Happening) (place : ℕ) (r : Result (Unit {0}) SinkStop) (old new : Option (List ℕ)) (before after : ℕ) → Some place ≡ start_of e → PutsText (hints.line_of place) r old before new after → PutsLine form.Starts e r old before new after
puts_start e place r old new before after is p = puts_event form.Starts e r old new before after (subst (λ (o : Option ℕ). PutsText (start_text o) r old before new after) is p)

-- nothing is said of an event that begins no self-contained element
pub puts_none : (e : Happening) (old : Option (List ℕ)) (n : ℕ) → None ≡ start_of e → Prints form.Starts old n (e ∷ []) old n
unfolding Prints
puts_none e old n is = (subst (λ (o : Option ℕ). Grows old (start_text o ++ []) old) is (grows_none old), omega arith)
