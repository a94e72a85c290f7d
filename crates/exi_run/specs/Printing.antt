-- What is said of one event after another, in a sink.
use Rattle.std.specs.Prelude.{◌≡◌, ◌≤◌, ℕ, List, [], ◌∷◌, ◌++◌, Option, Some, None, Result, Ok, Err}
use Rattle.exi_ports.specs.declared.sink.SinkStop.{SinkStop}
use Rattle.exi_ports.specs.declared.sink.SinkStop.TheVariants as stop
use Rattle.std.proofs.Common.{refl, sym, ap, ◌∙◌, append_assoc, arith}
use Rattle.std.proofs.lemmas.Grind.{flat_map-append}
use Rattle.std.proofs.lemmas.List.{append-nil}
use Rattle.exi_names.specs.Events.{Happening, Grows, Rose}
use Rattle.exi_ports.specs.Ports.{GrowsInPart}
use Rattle.exi_meter.specs.Metering.{stream_bounds}
use Rattle.exi_processing.specs.Reading.{IsFront}
use Rattle.exi_processing.specs.Runs.{IsSequence, Job}
use Rattle.exi_processing.specs.declared.end.End.{End}
use Rattle.exi_processing.specs.declared.start.Start.TheVariants as start
use Rattle.exi_processing.specs.declared.turn.ReadStop.{ReadStop}
use Rattle.exi_processing.specs.declared.turn.ReadStop.TheVariants as read_stop
use Rattle.exi_names.specs.declared.stops.PushStop.{PushStop}
use Rattle.exi_names.specs.declared.stops.PushStop.TheVariants as push_stop
use Rattle.exi_run.specs.declared.form.Form.{Form}
use Rattle.exi_run.specs.Forms.{said, all_said}

-- the sink took what is said of these events
unfoldable pub Prints : Form → Option (List ℕ) → ℕ → List Happening → Option (List ℕ) → ℕ → Type 0
Prints f old before es new after = Grows old (all_said f es) new × (before ≤ after)

-- the sink failed, and took a front of what is said of this event
unfoldable pub BreaksOff : Form → Option (List ℕ) → ℕ → Happening → Option (List ℕ) → ℕ → Type 0
BreaksOff f old before e new after = GrowsInPart old (said f e) new × Rose before after × (before ≤ after)

pub grows_none : {X : Type 0} (o : Option (List X)) → Grows o [] o
grows_none {X} None = refl
grows_none {X} (Some o) = ap (λ (t : List X). Some t) (sym (append-nil o))

pub grows_more : {X : Type 0} (a b c : Option (List X)) (xs ys : List X) → Grows a xs b → Grows b ys c → Grows a (xs ++ ys) c
grows_more {X} None None c xs ys p q = q
grows_more {X} None (Some m) c xs ys p q = absurd cc
grows_more {X} (Some o) None c xs ys p q = absurd cc
grows_more {X} (Some o) (Some m) c xs ys p q =
    let e : m ≡ o ++ xs = cc in
    q ∙ ap (λ (t : List X). Some (t ++ ys)) e ∙ ap (λ (t : List X). Some t) (append_assoc o xs ys)

pub prints_none : (f : Form) (o : Option (List ℕ)) (n : ℕ) → Prints f o n [] o n
unfolding Prints
prints_none f o n = (grows_none o, omega arith)

pub prints_more : (f : Form) (a b c : Option (List ℕ)) (k m n : ℕ) (es fs : List Happening) → Prints f a k es b m → Prints f b m fs c n → Prints f a k (es ++ fs) c n
unfolding Prints
prints_more f a b c k m n es fs p q =
    (rw (flat_map-append (said f) es fs) (grows_more a b c (all_said f es) (all_said f fs) p.0 q.0), omega (arith, p.1, q.1))

-- what one put, or none, of what is said of an event leaves
abbrev pub PutsLine : Form → Happening → Result (Unit {0}) SinkStop → Option (List ℕ) → ℕ → Option (List ℕ) → ℕ → Type 0
PutsLine f e (Ok done) old before new after = Prints f old before (e ∷ []) new after
PutsLine f e (Err stop.Failed) old before new after = BreaksOff f old before e new after
PutsLine f e (Err stop.Memory) old before new after = Prints f old before [] new after

-- what one put of a text leaves
abbrev pub PutsText : List ℕ → Result (Unit {0}) SinkStop → Option (List ℕ) → ℕ → Option (List ℕ) → ℕ → Type 0
PutsText text (Ok done) old before new after = Grows old text new × (before ≤ after)
PutsText text (Err stop.Failed) old before new after = GrowsInPart old text new × Rose before after × (before ≤ after)
PutsText text (Err stop.Memory) old before new after = (new ≡ old) × (before ≤ after)

-- what saying one event leaves
abbrev pub PrintsEvent : Form → Happening → Result (Unit {0}) PushStop → Option (List ℕ) → ℕ → Option (List ℕ) → ℕ → Type 0
PrintsEvent f e (Ok done) old before new after = Prints f old before (e ∷ []) new after
PrintsEvent f e (Err push_stop.Stopped) old before new after = BreaksOff f old before e new after
PrintsEvent f e (Err push_stop.Memory) old before new after = Prints f old before [] new after

-- what is said of a body: all of it, or first events; at a failure of the sink also what it took of the next one
abbrev pub PrintsBody : Form → Result End ReadStop → Job → Option (List ℕ) → ℕ → Option (List ℕ) → ℕ → Type 0
PrintsBody f (Ok end) j old before new after = (es : List Happening) × (count : ℕ) × IsSequence j start.Body stream_bounds es end count × Prints f old before es new after
PrintsBody f (Err read_stop.Memory) j old before new after = (es : List Happening) × IsFront j start.Body stream_bounds es × Prints f old before es new after
PrintsBody f (Err read_stop.Stopped) j old before new after = (es : List Happening) × (e : Happening) × (mid : Option (List ℕ)) × (between : ℕ) × IsFront j start.Body stream_bounds (es ++ e ∷ []) × Prints f old before es mid between × BreaksOff f mid between e new after
