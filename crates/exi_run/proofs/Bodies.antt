-- What saying a body says of the whole stream.
use Rattle.std.proofs.Common.{◌≡◌, ◌≤◌, ℕ, List, [], ◌∷◌, ◌++◌, Option, Result, Ok, Err, IsErrOf, refl, sym, ap, ◌∙◌, subst, arith}
use Rattle.std.proofs.lemmas.Grind.{flat_map-append}
use Rattle.std.proofs.lemmas.List.{append-nil}
use Rattle.exi_bits.specs.declared.fault.Fault.{Fault}
use Rattle.exi_gram.specs.Outlines.{Outline}
use Rattle.exi_gram.specs.declared.options.Options.{Options}
use Rattle.exi_header.specs.declared.header.Header.{Header}
use Rattle.exi_meter.specs.Metering.{Bounds, stream_bounds}
use Rattle.exi_names.specs.Events.{Happening, Rose}
use Rattle.exi_processing.specs.Reading.{Sequences}
use Rattle.exi_processing.specs.Reading as reader
use Rattle.exi_processing.specs.Runs.{Job}
use Rattle.exi_processing.specs.declared.end.End.{End}
use Rattle.exi_processing.specs.declared.start.Start.TheVariants as start
use Rattle.exi_processing.specs.declared.turn.ReadStop.{ReadStop}
use Rattle.exi_processing.specs.declared.turn.ReadStop.TheVariants as stop
use Rattle.exi_run.specs.declared.ending.Ending.{Ending}
use Rattle.exi_run.specs.declared.ending.Ending.TheVariants as ending
use Rattle.exi_run.specs.declared.form.Form.{Form}
use Rattle.exi_run.specs.declared.halt.Halt.{Halt}
use Rattle.exi_run.specs.declared.halt.Halt.TheVariants as halt
use Rattle.exi_run.specs.Answers.{DidEvents, GrowsByFront}
use Rattle.exi_run.specs.Endings.{ending_of}
use Rattle.exi_run.specs.Forms.{all_said, said}
use Rattle.exi_run.specs.Printing.{BreaksOff, Prints, PrintsBody, grows_none}
use Rattle.exi_run.specs.Stops.{halt_by}
use Rattle.xsd_file.specs.Bases.{Basis, header_by, job_by}
use Rattle.exi_run.specs.Wholes.{IsBody, IsFront, IsWhole, IsWholeFrom}
use Rattle.exi_run.proofs.Owing.{in_part}

-- what is known, by its parts
abbrev pub basis_in : Options → Option Outline → Option (List ℕ) → Basis
basis_in o schema name = record { options = o; schema = schema; name = name }

-- within the limits of a stream
pub within_stream : {T : Type 0} (took : T → List Happening → T → Type 0) (broke : T → Happening → T → Type 0) (r : Result End ReadStop) (j : Job) (limits : Bounds) (a b : T) (old new : ℕ) → limits ≡ stream_bounds → Sequences took broke r j start.Body limits a b old new → (before after : ℕ) × Sequences took broke r j start.Body stream_bounds a b before after
within_stream took broke r j limits a b old new is h = (old, new, subst (λ (l : Bounds). Sequences took broke r j start.Body l a b old new) is h)

body_says_at : {T : Type 0} (f : Form) (tk : T → Option (List ℕ)) (n : T → ℕ) (r : Result End ReadStop) (j : Job) (a b : T) (old new : ℕ) → Sequences (λ x es y. Prints f (tk x) (n x) es (tk y) (n y)) (λ x e y. BreaksOff f (tk x) (n x) e (tk y) (n y)) r j start.Body stream_bounds a b old new → PrintsBody f r j (tk a) (n a) (tk b) (n b)
body_says_at f tk n (Ok end) j a b old new (es, count, is, takes, steps) = (es, count, is, takes)
body_says_at f tk n (Err stop.Memory) j a b old new h = h
body_says_at f tk n (Err stop.Stopped) j a b old new (es, e, mid, front, takes, breaks) = (es, e, tk mid, n mid, front, takes, breaks)

pub body_says : {T : Type 0} (f : Form) (tk : T → Option (List ℕ)) (n : T → ℕ) (r : Result End ReadStop) (j : Job) (a b : T) → ((before after : ℕ) × Sequences (λ x es y. Prints f (tk x) (n x) es (tk y) (n y)) (λ x e y. BreaksOff f (tk x) (n x) e (tk y) (n y)) r j start.Body stream_bounds a b before after) → PrintsBody f r j (tk a) (n a) (tk b) (n b)
body_says f tk n r j a b (before, after, h) = body_says_at f tk n r j a b before after h

-- ---- with the header in front
whole_of : (basis : Basis) (bytes : List ℕ) (h : Header) (es : List Happening) (e : Ending) → header_by basis bytes ≡ Ok h → IsBody (job_by basis bytes h) es e → IsWhole basis bytes es e
whole_of basis bytes h es e is b = subst (λ (x : Result Header Fault). IsWholeFrom basis bytes x es e) (sym is) b

pub none_of : (basis : Basis) (bytes : List ℕ) (f : Fault) → header_by basis bytes ≡ Err f → IsWhole basis bytes [] (ending.Fault f)
none_of basis bytes f is = subst (λ (x : Result Header Fault). IsWholeFrom basis bytes x [] (ending.Fault f)) (sym is) (refl, refl)

pub fault_said : (f : Form) (basis : Basis) (bytes : List ℕ) (x : Fault) (old : Option (List ℕ)) → header_by basis bytes ≡ Err x → DidEvents f basis bytes (Ok (ending.Fault x)) old old
fault_said f basis bytes x old is = ([], none_of basis bytes x is, grows_none old)

-- nothing was read
pub none_read : ((basis : Basis) (bytes : List ℕ) → (es : List Happening) × (e : Ending) × IsWhole basis bytes es e) → (f : Form) (basis : Basis) (bytes : List ℕ) (old : Option (List ℕ)) → DidEvents f basis bytes (Err halt.Memory) old old
none_read there f basis bytes old = let w = there basis bytes in ([], (w.0, w.1, w.2), grows_none old)

front_of : (basis : Basis) (bytes : List ℕ) (h : Header) (es : List Happening) → header_by basis bytes ≡ Ok h → reader.IsFront (job_by basis bytes h) start.Body stream_bounds es → IsFront basis bytes es
front_of basis bytes h es is f =
    (f.rest, ending_of f.end, whole_of basis bytes h (es ++ f.rest) (ending_of f.end) is (subst (λ (x : List Happening). IsBody (job_by basis bytes h) x (ending_of f.end)) f.parts (f.end, f.count, f.sequence, refl)))

pub did_all : (f : Form) (basis : Basis) (bytes : List ℕ) (h : Header) (end : End) (old new : Option (List ℕ)) (before after : ℕ) → header_by basis bytes ≡ Ok h → PrintsBody f (Ok end) (job_by basis bytes h) old before new after → DidEvents f basis bytes (Ok (ending_of end)) old new
unfolding Prints
did_all f basis bytes h end old new before after is (es, count, run, takes) = (es, whole_of basis bytes h es (ending_of end) is (end, count, run, refl), takes.0)

said_after : (f : Form) (es : List Happening) (e : Happening) → all_said f (es ++ e ∷ []) ≡ all_said f es ++ said f e
said_after f es e = flat_map-append (said f) es (e ∷ []) ∙ ap (λ (t : List ℕ). all_said f es ++ t) (append-nil (said f e))

-- ---- a stop of the reader is one of the command
pub halted : (s : ReadStop) (f : Form) (basis : Basis) (bytes : List ℕ) (h : Header) (old new : Option (List ℕ)) (before after : ℕ) → header_by basis bytes ≡ Ok h → PrintsBody f (Err s) (job_by basis bytes h) old before new after → DidEvents f basis bytes (Err (halt_by s)) old new
unfolding Prints BreaksOff
halted stop.Memory f basis bytes h old new before after is (es, front, takes) = (es, front_of basis bytes h es is front, takes.0)
halted stop.Stopped f basis bytes h old new before after is (es, e, mid, between, front, takes, breaks) =
    (es ++ e ∷ [], front_of basis bytes h (es ++ e ∷ []) is front, subst (λ (t : List ℕ). GrowsByFront old t new) (sym (said_after f es e)) (in_part old mid new (all_said f es) (said f e) takes.0 breaks.0))

pub halted_rose : (s : ReadStop) (f : Form) (r : Result Ending Halt) (j : Job) (old new : Option (List ℕ)) (before after : ℕ) → PrintsBody f (Err s) j old before new after → r ≡ Err (halt_by s) → IsErrOf r halt.Write → Rose before after
unfolding Prints BreaksOff
halted_rose stop.Stopped f r j old new before after (es, e, mid, between, front, takes, breaks) is w = omega (arith, takes.1, breaks.1)
halted_rose stop.Memory f r j old new before after p is w = let x = sym is ∙ w in absurd cc

-- ---- the count of faults
pub never_falls : (f : Form) (r : Result End ReadStop) (j : Job) (old new : Option (List ℕ)) (before after : ℕ) → PrintsBody f r j old before new after → before ≤ after
unfolding Prints BreaksOff
never_falls f (Ok end) j old new before after (es, count, is, takes) = takes.1
never_falls f (Err stop.Memory) j old new before after (es, front, takes) = takes.1
never_falls f (Err stop.Stopped) j old new before after (es, e, mid, between, front, takes, breaks) = omega (arith, takes.1, breaks.2)
