-- What is owed, and what was done of it.
use Rattle.std.proofs.Common.{◌≡◌, ℕ, List, [], ◌∷◌, ◌++◌, Option, Some, None, Result, Ok, Err, IsErrOf, take, drop, refl, sym, ap, ◌∙◌, subst, append_assoc}
use Rattle.std.specs.List.{flat_map}
use Rattle.std.proofs.lemmas.Grind.{flat_map-append}
use Rattle.std.proofs.lemmas.List.{append-nil, take-append-drop}
use Rattle.exi_evtext.specs.Lines.{line_of, lines_of}
use Rattle.exi_index.specs.Hints as hints
use Rattle.exi_names.specs.Events.{Happening, Grows}
use Rattle.xsd_file.specs.Bases.{Basis}
use Rattle.exi_ports.specs.Ports.{GrowsInPart}
use Rattle.exi_ports.specs.declared.sink.SinkStop.{SinkStop}
use Rattle.exi_ports.specs.declared.sink.SinkStop.TheVariants as sink_stop
use Rattle.exi_run.specs.declared.ending.Ending.{Ending}
use Rattle.exi_run.specs.declared.ending.Ending.TheVariants as ending
use Rattle.exi_run.specs.declared.form.Form.{Form}
use Rattle.exi_run.specs.declared.form.Form.TheVariants as form
use Rattle.exi_run.specs.declared.halt.Halt.{Halt}
use Rattle.exi_run.specs.declared.halt.Halt.TheVariants as halt
use Rattle.exi_run.specs.declared.status.Status.{Status}
use Rattle.exi_run.specs.Stops.{halt_of}
use Rattle.exi_run.specs.Wholes.{IsWhole}
use Rattle.exi_run.specs.Endings.{last_line, status_of}
use Rattle.exi_run.specs.Forms.{all_said, fault_line, last_pieces, pieces, said, start_of, start_pieces, start_text, starts_of, told_as, with_start}
use Rattle.exi_run.specs.Printing.{grows_more}
use Rattle.exi_run.specs.Answers.{Did, DidEvents, DidLast, GrowsByFront}
use Rattle.exi_run.specs.Dues.{Due, all_pieces, text_of, whole_due, OwedOf}

-- ---- pieces as text
pub text-append : (a b : List (List ℕ)) → text_of (a ++ b) ≡ text_of a ++ text_of b
text-append [] b = refl
text-append (l ∷ a) b = ap (λ (t : List ℕ). l ++ t) (text-append a b) ∙ sym (append_assoc l (text_of a) (text_of b))

start-piece : (o : Option ℕ) → text_of (start_pieces o) ≡ start_text o
start-piece None = refl
start-piece (Some place) = append-nil (hints.line_of place)

text-piece : (f : Form) (e : Happening) → text_of (pieces f e) ≡ said f e
text-piece form.Text e = append-nil (line_of e)
text-piece form.Starts e = start-piece (start_of e)

pub text-pieces : (f : Form) (es : List Happening) → text_of (flat_map (pieces f) es) ≡ all_said f es
text-pieces f [] = refl
text-pieces f (e ∷ es) =
    text-append (pieces f e) (flat_map (pieces f) es) ∙ ap (λ (t : List ℕ). t ++ text_of (flat_map (pieces f) es)) (text-piece f e) ∙ ap (λ (t : List ℕ). said f e ++ t) (text-pieces f es)

-- the text of a whole stream
pub text-whole : (f : Form) (es : List Happening) (e : Ending) → text_of (all_pieces (whole_due f es e)) ≡ all_said f es ++ text_of (last_pieces f e)
text-whole f es e = text-append (flat_map (pieces f) es) (last_pieces f e) ∙ ap (λ (t : List ℕ). t ++ text_of (last_pieces f e)) (text-pieces f es)

-- ---- the text that a form tells
lines-said : (es : List Happening) → all_said form.Text es ≡ lines_of es
lines-said [] = refl
lines-said (e ∷ es) = ap (λ (t : List ℕ). line_of e ++ t) (lines-said es)

start-more : (o : Option ℕ) (t places : List ℕ) → t ≡ hints.lines_of places → start_text o ++ t ≡ hints.lines_of (with_start o places)
start-more None t places is = is
start-more (Some place) t places is = ap (λ (x : List ℕ). hints.line_of place ++ x) is

starts-said : (es : List Happening) → all_said form.Starts es ≡ hints.lines_of (starts_of es)
starts-said [] = refl
starts-said (e ∷ es) = start-more (start_of e) (all_said form.Starts es) (starts_of es) (starts-said es)

last-fault : (e : Ending) → text_of (last_pieces form.Starts e) ≡ fault_line e
last-fault (ending.Done bit) = refl
last-fault (ending.Fault f) = append-nil (last_line (ending.Fault f))

pub told-said : (f : Form) (es : List Happening) (e : Ending) → all_said f es ++ text_of (last_pieces f e) ≡ told_as f es e
told-said form.Text es e = ap (λ (t : List ℕ). t ++ text_of (last_pieces form.Text e)) (lines-said es) ∙ ap (λ (t : List ℕ). lines_of es ++ t) (append-nil (last_line e))
told-said form.Starts es e = ap (λ (t : List ℕ). t ++ text_of (last_pieces form.Starts e)) (starts-said es) ∙ ap (λ (t : List ℕ). hints.lines_of (starts_of es) ++ t) (last-fault e)

-- ---- fronts
-- a front of one piece more
pub in_part : (old mid new : Option (List ℕ)) (text piece : List ℕ) → Grows old text mid → GrowsInPart mid piece new → GrowsByFront old (text ++ piece) new
in_part old mid new text piece g p =
    (text ++ take p.0 piece, drop p.0 piece, sym (append_assoc text (take p.0 piece) (drop p.0 piece) ∙ ap (λ (t : List ℕ). text ++ t) (take-append-drop p.0 piece)), grows_more old mid new text (take p.0 piece) g p.2)

after_front : (old mid new : Option (List ℕ)) (text more : List ℕ) → Grows old text mid → GrowsByFront mid more new → GrowsByFront old (text ++ more) new
after_front old mid new text more g (front, rest, is, h) = (text ++ front, rest, ap (λ (t : List ℕ). text ++ t) is ∙ sym (append_assoc text front rest), grows_more old mid new text front g h)

-- ---- of a stream's bytes
abbrev WasSaid : Form → Basis → List ℕ → Ending → Option (List ℕ) → Option (List ℕ) → Type 0
WasSaid f basis bytes e old mid = (es : List Happening) × IsWhole basis bytes es e × Grows old (all_said f es) mid

abbrev pub OwesDid : Form → Basis → List ℕ → Result Status Halt → Option (List ℕ) → Option (List ℕ) → Type 0
OwesDid f basis bytes r old new = (due : Due) × OwedOf f basis bytes due × Did due r old new

owed_whole : (f : Form) (basis : Basis) (bytes : List ℕ) (es : List Happening) (e : Ending) → IsWhole basis bytes es e → OwedOf f basis bytes (whole_due f es e)
owed_whole f basis bytes es e w = (es, e, w, refl)

pub done_all : (f : Form) (basis : Basis) (bytes : List ℕ) (e : Ending) (old mid new : Option (List ℕ)) → DidEvents f basis bytes (Ok e) old mid → DidLast (last_pieces f e) (Ok tt) mid new → OwesDid f basis bytes (Ok (status_of e)) old new
done_all f basis bytes e old mid new (es, w, g) last =
    (whole_due f es e, owed_whole f basis bytes es e w, (refl, subst (λ (t : List ℕ). Grows old t new) (sym (text-whole f es e)) (grows_more old mid new (all_said f es) (text_of (last_pieces f e)) g last)))

-- the last piece was broken off
done_part : (f : Form) (basis : Basis) (bytes : List ℕ) (e : Ending) (old mid new : Option (List ℕ)) → WasSaid f basis bytes e old mid → GrowsByFront mid (text_of (last_pieces f e)) new → OwesDid f basis bytes (Err halt.Write) old new
done_part f basis bytes e old mid new (es, w, g) last =
    (whole_due f es e, owed_whole f basis bytes es e w, subst (λ (t : List ℕ). GrowsByFront old t new) (sym (text-whole f es e)) (after_front old mid new (all_said f es) (text_of (last_pieces f e)) g last))

-- the last piece was not begun
done_first : (f : Form) (basis : Basis) (bytes : List ℕ) (e : Ending) (old new : Option (List ℕ)) → WasSaid f basis bytes e old new → OwesDid f basis bytes (Err halt.Memory) old new
done_first f basis bytes e old new (es, w, g) =
    let lines = flat_map (pieces f) es in
    (whole_due f es e, owed_whole f basis bytes es e w, (lines, [], sym (append-nil lines), subst (λ (t : List ℕ). Grows old t new) (sym (append-nil (text_of lines) ∙ text-pieces f es)) g))

pub last_err : (h : Halt) (f : Form) (basis : Basis) (bytes : List ℕ) (e : Ending) (old mid new : Option (List ℕ)) → DidEvents f basis bytes (Ok e) old mid → DidLast (last_pieces f e) (Err h) mid new → OwesDid f basis bytes (Err h) old new
last_err (halt.Refused r) f basis bytes e old mid new d last = absurd last
last_err halt.Write f basis bytes e old mid new d last = done_part f basis bytes e old mid new d last
last_err halt.Memory f basis bytes e old mid new d last = subst (λ (o : Option (List ℕ)). OwesDid f basis bytes (Err halt.Memory) old o) (sym last) (done_first f basis bytes e old mid d)

-- not all events were said
events_first : (f : Form) (basis : Basis) (bytes : List ℕ) (old new : Option (List ℕ)) → DidEvents f basis bytes (Err halt.Memory) old new → OwesDid f basis bytes (Err halt.Memory) old new
events_first f basis bytes old new (es, (more, e, w), g) =
    let lines = flat_map (pieces f) es in
    (whole_due f (es ++ more) e, owed_whole f basis bytes (es ++ more) e w, (lines, flat_map (pieces f) more, flat_map-append (pieces f) es more, subst (λ (t : List ℕ). Grows old t new) (sym (append-nil (text_of lines) ∙ text-pieces f es)) g))

events_part : (f : Form) (basis : Basis) (bytes : List ℕ) (old new : Option (List ℕ)) → DidEvents f basis bytes (Err halt.Write) old new → OwesDid f basis bytes (Err halt.Write) old new
events_part f basis bytes old new (es, (more, e, w), (piece, after, is, g)) =
    let last = text_of (last_pieces f e) in
    let all : all_said f (es ++ more) ++ last ≡ piece ++ (after ++ (all_said f more ++ last)) =
    ap (λ (x : List ℕ). x ++ last) (flat_map-append (said f) es more) ∙ append_assoc (all_said f es) (all_said f more) last ∙ ap (λ (x : List ℕ). x ++ (all_said f more ++ last)) is ∙ append_assoc piece after (all_said f more ++ last) in
    (whole_due f (es ++ more) e, owed_whole f basis bytes (es ++ more) e w, (piece, after ++ (all_said f more ++ last), text-whole f (es ++ more) e ∙ all, g))

pub events_err : (h : Halt) (f : Form) (basis : Basis) (bytes : List ℕ) (old new : Option (List ℕ)) → DidEvents f basis bytes (Err h) old new → OwesDid f basis bytes (Err h) old new
events_err (halt.Refused r) f basis bytes old new d = absurd d
events_err halt.Write f basis bytes old new d = events_part f basis bytes old new d
events_err halt.Memory f basis bytes old new d = events_first f basis bytes old new d

-- ---- the last line, in one put
pub line_ok : (line old_line : List ℕ) (old new : Option (List ℕ)) → line ≡ old_line → Grows old line new → DidLast (old_line ∷ []) (Ok tt) old new
line_ok line old_line old new is g = subst (λ (t : List ℕ). Grows old t new) (is ∙ sym (append-nil old_line)) g

pub line_err : (r : Result (Unit {0}) SinkStop) (stop : SinkStop) (line last : List ℕ) (old new : Option (List ℕ)) → line ≡ last → r ≡ Err stop → (IsErrOf r sink_stop.Failed → GrowsInPart old line new) → (IsErrOf r sink_stop.Memory → new ≡ old) → DidLast (last ∷ []) (Err (halt_of stop)) old new
line_err r sink_stop.Failed line last old new is err part same =
    let p = subst (λ (t : List ℕ). GrowsInPart old t new) is (part err) in
    (take p.0 last, drop p.0 last, append-nil last ∙ sym (take-append-drop p.0 last), p.2)
line_err r sink_stop.Memory line last old new is err part same = same err
