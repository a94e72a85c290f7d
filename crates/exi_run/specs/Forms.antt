-- In which form a stream is told: its events and its end, each as a line; or where its self-contained elements begin, as hint
-- text, and the line of its fault where it has one.
use Rattle.std.specs.Prelude.{ℕ, List, [], ◌∷◌, ◌++◌, Option, Some, None}
use Rattle.std.specs.List.{flat_map}
use Rattle.exi_evtext.specs.Lines.{line_of, lines_of}
use Rattle.exi_index.specs.Hints as hints
use Rattle.exi_names.specs.Events as event
use Rattle.exi_names.specs.Events.{Happening}
use Rattle.exi_run.specs.declared.ending.Ending.{Ending}
use Rattle.exi_run.specs.declared.ending.Ending.TheVariants as ending
use Rattle.exi_run.specs.declared.form.Form.{Form}
use Rattle.exi_run.specs.declared.form.Form.TheVariants as form
use Rattle.exi_run.specs.Endings.{last_line}

-- the byte at which a self-contained element begins, where the event is one
abbrev pub start_of : Happening → Option ℕ
start_of event.sd = None
start_of event.ed = None
start_of (event.se n) = None
start_of event.ee = None
start_of (event.at n v) = None
start_of (event.ch v) = None
start_of (event.ns uri prefix element) = None
start_of (event.sc place) = Some place
start_of (event.cm t) = None
start_of (event.pi target t) = None
start_of (event.dt n public system t) = None
start_of (event.er n) = None

abbrev pub with_start : Option ℕ → List ℕ → List ℕ
with_start None places = places
with_start (Some place) places = place ∷ places

-- the bytes at which self-contained elements begin, in their order
abbrev pub starts_of : List Happening → List ℕ
starts_of [] = []
starts_of (e ∷ es) = with_start (start_of e) (starts_of es)

-- ---- pieces, each of which is one put
abbrev pub start_pieces : Option ℕ → List (List ℕ)
start_pieces None = []
start_pieces (Some place) = hints.line_of place ∷ []

-- of an event
abbrev pub pieces : Form → Happening → List (List ℕ)
pieces form.Text e = line_of e ∷ []
pieces form.Starts e = start_pieces (start_of e)

-- of the end
abbrev pub last_pieces : Form → Ending → List (List ℕ)
last_pieces form.Text e = last_line e ∷ []
last_pieces form.Starts (ending.Done bit) = []
last_pieces form.Starts (ending.Fault f) = last_line (ending.Fault f) ∷ []

-- ---- the same as text
abbrev pub start_text : Option ℕ → List ℕ
start_text None = []
start_text (Some place) = hints.line_of place

abbrev pub said : Form → Happening → List ℕ
said form.Text e = line_of e
said form.Starts e = start_text (start_of e)

abbrev pub all_said : Form → List Happening → List ℕ
all_said f es = flat_map (said f) es

-- the line of a fault
abbrev pub fault_line : Ending → List ℕ
fault_line (ending.Done bit) = []
fault_line (ending.Fault f) = last_line (ending.Fault f)

-- all of it: a line for each event and the last line; or a number for each self-contained element, in order, and a fault's line
abbrev pub told_as : Form → List Happening → Ending → List ℕ
told_as form.Text es e = lines_of es ++ last_line e
told_as form.Starts es e = hints.lines_of (starts_of es) ++ fault_line e
