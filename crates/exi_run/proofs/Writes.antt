-- What is put of an event text.
use Rattle.std.proofs.Common.{◌≡◌, ◌+◌, ◌-◌, ◌^◌, ◌<◌, ◌≤◌, ◌%◌, ℕ, Bool, true, false, List, [], ◌∷◌, ◌++◌, length, Option, Result, Ok, Err, refl, sym, ap, ◌∙◌, subst, arith}
use Rattle.std.specs.Prelude.{IfOk, if◌then◌else◌}
use Rattle.std.proofs.lemmas.List.{length-append, length-replicate}
use Rattle.exi_bits.specs.Bits.{IsBytes, bits, octets}
use Rattle.exi_bits.specs.Written.{IsWholeBytes, padded, to_byte, zeros}
use Rattle.exi_bits.specs.declared.align.Align.TheVariants as align
use Rattle.exi_bits.proofs.BitLaws.{length-bits}
use Rattle.exi_bits.proofs.InBytes.{octets_of-bits}
use Rattle.exi_evtext.specs.Left.{LinesLeft}
use Rattle.exi_evtext.specs.Parsing.{Fills, events_in, events_left, with_event}
use Rattle.exi_gram.specs.declared.options.Options.{Options}
use Rattle.exi_gram.specs.Switches.{align_of, byte_aligned}
use Rattle.exi_header.specs.Headers.{front_bits, header_bits}
use Rattle.exi_meter.specs.Metering.{Bounds, stream_bounds}
use Rattle.exi_names.specs.Events.{Happening, Grows}
use Rattle.exi_names.specs.declared.stops.TextStop.{TextStop}
use Rattle.exi_names.specs.declared.stops.TextStop.TheVariants as text_stop
use Rattle.exi_processing.specs.Configurations.{Setting}
use Rattle.exi_run.specs.declared.halt.Halt.{Halt}
use Rattle.exi_run.specs.declared.halt.Halt.TheVariants as halt
use Rattle.exi_run.specs.declared.halt.Refusal.TheVariants as refusal
use Rattle.exi_run.specs.declared.status.Status.TheVariants as status
use Rattle.exi_run.specs.declared.unwritten.Unwritten.TheVariants as unwritten
use Rattle.exi_run.specs.Answers.{Composes, DidLast, DidWrite, Finishes, GrowsByFront, TakesAll}
use Rattle.exi_run.specs.Dues.{Due, all_pieces, refusal_due, stream_due, text_due, text_of}
use Rattle.exi_run.specs.Printing.{grows_none}
use Rattle.exi_run.specs.Stops.{halt_at, halt_for}
use Rattle.exi_gram.specs.Outlines.{Outline}
use Rattle.exi_gram.specs.declared.options.SchemaWord.TheVariants as schema
use Rattle.exi_opening.specs.Openings.{setting_by}
use Rattle.xsd_file.specs.Bases.{chosen}
use Rattle.exi_run.specs.Wishes.{Wish, body_by, head_bits, head_options, run_or_why, setting_for, stream_bytes, written_for}
use Rattle.exi_writer.specs.Writing.{Answers, Begins, Bodies, Listing, MayTake, Takes}
use Rattle.exi_writer.specs.declared.fault.WriteFault.{WriteFault}
use Rattle.exi_writer.specs.declared.fault.WriteFault.TheVariants as fault
use Rattle.exi_writing.specs.Runs.{Run, body}
use Rattle.exi_writing.specs.Runs as runs

-- ---- bytes of bits
-- bytes are those of the bits that they hold
pub stream_is : (bytes : List ℕ) (text : List Bool) → IsBytes bytes → bits bytes ≡ padded text → bytes ≡ stream_bytes text
stream_is bytes text fits e =
    let more : length (padded text) ≡ length text + length (zeros (to_byte (length text))) = length-append text (zeros (to_byte (length text))) in
    let few : length (zeros (to_byte (length text))) ≡ to_byte (length text) = length-replicate (to_byte (length text)) false in
    let long : length bytes ≡ octets (length text) = omega (arith, length-bits bytes, ap length e, more, few) in
    sym (octets_of-bits bytes fits) ∙ rw (e, long) refl

whole_padded : (text : List Bool) → length (padded text) % 8 ≡ 0
whole_padded text =
    let more : length (padded text) ≡ length text + length (zeros (to_byte (length text))) = length-append text (zeros (to_byte (length text))) in
    let few : length (zeros (to_byte (length text))) ≡ to_byte (length text) = length-replicate (to_byte (length text)) false in
    omega (arith, more, few)

-- a header of a byte-aligned stream is whole bytes
head_by : (b : Bool) (front : List Bool) → IsWholeBytes (if b then align.Bytes else align.Bits) (if b then padded front else front)
head_by true front = λ is. whole_padded front
head_by false front = λ is. absurd cc

pub head_whole : (o : Options) (told marked : Bool) → IsWholeBytes (align_of o) (header_bits o told marked)
unfolding header_bits
head_whole o told marked = head_by (byte_aligned o) (front_bits o told marked)

-- ---- the lines of a text, one after another
-- what is answered of this rest now was to be answered of these events
pub record Leads (old : Listing) (es : List Happening) (now : Listing) (rest : List Happening) : Type 0 where
  pub behind : (answer : Result (List Bool) WriteFault) → Answers answer now rest → Answers answer old es

-- so much of what the lines say is taken, where this is left of it
abbrev pub Goes : Result (List Happening) ℕ → Result (List Happening) ℕ → Listing → Listing → Type 0
Goes (Ok rest) all old now = (es : List Happening) × (all ≡ Ok es) × Leads old es now rest
Goes (Err line) all old now = all ≡ Err line

pub record IsUnder (left all : Result (List Happening) ℕ) (bytes : ℕ) (old now : Listing) : Type 0 where
  pub goes : Goes left all old now
  pub going : MayTake now
  pub room : now.number + bytes < 2 ^ 64

goes_first : (all : Result (List Happening) ℕ) (l : Listing) → Goes all all l l
goes_first (Ok es) l = (es, refl, record { behind = λ answer h. h })
goes_first (Err line) l = refl

goes_next : (left new all : Result (List Happening) ℕ) (e : Happening) (old now next : Listing) → left ≡ with_event e new → Goes left all old now → Takes now e next → Goes new all old next
goes_next left (Ok rest) all e old now next is goes takes =
    let g = subst (λ (o : Result (List Happening) ℕ). Goes o all old now) is goes in
    (g.0, g.1, record { behind = λ answer h. g.2.behind answer (takes.behind rest answer h) })
goes_next left (Err line) all e old now next is goes takes = subst (λ (o : Result (List Happening) ℕ). Goes o all old now) is goes

pub under_first : (all : Result (List Happening) ℕ) (bytes : ℕ) (l : Listing) → MayTake l → l.number + bytes < 2 ^ 64 → IsUnder all all bytes l l
under_first all bytes l going room = record { goes = goes_first all l; going = going; room = room }

pub under_next : (left new all : Result (List Happening) ℕ) (bytes fewer : ℕ) (e : Happening) (old now next : Listing) → IsUnder left all bytes old now → left ≡ with_event e new → fewer < bytes → Takes now e next → MayTake next → next.number ≤ now.number + 1 → IsUnder new all fewer old next
under_next left new all bytes fewer e old now next u is less takes going count =
    record { goes = goes_next left new all e old now next is u.goes takes; going = going; room = (let room = u.room in omega (arith, room, less, count)) }

pub under_room : (left all : Result (List Happening) ℕ) (bytes fewer : ℕ) (old now : Listing) → IsUnder left all bytes old now → fewer < bytes → now.number < 2 ^ 64 - 1
under_room left all bytes fewer old now u less = let room = u.room in omega (arith, room, less)

pub under_last : (left all : Result (List Happening) ℕ) (bytes : ℕ) (old now : Listing) → IsUnder left all bytes old now → left ≡ Ok [] → TakesAll (Ok tt) all old now
under_last left all bytes old now u none =
    let g = subst (λ (o : Result (List Happening) ℕ). Goes o all old now) none u.goes in
    (g.0, g.1, record { behind = g.2.behind })

pub under_stop : (stop : TextStop) (e : Happening) (lines next : LinesLeft) (all : Result (List Happening) ℕ) (bytes : ℕ) (old now : Listing) → IsUnder (events_left lines) all bytes old now → Fills (Err stop) e lines next → TakesAll (Err (halt_at stop)) all old now
under_stop (text_stop.Syntax line) e lines next all bytes old now u given = (line, refl, subst (λ (o : Result (List Happening) ℕ). Goes o all old now) given.0 u.goes)
under_stop text_stop.Memory e lines next all bytes old now u given = tt

-- ---- what is written of a text
pub stopped_err : (h : Halt) (w : Wish) (known : Option Outline) (text : List ℕ) (left : Result (List Happening) ℕ) (old new : Listing) → left ≡ events_in text → TakesAll (Err h) left old new → Composes w known text (Err h)
unfolding written_for
stopped_err (halt.Refused r) w known text left old new is (line, why, e) = (unwritten.Syntax line, why, ap (body_by w known) (sym is ∙ e))
stopped_err halt.Write w known text left old new is e = absurd e
stopped_err halt.Memory w known text left old new is e = tt

-- the list is the text's, and its body begins behind the head
pub record IsListOf (w : Wish) (known : Option Outline) (text : List ℕ) (head : List Bool) (b : Setting) (limits : Bounds) (old new : Listing) : Type 0 where
  pub left : Result (List Happening) ℕ
  pub says : left ≡ events_in text
  pub head_is : head ≡ head_bits w
  pub book : b ≡ setting_for w known
  pub within : limits ≡ stream_bounds
  pub begins : Begins head b limits old
  pub taken : TakesAll (Ok tt) left old new

-- the same head, book, limits and events
record IsBodyOf (w : Wish) (known : Option Outline) (text : List ℕ) (head : List Bool) (b : Setting) (limits : Bounds) (es : List Happening) : Type 0 where
  events : events_in text ≡ Ok es
  head_is : head ≡ head_bits w
  book : b ≡ setting_for w known
  within : limits ≡ stream_bounds

-- the book is made of the options of the words, which tell no schema, and of the one that is known
book_for : (w : Wish) (known : Option Outline) (o : Options) (b : Setting) → w.options.schema ≡ schema.Absent → o ≡ w.options → b ≡ setting_by (chosen known o.schema) o → b ≡ setting_for w known
book_for w known o b plain same is = is ∙ rw (same, plain) refl

pub book_made : {E : Type 0} (r : Result Setting E) (w : Wish) (known : Option Outline) (o : Options) → w.options.schema ≡ schema.Absent → o ≡ w.options → IfOk r (λ b. b ≡ setting_by (chosen known o.schema) o) → IfOk r (λ b. b ≡ setting_for w known)
book_made (Ok b) w known o plain same is = book_for w known o b plain same is
book_made (Err e) w known o plain same is = tt

abbrev given_body : Wish → Option Outline → List Happening → Result Run runs.Refusal
given_body w known es = body (setting_for w known) (length (head_bits w)) stream_bounds es

same_body : (w : Wish) (known : Option Outline) (text : List ℕ) (head : List Bool) (b : Setting) (limits : Bounds) (es : List Happening) → IsBodyOf w known text head b limits es → body b (length head) limits es ≡ given_body w known es
same_body w known text head b limits es is = rw (is.book, is.head_is, is.within) refl

text_body : (w : Wish) (known : Option Outline) (text : List ℕ) (head : List Bool) (b : Setting) (limits : Bounds) (es : List Happening) (o : Result Run runs.Refusal) → IsBodyOf w known text head b limits es → body b (length head) limits es ≡ o → written_for w known text ≡ run_or_why o
unfolding written_for
text_body w known text head b limits es o is e = ap (body_by w known) is.events ∙ ap run_or_why (sym (same_body w known text head b limits es is) ∙ e)

body_ok : (w : Wish) (known : Option Outline) (text : List ℕ) (head : List Bool) (b : Setting) (limits : Bounds) (es : List Happening) (out : List Bool) → IsBodyOf w known text head b limits es → Bodies (Ok out) head (body b (length head) limits es) → Composes w known text (Ok out)
body_ok w known text head b limits es out is (r, e, o) = (r, text_body w known text head b limits es (Ok r) is e, o ∙ ap (λ (h : List Bool). h ++ r.bits) is.head_is)

body_err : (f : WriteFault) (w : Wish) (known : Option Outline) (text : List ℕ) (head : List Bool) (b : Setting) (limits : Bounds) (es : List Happening) → IsBodyOf w known text head b limits es → Bodies (Err f) head (body b (length head) limits es) → Composes w known text (Err (halt_for f))
body_err (fault.NotDerived n) w known text head b limits es is e = (unwritten.NotDerived n, refl, text_body w known text head b limits es _ is e)
body_err (fault.Limit n k) w known text head b limits es is (m, e) = (unwritten.Limit n k, refl, text_body w known text head b limits es _ is e)
body_err fault.Memory w known text head b limits es is e = tt

body_is : (w : Wish) (known : Option Outline) (text : List ℕ) (head : List Bool) (b : Setting) (limits : Bounds) (old new : Listing) → (l : IsListOf w known text head b limits old new) → IsBodyOf w known text head b limits l.taken.0
body_is w known text head b limits old new l = record { events = sym l.says ∙ l.taken.1; head_is = l.head_is; book = l.book; within = l.within }

body_answers : (w : Wish) (known : Option Outline) (text : List ℕ) (head : List Bool) (b : Setting) (limits : Bounds) (old new : Listing) → (l : IsListOf w known text head b limits old new) → (answer : Result (List Bool) WriteFault) → Answers answer new [] → Bodies answer head (body b (length head) limits l.taken.0)
body_answers w known text head b limits old new l answer h = l.begins.whole l.taken.0 answer (l.taken.2.behind answer h)

list_ok : (w : Wish) (known : Option Outline) (text : List ℕ) (head : List Bool) (b : Setting) (limits : Bounds) (old new : Listing) (out : List Bool) → IsListOf w known text head b limits old new → Answers (Ok out) new [] → Composes w known text (Ok out)
list_ok w known text head b limits old new out l h = body_ok w known text head b limits l.taken.0 out (body_is w known text head b limits old new l) (body_answers w known text head b limits old new l (Ok out) h)

list_err : (f : WriteFault) (w : Wish) (known : Option Outline) (text : List ℕ) (head : List Bool) (b : Setting) (limits : Bounds) (old new : Listing) → IsListOf w known text head b limits old new → Answers (Err f) new [] → Composes w known text (Err (halt_for f))
list_err f w known text head b limits old new l h = body_err f w known text head b limits l.taken.0 (body_is w known text head b limits old new l) (body_answers w known text head b limits old new l (Err f) h)

pub list_done : (r : Result (List Bool) Halt) (w : Wish) (known : Option Outline) (text : List ℕ) (head : List Bool) (b : Setting) (limits : Bounds) (old new : Listing) → IsListOf w known text head b limits old new → Finishes r new → Composes w known text r
list_done (Ok out) w known text head b limits old new l h = list_ok w known text head b limits old new out l h
list_done (Err h) w known text head b limits old new l (f, is, a) = subst (λ (x : Halt). Composes w known text (Err x)) (sym is) (list_err f w known text head b limits old new l a)

-- ---- what is put of it
pub write_err : (h : Halt) (w : Wish) (known : Option Outline) (text : List ℕ) (old : Option (List ℕ)) → Composes w known text (Err h) → DidWrite w known text (Err h) old old
write_err (halt.Refused r) w known text old (why, is, e) = (ap (text_due w) e ∙ ap refusal_due (sym is), refl)
write_err halt.Write w known text old e = absurd e
write_err halt.Memory w known text old e = ([], (text_due w (written_for w known text)).lines, refl, grows_none old)

due_is : (w : Wish) (known : Option Outline) (text : List ℕ) (out : List Bool) → Composes w known text (Ok out) → text_due w (written_for w known text) ≡ stream_due (stream_bytes out)
due_is w known text out (r, is, e) = ap (text_due w) is ∙ ap (λ (b : List Bool). stream_due (stream_bytes b)) (sym e)

pub put_ok : (w : Wish) (known : Option Outline) (text : List ℕ) (out : List Bool) (old new : Option (List ℕ)) → Composes w known text (Ok out) → DidLast (stream_bytes out ∷ []) (Ok tt) old new → DidWrite w known text (Ok status.Ok) old new
put_ok w known text out old new c put =
    let d = sym (due_is w known text out c) in
    (ap (λ (x : Due). x.status) d, subst (λ (x : Due). Grows old (text_of (all_pieces x)) new) d put)

pub put_err : (h : Halt) (w : Wish) (known : Option Outline) (text : List ℕ) (out : List Bool) (old new : Option (List ℕ)) → Composes w known text (Ok out) → DidLast (stream_bytes out ∷ []) (Err h) old new → DidWrite w known text (Err h) old new
put_err (halt.Refused r) w known text out old new c put = absurd put
put_err halt.Write w known text out old new c put = subst (λ (x : Due). GrowsByFront old (text_of (all_pieces x)) new) (sym (due_is w known text out c)) put
put_err halt.Memory w known text out old new c put = ([], (text_due w (written_for w known text)).lines, refl, subst (λ (o : Option (List ℕ)). Grows old [] o) (sym put) (grows_none old))

-- ---- no file was at fault
pub composed_read : (h : Halt) (w : Wish) (known : Option Outline) (text : List ℕ) → Composes w known text (Err h) → h ≡ halt.Refused refusal.ReadFailed → ⊥
composed_read (halt.Refused r) w known text (why, is, e) f = cc
composed_read halt.Write w known text e f = e
composed_read halt.Memory w known text e f = cc

pub put_read : (h : Halt) (pieces : List (List ℕ)) (old new : Option (List ℕ)) → DidLast pieces (Err h) old new → h ≡ halt.Refused refusal.ReadFailed → ⊥
put_read (halt.Refused r) pieces old new d f = d
put_read halt.Write pieces old new d f = cc
put_read halt.Memory pieces old new d f = cc

pub head_whole_of : {E : Type 0} (r : Result (List Bool) E) (w : Wish) → IfOk r (λ out. out ≡ head_bits w) → IfOk r (λ out. IsWholeBytes (align_of w.options) out)
head_whole_of (Ok out) w is = subst (λ (x : List Bool). IsWholeBytes (align_of w.options) x) (sym is) (head_whole (head_options w) w.told w.cookie)
head_whole_of (Err e) w is = tt
