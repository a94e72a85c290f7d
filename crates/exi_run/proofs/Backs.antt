-- The stream that is written is read back.
use Rattle.std.proofs.Common.{◌≡◌, ◌≢◌, ◌⊎◌, inl, inr, ◌+◌, ◌*◌, ◌^◌, ◌<◌, ◌≤◌, ℕ, zero, suc, Bool, true, false, List, [], ◌∷◌, ◌++◌, length, take, drop, refl, sym, ap, ◌∙◌, subst, append_assoc, arith}
use Rattle.std.specs.Prelude.{IfSome, Option, Some, None, Result, Ok, Err, encode_utf8_all, not, if◌then◌else◌}
use Rattle.std.proofs.lemmas.List.{length-append, length-replicate, length-take, drop_at, take_all}
use Rattle.std.proofs.lemmas.Slice.Eq.{bytes_eq-Decides}
use Rattle.std.proofs.lemmas.Str.{length-le-encodes}
use Rattle.exi_bits.specs.Bits.{IsBytes, bits, octets, octets_of, value_of}
use Rattle.exi_bits.specs.Written.{padded, to_byte, zeros}
use Rattle.exi_bits.proofs.BitLaws.{pow_up, value_of_below}
use Rattle.exi_bits.proofs.OctetLaws.{bits_octets}
use Rattle.exi_bits.specs.declared.fault.Fault.{Fault}
use Rattle.exi_evtext.specs.Parsing.{events_in}
use Rattle.exi_gram.specs.Books.{IsPlainBook}
use Rattle.exi_gram.specs.Outlines.{Outline}
use Rattle.exi_gram.specs.Schemas.{IsSchema}
use Rattle.exi_gram.specs.declared.options.Options.{Options}
use Rattle.exi_gram.specs.declared.options.SchemaWord.{SchemaWord}
use Rattle.exi_gram.specs.declared.options.SchemaWord.TheVariants as schema
use Rattle.exi_gram.specs.Switches.{conflicts}
use Rattle.exi_gram.specs.Wholes.{without_schema}
use Rattle.exi_header.specs.declared.header.Header.{Header}
use Rattle.exi_header.specs.Laws.{CookieIsAsked, WrittenIsRead as HeadIsRead}
use Rattle.exi_meter.specs.Metering.{stream_bounds}
use Rattle.exi_names.specs.Events.{Happening}
use Rattle.exi_processing.specs.Configurations.{IsSetting}
use Rattle.exi_processing.specs.Runs.{Job, done, events_of, first, whole_bytes}
use Rattle.exi_processing.specs.Spelled.{IsIn}
use Rattle.exi_processing.specs.declared.start.Start.TheVariants as start
use Rattle.exi_run.specs.Backs.{IsHeadBack, IsSound, ReadsBack, WrittenIsRead, written_end, written_from, written_job}
use Rattle.exi_run.specs.declared.ending.Ending.{Ending}
use Rattle.exi_run.specs.declared.ending.Ending.TheVariants as ending
use Rattle.exi_opening.specs.Header.{is_another, is_empty_name, known_by, stream_header}
use Rattle.exi_ports.specs.Ports.{file_at}
use Rattle.exi_run.specs.declared.command.Command.{Command}
use Rattle.exi_run.specs.Answers.{IsBack, OfBoth, OfFile, OfWriting, Stands, StandsFor}
use Rattle.exi_run.specs.Dues.{Files}
use Rattle.exi_run.specs.Tasks.{IsReady, IsReadyIf, Task, counting, stream, task, tasked, writing}
use Rattle.exi_opening.specs.Openings.{setting_of}
use Rattle.xsd_file.specs.Bases.{Basis, header_by, if_any, job_by}
use Rattle.exi_run.specs.declared.status.Status.{Status}
use Rattle.exi_run.specs.declared.status.Status.TheVariants as status
use Rattle.exi_run.specs.Wholes.{IsBody, IsWhole, IsWholeFrom}
use Rattle.exi_run.specs.Wishes.{Wish, body_by, body_for, head_bits, head_options, run_or_why, setting_for, stream_bytes, stream_of, written_for}
use Rattle.exi_run.proofs.Places.{body_place}
use Rattle.exi_run.proofs.Told.{same_body, setting_told}
use Rattle.exi_run.proofs.Writes.{head_whole}
use Rattle.exi_writer.specs.Same.{AreSame, AreSameText, ListIsSame, ListIsSameText, pruned_list}
use Rattle.exi_writing.specs.Laws.{ListIsRead}
use Rattle.exi_writing.specs.Runs.{Run, body}
use Rattle.exi_writing.specs.Runs as runs
use Rattle.xsd_file.specs.Documents.{IsDocument}
use Rattle.xsd_file.specs.Words.{Known}

-- ---- the bytes of bits
octet_fits : (text : List Bool) → value_of (take 8 text) < 256
octet_fits text =
    let h : value_of (take 8 text) < 2 ^ length (take 8 text) = value_of_below (take 8 text) in
    let u : 2 ^ length (take 8 text) ≤ 2 ^ 8 = pow_up (length (take 8 text)) 8 (omega (arith, length-take 8 text)) in
    omega arith

octets_fit : (n : ℕ) (text : List Bool) → IsBytes (octets_of n text)
unfolding octets_of
octets_fit zero text i = omega arith
octets_fit (suc n) text zero = octet_fits text
octets_fit (suc n) text (suc i) = octets_fit n (drop 8 text) i

octets_long : (n : ℕ) (text : List Bool) → length (octets_of n text) ≡ n
unfolding octets_of
octets_long zero text = refl
octets_long (suc n) text = ap suc (octets_long n (drop 8 text))

padded_long : (text : List Bool) → length (padded text) ≡ 8 * octets (length text)
padded_long text =
    let more : length (padded text) ≡ length text + length (zeros (to_byte (length text))) = length-append text (zeros (to_byte (length text))) in
    let few : length (zeros (to_byte (length text))) ≡ to_byte (length text) = length-replicate (to_byte (length text)) false in
    omega (arith, more, few)

stream_bits : (text : List Bool) → bits (stream_bytes text) ≡ padded text
stream_bits text =
    let long = padded_long text in
    bits_octets (octets (length text)) (padded text) (omega (arith, long)) ∙ take_all (8 * octets (length text)) (padded text) (omega (arith, long))

-- behind the head
behind_head : (head text : List Bool) → drop (length head) (bits (stream_bytes (head ++ text))) ≡ text ++ zeros (to_byte (length (head ++ text)))
behind_head head text =
    let more = zeros (to_byte (length (head ++ text))) in
    let parts : bits (stream_bytes (head ++ text)) ≡ head ++ (text ++ more) = stream_bits (head ++ text) ∙ append_assoc head text more in
    ap (drop (length head)) parts ∙ drop_at head (text ++ more) (length head) refl

-- ---- the body
text_events : (w : Wish) (known : Option Outline) (r : Run) (o : Result (List Happening) ℕ) → body_by w known o ≡ Ok r → (es : List Happening) × (body_for w known es ≡ Ok r)
text_events w known r (Ok es) e = (es, e)
text_events w known r (Err line) e = absurd cc

run_of : (o : Result Run runs.Refusal) (r : Run) → run_or_why o ≡ Ok r → o ≡ Ok r
run_of (Ok s) r e = let k : Ok s ≡ Ok r = e in cc
run_of (Err why) r e = absurd cc

abbrev run_for : Wish → Option Outline → List Happening → Result Run runs.Refusal
run_for w known es = body (setting_for w known) (length (head_bits w)) stream_bounds es

abbrev IsBodyRun : Wish → Option Outline → Run → Type 0
IsBodyRun w known r = (es : List Happening) × (run_for w known es ≡ Ok r)

body_run : (w : Wish) (known : Option Outline) (text : List ℕ) (r : Run) → written_for w known text ≡ Ok r → IsBodyRun w known r
unfolding written_for
body_run w known text r h =
    let t = text_events w known r (events_in text) h in
    (t.0, run_of (run_for w known t.0) r t.1)

plain_of : (o : Options) → conflicts o ≡ false → IsPlainBook (setting_of o)
plain_of o free = record { no_conflict = free; states = refl }

grammars_of : IsSchema without_schema → (known : Option Outline) → IsSound known → IsSchema (if_any known)
grammars_of plain None sound = plain
grammars_of plain (Some schema) sound = sound

read_by : (w : Wish) (known : Option Outline) → IsSchema (if_any known) → conflicts w.options ≡ false → IsSetting (setting_for w known)
read_by w known grammars free = record { book = record { no_conflict = free; states = refl }; schema = grammars }

stands_in : (w : Wish) (known : Option Outline) (r : Run) → IsIn (setting_for w known) (stream_of w r) (first (written_job w known r) start.Body stream_bounds)
stands_in w known r =
    let all = head_bits w ++ r.bits in
    let long : length (stream_of w r) ≡ octets (length all) = octets_long (octets (length all)) (padded all) in
    let parts : length all ≡ length (head_bits w) + length r.bits = length-append (head_bits w) r.bits in
    record {
      octets = octets_fit (octets (length all)) (padded all);
      within = omega (arith, long, parts);
      aligned = head_whole (head_options w) w.told w.cookie;
    }

body_back : ListIsRead → (w : Wish) (known : Option Outline) (r : Run) → IsSchema (if_any known) → conflicts w.options ≡ false → IsBodyRun w known r → IsBody (written_job w known r) (events_of r.events) (written_end w r)
body_back law w known r grammars free (es, is) =
    let head = head_bits w in
    let all = head ++ r.bits in
    let at : r.last.place ≡ length all = body_place (setting_for w known) (length head) stream_bounds es r is ∙ sym (length-append head r.bits) in
    let long : length (stream_of w r) ≡ whole_bytes r.last.place = octets_long (octets (length all)) (padded all) ∙ ap whole_bytes (sym at) in
    let run = law (written_job w known r) stream_bounds es r (zeros (to_byte (length all))) (read_by w known grammars free) (stands_in w known r) is (behind_head head r.bits) long in
    (done r.last, length r.events, (r.events, run, refl, refl), ap (λ (n : ℕ). ending.Done n) (sym at))

-- ---- with the header in front
no_schema_in : (w : Wish) → w.options.schema ≡ schema.Absent → w.schema ≡ schema.Absent → head_options w ≡ w.options
no_schema_in w plain none = ap (λ (s : SchemaWord). record w.options { schema = s }) (none ∙ sym plain)

told_or : (b : Bool) (o words : Options) → o ≡ words → (if b then o else words) ≡ words
told_or true o words is = is
told_or false o words is = refl

-- the same options and schema, by whatever name it is known
abbrev basis_for : Wish → Option Outline → Option (List ℕ) → Basis
basis_for w known name = record { options = w.options; schema = known; name = name }

same_job : (w : Wish) (known : Option Outline) (name : Option (List ℕ)) (bytes : List ℕ) (h : Header) (n : ℕ) → h.options ≡ w.options → h.body ≡ n → w.options.schema ≡ schema.Absent → job_by (basis_for w known name) bytes h ≡ record { setting = setting_for w known; bytes = bytes; body = n }
same_job w known name bytes h n is at plain = rw (is, at, plain) refl

taken_header : (name : Option (List ℕ)) (h : Header) (o : Options) → h.options ≡ o → o.schema ≡ schema.Absent → known_by name (Ok h) ≡ Ok h
taken_header name h o is plain = let none : h.options.schema ≡ schema.Absent = ap (λ (x : Options). x.schema) is ∙ plain in rw none refl

whole_back : HeadIsRead → (w : Wish) (known : Option Outline) (file : List ℕ) (r : Run) → IsReady (writing file w) → w.schema ≡ schema.Absent → (name : Option (List ℕ)) → IsBody (written_job w known r) (events_of r.events) (written_end w r) → IsWhole (basis_for w known name) (stream_of w r) (events_of r.events) (written_end w r)
unfolding stream_header
whole_back law w known file r ready none name back =
    let all = head_bits w ++ r.bits in
    let same = no_schema_in w ready.2 none in
    let tellable = ready.1 in
    let free : conflicts (head_options w) ≡ false = ready.0 in
    let front : bits (stream_of w r) ≡ head_bits w ++ (r.bits ++ zeros (to_byte (length all))) = stream_bits all ∙ append_assoc (head_bits w) r.bits (zeros (to_byte (length all))) in
    let k = law (head_options w) w.options w.told w.cookie (stream_of w r) (r.bits ++ zeros (to_byte (length all))) tellable free (octets_fit (octets (length all)) (padded all)) front in
    let h = k.0 in
    let options_are : h.options ≡ w.options = k.2.options ∙ told_or w.told (head_options w) w.options same in
    let read : header_by (basis_for w known name) (stream_of w r) ≡ Ok h = ap (known_by name) k.1 ∙ taken_header name h w.options options_are ready.2 in
    subst (λ (x : Result Header Fault). IsWholeFrom (basis_for w known name) (stream_of w r) x (events_of r.events) (written_end w r)) (sym read)
    (subst (λ (j : Job). IsBody j (events_of r.events) (written_end w r)) (sym (same_job w known name (stream_of w r) h (length (head_bits w)) options_are k.2.body ready.2)) back)

-- ---- with a name of the schema in it
not_empty : (name : List ℕ) → name ≢ [] → is_empty_name name ≡ false
not_empty [] some = absurd (some refl)
not_empty (c ∷ cs) some = grind (arith, length-le-encodes (c ∷ cs))

same_name : (name : List ℕ) → is_another (Some (encode_utf8_all name)) name ≡ false
same_name name = ap not ((bytes_eq-Decides (encode_utf8_all name) (encode_utf8_all name)).1 refl)

-- the options that are read: those of the words, which tell no schema, or with the name that was told
IsHead : Wish → List ℕ → Options → Type 0
IsHead w name o = (o ≡ record w.options { schema = schema.Id name }) ⊎ (o ≡ w.options)

head_is : (w : Wish) (name : List ℕ) (told : Bool) → w.schema ≡ schema.Id name → (o : Options) → o ≡ (if told then head_options w else w.options) → IsHead w name o
unfolding IsHead
head_is w name true named o is = inl (is ∙ ap (λ (s : SchemaWord). record w.options { schema = s }) named)
head_is w name false named o is = inr is

abbrev basis_named : Wish → Option Outline → List ℕ → Basis
basis_named w known name = basis_for w known (Some (encode_utf8_all name))

named_header : (name : List ℕ) (h : Header) → is_empty_name name ≡ false → h.options.schema ≡ schema.Id name → known_by (Some (encode_utf8_all name)) (Ok h) ≡ Ok h
named_header name h some is = rw (is, some, same_name name) refl

named_job : (w : Wish) (known : Option Outline) (name : List ℕ) (bytes : List ℕ) (h : Header) (n : ℕ) → is_empty_name name ≡ false → h.options ≡ record w.options { schema = schema.Id name } → h.body ≡ n → job_by (basis_named w known name) bytes h ≡ record { setting = setting_told (if_any known) w.options (schema.Id name); bytes = bytes; body = n }
named_job w known name bytes h n some is at = rw (is, at, some) refl

-- the header is read, and the body goes by options that are those of the words but for what they say of the schema
named_whole : (w : Wish) (known : Option Outline) (name bytes : List ℕ) (h : Header) (n : ℕ) (es : List Happening) (e : Ending) → is_empty_name name ≡ false → w.options.schema ≡ schema.Absent → IsHead w name h.options → h.body ≡ n → IsBody (record { setting = setting_for w known; bytes = bytes; body = n }) es e → IsWholeFrom (basis_named w known name) bytes (known_by (Some (encode_utf8_all name)) (Ok h)) es e
unfolding IsHead
named_whole w known name bytes h n es e some plain (inl is) at back =
    let read = named_header name h some (ap (λ (x : Options). x.schema) is) in
    let body = same_body (if_any known) w.options (schema.Id name) bytes n es e back in
    subst (λ (x : Result Header Fault). IsWholeFrom (basis_named w known name) bytes x es e) (sym read)
    (subst (λ (j : Job). IsBody j es e) (sym (named_job w known name bytes h n some is at)) body)
named_whole w known name bytes h n es e some plain (inr is) at back =
    let read = taken_header (Some (encode_utf8_all name)) h w.options is plain in
    subst (λ (x : Result Header Fault). IsWholeFrom (basis_named w known name) bytes x es e) (sym read)
    (subst (λ (j : Job). IsBody j es e) (sym (same_job w known (Some (encode_utf8_all name)) bytes h n is at plain)) back)

named_back : HeadIsRead → (w : Wish) (known : Option Outline) (file : List ℕ) (r : Run) → IsReady (writing file w) → (name : List ℕ) → w.schema ≡ schema.Id name → name ≢ [] → IsBody (written_job w known r) (events_of r.events) (written_end w r) → IsWhole (basis_named w known name) (stream_of w r) (events_of r.events) (written_end w r)
unfolding stream_header
named_back law w known file r ready name is some back =
    let all = head_bits w ++ r.bits in
    let front : bits (stream_of w r) ≡ head_bits w ++ (r.bits ++ zeros (to_byte (length all))) = stream_bits all ∙ append_assoc (head_bits w) r.bits (zeros (to_byte (length all))) in
    let k = law (head_options w) w.options w.told w.cookie (stream_of w r) (r.bits ++ zeros (to_byte (length all))) ready.1 ready.0 (octets_fit (octets (length all)) (padded all)) front in
    let read : header_by (basis_named w known name) (stream_of w r) ≡ known_by (Some (encode_utf8_all name)) (Ok k.0) = ap (known_by (Some (encode_utf8_all name))) k.1 in
    subst (λ (x : Result Header Fault). IsWholeFrom (basis_named w known name) (stream_of w r) x (events_of r.events) (written_end w r)) (sym read)
    (named_whole w known name (stream_of w r) k.0 (length (head_bits w)) (events_of r.events) (written_end w r) (not_empty name some) ready.2 (head_is w name w.told is k.0.options k.2.options) k.2.body back)

head_back : HeadIsRead → (w : Wish) (file : List ℕ) (r : Run) → IsReady (writing file w) → IsHeadBack w (stream_of w r)
head_back law w file r ready =
    let all = head_bits w ++ r.bits in
    let front : bits (stream_of w r) ≡ head_bits w ++ (r.bits ++ zeros (to_byte (length all))) = stream_bits all ∙ append_assoc (head_bits w) r.bits (zeros (to_byte (length all))) in
    law (head_options w) w.options w.told w.cookie (stream_of w r) (r.bits ++ zeros (to_byte (length all))) ready.1 ready.0 (octets_fit (octets (length all)) (padded all)) front

text_run : (w : Wish) (known : Option Outline) (text : List ℕ) (r : Run) → written_for w known text ≡ Ok r → (es : List Happening) → events_in text ≡ Ok es → run_for w known es ≡ Ok r
unfolding written_for
text_run w known text r h es is = run_of (run_for w known es) r (sym (ap (body_by w known) is) ∙ h)

same_events : ListIsSame → (w : Wish) (known : Option Outline) (text : List ℕ) (r : Run) → written_for w known text ≡ Ok r → (es : List Happening) → events_in text ≡ Ok es → AreSame (setting_for w known) (written_from w known) (pruned_list w.options es) (events_of r.events)
same_events law w known text r h es is = law (setting_for w known) (length (head_bits w)) stream_bounds es r (text_run w known text r h es is)

same_texts : ListIsSameText → (w : Wish) (known : Option Outline) (text : List ℕ) (r : Run) → conflicts w.options ≡ false → written_for w known text ≡ Ok r → known ≡ None → (es : List Happening) → events_in text ≡ Ok es → AreSameText (pruned_list w.options es) (events_of r.events)
same_texts law w None text r free h none es is = law (setting_of w.options) (length (head_bits w)) stream_bounds es r (plain_of w.options free) (text_run w None text r h es is)
same_texts law w (Some schema) text r free h none es is = absurd cc

pub written_read : ListIsRead → ListIsSame → ListIsSameText → IsSchema without_schema → HeadIsRead → CookieIsAsked → WrittenIsRead
written_read list same texts plain head marked w name text known ready sound r h =
    let back = body_back list w known r (grammars_of plain known sound) ready.0 (body_run w known text r h) in
    record { head = head_back head w name r ready; marked = marked (head_options w) w.told w.cookie; body = back; whole = λ none other. whole_back head w known name r ready none other back; named = λ outline own by is some. named_back head w known name r ready own is some back; same = same_events same w known text r h; texts = same_texts texts w known text r ready.0 h }

-- ---- of the words
text_back : WrittenIsRead → (w : Wish) (name : List ℕ) (known : Option Outline) (file : Option (List ℕ)) → IsReady (writing name w) → IsSound known → IfSome file (λ text. ReadsBack w known text)
text_back law w name known None ready sound = tt
text_back law w name known (Some text) ready sound = law w name text known ready sound

-- by a document, where its schema's grammars fit together
abbrev IfSchema : Wish → Status → List ℕ → List ℕ → Type 0
IfSchema w s document text = s ≡ status.Ok → (k : Known) → IsDocument document (Ok k) → ReadsBack w (Some k.schema) text

input_back : WrittenIsRead → (w : Wish) (name : List ℕ) (s : Status) (document : List ℕ) (file : Option (List ℕ)) → IsReady (writing name w) → (s ≡ status.Ok → Stands document) → IfSome file (IfSchema w s document)
input_back law w name s document None ready stands = tt
input_back law w name s document (Some text) ready stands = λ ok k is. law w name text (Some k.schema) ready (stands ok k is)

document_back : WrittenIsRead → (w : Wish) (name : List ℕ) (s : Status) (file input : Option (List ℕ)) → IsReady (writing name w) → (s ≡ status.Ok → IfSome file Stands) → IfSome file (λ document. IfSome input (IfSchema w s document))
document_back law w name s None input ready stands = tt
document_back law w name s (Some document) input ready stands = input_back law w name s document input ready stands

files_back : WrittenIsRead → (w : Wish) (name : List ℕ) (d : Option (List ℕ)) (held : Files) (s : Status) → IsReady (writing name w) → (s ≡ status.Ok → OfFile d (Some held) Stands) → OfBoth d name (Some held) (λ document text. IsBack w s document text)
files_back law w name None held s ready stands = text_back law w name None (file_at held name) ready tt
files_back law w name (Some schema) held s ready stands = document_back law w name s (file_at held schema) (file_at held name) ready stands

no_files_back : (d : Option (List ℕ)) (name : List ℕ) (P : Option (List ℕ) → List ℕ → Type 0) → OfBoth d name None P
no_files_back None name P = tt
no_files_back (Some schema) name P = tt

pub reads_back : WrittenIsRead → (t : Option Task) (files : Option Files) (s : Status) → IsReadyIf t → (s ≡ status.Ok → StandsFor t files) → OfWriting t files (λ w document text. IsBack w s document text)
reads_back law None files s ready stands = tt
reads_back law (Some (stream f name o)) files s ready stands = tt
reads_back law (Some (counting name)) files s ready stands = tt
reads_back law (Some (writing name w)) None s ready stands = no_files_back w.document name (λ document text. IsBack w s document text)
reads_back law (Some (writing name w)) (Some held) s ready stands = files_back law w name w.document held s ready (λ ok. stands ok tt)

pub ready_of : (o : Option Command) (t : Option Task) → tasked o ≡ t → IfSome o (λ c. IsReady (task c)) → IsReadyIf t
ready_of None t is ready = subst IsReadyIf is tt
ready_of (Some c) t is ready = subst IsReadyIf is ready
