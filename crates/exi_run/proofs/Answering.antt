-- What the status says, in parts.
use Rattle.std.proofs.Common.{◌≡◌, ◌≢◌, ◌≤◌, ◌⊎◌, ℕ, List, [], ◌∷◌, ◌++◌, Option, Some, None, Result, Ok, Err, inl, inr, length, take, drop, refl, sym, ap, ◌∙◌, subst, arith}
use Rattle.std.specs.Prelude.{IfSome}
use Rattle.std.proofs.lemmas.List.{append-nil, take-append-drop}
use Rattle.exi_names.specs.Events.{Grows}
use Rattle.exi_gram.specs.Outlines.{Outline}
use Rattle.xsd_file.specs.Bases.{Basis}
use Rattle.exi_ports.specs.Ports.{Fetched, IsAnswer, GrowsInPart, file_at}
use Rattle.exi_ports.specs.declared.shelf.Fetch.TheVariants as fetch
use Rattle.exi_run.specs.declared.halt.Halt.TheVariants as halt
use Rattle.exi_run.specs.declared.halt.Refusal.{Refusal}
use Rattle.exi_run.specs.declared.halt.Refusal.TheVariants as refusal
use Rattle.exi_run.specs.declared.halt.Role.{Role}
use Rattle.exi_run.specs.declared.halt.Role.TheVariants as role
use Rattle.exi_run.specs.declared.ending.Ending.{Ending}
use Rattle.exi_run.specs.declared.ending.Ending.TheVariants as ending
use Rattle.exi_run.specs.declared.form.Form.{Form}
use Rattle.exi_run.specs.declared.status.Status.{Status}
use Rattle.exi_run.specs.declared.status.Status.TheVariants as status
use Rattle.exi_run.specs.Answers.{Answered, AnsweredBy, AreWithin, Counts, Ends, GrowsByLines, HasDocument, HasLong, HasRole, IsAnswered, IsBasis, IsCounting, IsGiven, IsKnown, IsLater, IsLong, IsWithin, IsWriting, MayRefuse, OfBoth, OfDocument, OfFile, OfStream, OfWriting, RefusalPut, RefusesDocument, Served, Starves, StarvesOnly, Tells, Writes, WritesNone, no_memory}
use Rattle.exi_run.specs.Dues.{Due, all_pieces, basis_by, count_lines, document_due, Files, found, long, failed, Owed, OwedBy, OwedFrom, OwedInformed, OwedOf, OwedOfDocument, OwedOfFiles, OwedOfStream, OwedOfText, most_bytes, refusal_due, text_due, text_of}
use Rattle.exi_run.specs.Endings.{status_of}
use Rattle.exi_run.specs.Printing.{grows_more, grows_none}
use Rattle.exi_run.specs.Refusals.{refusal_line, refusal_status, schema_line, unwritten_line}
use Rattle.exi_run.specs.Statuses.{Sort, told, refuses, breaks, starved, sort_of, IsOr, IsTold}
use Rattle.exi_run.specs.Tasks.{Task, Terms, stream, writing, counting, Need, document_of, needs, needs_of, with_document}
use Rattle.exi_run.specs.Wishes.{Wish, stream_of, written_for}
use Rattle.exi_run.specs.declared.unwritten.Unwritten.{Unwritten}
use Rattle.exi_writing.specs.Runs.{Run}
use Rattle.xsd_file.specs.Documents.{IsDocument}
use Rattle.xsd_file.specs.declared.refusal.SchemaRefusal.{SchemaRefusal}
use Rattle.xsd_file.specs.Words.{Known}
use Rattle.exi_run.proofs.Owing.{text-whole, told-said}

-- ---- what may be owed: a refusal's line, or what a command owes whose files were found
abbrev pub AreFound : Option Files → List Need → List (List ℕ) → Type 0
AreFound files [] [] = Unit {0}
AreFound files [] (b ∷ bs) = ⊥
AreFound files (n ∷ ns) [] = ⊥
AreFound files (n ∷ ns) (b ∷ bs) = Fetched files n.name most_bytes (fetch.Bytes b) × AreFound files ns bs

abbrev OneLong : Option Files → List Need → Role → Type 0
OneLong files [] role = ⊥
OneLong files (n ∷ ns) role = ((role ≡ n.role) × Fetched files n.name most_bytes fetch.TooLong) ⊎ OneLong files ns role

-- an event text that was found, with a schema document that is not refused where one is given, and is not written
abbrev IsUnwritten : Wish → Option (List ℕ) → List (List ℕ) → Unwritten → Type 0
IsUnwritten w None [] why = ⊥
IsUnwritten w None (text ∷ others) why = written_for w None text ≡ Err why
IsUnwritten w (Some name) [] why = ⊥
IsUnwritten w (Some name) (document ∷ []) why = ⊥
IsUnwritten w (Some name) (document ∷ text ∷ others) why = (k : Known) × IsDocument document (Ok k) × (written_for w (Some k.schema) text ≡ Err why)

abbrev TextCause : Option Task → Option Files → Unwritten → Type 0
TextCause None files why = ⊥
TextCause (Some (stream f file o)) files why = ⊥
TextCause (Some (writing file w)) files why = (all : List (List ℕ)) × AreFound files (needs (writing file w)) all × IsUnwritten w w.document all why
TextCause (Some (counting file)) files why = ⊥

-- a schema document that was found with all the files, and is refused
abbrev CauseIn : Option (List ℕ) → List Need → Option Files → SchemaRefusal → Type 0
CauseIn None ns files why = ⊥
CauseIn (Some name) ns files why = (bytes : List ℕ) × (all : List (List ℕ)) × AreFound files ns all × Fetched files name most_bytes (fetch.Bytes bytes) × IsDocument bytes (Err why)

abbrev DocumentCause : Option Task → Option Files → SchemaRefusal → Type 0
DocumentCause t files why = CauseIn (document_of t) (needs_of t) files why

abbrev Causes : Option Task → Option Files → Refusal → Type 0
Causes t files refusal.Usage = t ≡ None
Causes t files refusal.ReadFailed = t ≢ None
Causes t files (refusal.TooLong role) = OneLong files (needs_of t) role
Causes t files (refusal.Events why) = TextCause t files why
Causes t files (refusal.Schema why) = DocumentCause t files why

-- of the files
abbrev FileCauses : Option Files → List Need → Refusal → Type 0
FileCauses files ns refusal.Usage = ⊥
FileCauses files ns refusal.ReadFailed = Unit {0}
FileCauses files ns (refusal.TooLong role) = OneLong files ns role
FileCauses files ns (refusal.Events why) = ⊥
FileCauses files ns (refusal.Schema why) = ⊥

abbrev IsRefused : Option Files → List Need → Due → Type 0
IsRefused files ns due = (r : Refusal) × (due ≡ refusal_due r) × FileCauses files ns r

abbrev pub AreDone : Option Files → List Need → (List (List ℕ) → Type 0) → Type 0
AreDone files ns rest = (bs : List (List ℕ)) × AreFound files ns bs × rest bs

cause_more : (files : Option Files) (n : Need) (ns : List Need) (r : Refusal) → FileCauses files ns r → FileCauses files (n ∷ ns) r
cause_more files n ns refusal.Usage c = absurd c
cause_more files n ns refusal.ReadFailed c = tt
cause_more files n ns (refusal.TooLong role) c = inr c
cause_more files n ns (refusal.Events why) c = absurd c
cause_more files n ns (refusal.Schema why) c = absurd c

one_more : (files : Option Files) (n : Need) (ns : List Need) (rest : List (List ℕ) → Type 0) (due : Due) (b : List ℕ) → Fetched files n.name most_bytes (fetch.Bytes b) → AreDone files ns (λ bs. rest (b ∷ bs)) ⊎ IsRefused files ns due → AreDone files (n ∷ ns) rest ⊎ IsRefused files (n ∷ ns) due
one_more files n ns rest due b had (inl done) = inl (b ∷ done.0, (had, done.1), done.2)
one_more files n ns rest due b had (inr lost) = inr (lost.0, lost.1, cause_more files n ns lost.0 lost.2)

by_files : (files : Option Files) (rose : Type 0) (ns : List Need) (rest : List (List ℕ) → Type 0) (due : Due) → OwedFrom files rose ns rest due → AreDone files ns rest ⊎ IsRefused files ns due
by_files files rose [] rest due o = inl ([], tt, o)
by_files files rose (n ∷ ns) rest due (found b, had, o) = one_more files n ns rest due b had (by_files files rose ns (λ bs. rest (b ∷ bs)) due o)
by_files files rose (n ∷ ns) rest due (long, had, is) = inr (refusal.TooLong n.role, is, inl (refl, had))
by_files files rose (n ∷ ns) rest due (failed, had, is) = inr (refusal.ReadFailed, is, tt)

-- ---- what came of it
abbrev IsDone : Option Task → Option Files → Due → Type 0
IsDone None files due = ⊥
IsDone (Some t) files due = AreDone files (needs t) (OwedBy t due)

abbrev pub IsPut : Status → Due → Option (List ℕ) → Option (List ℕ) → Type 0
IsPut s due old new = (due.status ≡ s) × Grows old (text_of (all_pieces due)) new

abbrev CameDone : Option Task → Option Files → Status → Option (List ℕ) → Option (List ℕ) → Type 0
CameDone t files s old new = (due : Due) × IsDone t files due × IsPut s due old new × IsTold s

abbrev CameRefused : Option Task → Option Files → Status → Option (List ℕ) → Option (List ℕ) → Type 0
CameRefused t files s old new = (r : Refusal) × Causes t files r × (s ≡ refusal_status r) × Grows old (refusal_line r) new

abbrev Came : Option Task → Option Files → Status → Option (List ℕ) → Option (List ℕ) → Type 0
Came t files s old new = CameDone t files s old new ⊎ (CameRefused t files s old new ⊎ ((s ≡ status.WriteFault) ⊎ (s ≡ status.NoMemory)))

pub put_or : (s : Status) (due : Due) (old new : Option (List ℕ)) → Answered due s old new → IsPut s due old new ⊎ ((s ≡ status.WriteFault) ⊎ (s ≡ status.NoMemory))
put_or status.Ok due old new a = inl a
put_or status.Fault due old new a = inl a
put_or status.Usage due old new a = inl a
put_or status.Schema due old new a = inl a
put_or status.ReadFault due old new a = inl a
put_or status.WriteFault due old new a = inr (inl refl)
put_or status.NoMemory due old new a = inr (inr refl)
put_or status.Events due old new a = inl a
put_or status.Hints due old new a = inl a
put_or status.TooLong due old new a = inl a

told_end : (e : Ending) → IsTold (status_of e)
told_end (ending.Done bit) = refl
told_end (ending.Fault f) = refl

-- why the command is refused by what its files say: the first of them, where it is a schema document
abbrev WhyDocument : Option (List ℕ) → List (List ℕ) → Refusal → Type 0
WhyDocument None bs why = ⊥
WhyDocument (Some name) [] why = ⊥
WhyDocument (Some name) (bytes ∷ bs) why = (none : SchemaRefusal) × (why ≡ refusal.Schema none) × IsDocument bytes (Err none)

abbrev WhyWriting : Wish → Option (List ℕ) → List (List ℕ) → Refusal → Type 0
WhyWriting w d bs why = WhyDocument d bs why ⊎ ((none : Unwritten) × (why ≡ refusal.Events none) × IsUnwritten w d bs none)

abbrev WhyOf : Task → List (List ℕ) → Refusal → Type 0
WhyOf (stream f file o) bs why = WhyDocument o.document bs why
WhyOf (writing file w) bs why = WhyWriting w w.document bs why
WhyOf (counting file) bs why = WhyDocument (Some file) bs why

abbrev WasRefused : Task → Due → List (List ℕ) → Type 0
WasRefused t due bs = (why : Refusal) × (due ≡ refusal_due why) × WhyOf t bs why

document_told : (file bytes : List ℕ) (others : List (List ℕ)) (due : Due) (o : Result Known SchemaRefusal) → IsDocument bytes o → due ≡ document_due o → IsTold due.status ⊎ WasRefused (counting file) due (bytes ∷ others)
document_told file bytes others due (Ok k) is e = inl (subst (λ (x : Due). IsTold x.status) (sym e) refl)
document_told file bytes others due (Err why) is e = inr (refusal.Schema why, e, (why, refl, is))

-- a stream that is written, by the schema that is known, if there is one
abbrev TextWas : Wish → Option (List ℕ) → Due → List (List ℕ) → Type 0
TextWas w d due bs = IsTold due.status ⊎ ((why : Refusal) × (due ≡ refusal_due why) × WhyWriting w d bs why)

text_told : (w : Wish) (d : Option (List ℕ)) (bs : List (List ℕ)) (known : Option Outline) (text : List ℕ) (due : Due) (o : Result Run Unwritten) → written_for w known text ≡ o → due ≡ text_due w o → ((why : Unwritten) → written_for w known text ≡ Err why → IsUnwritten w d bs why) → TextWas w d due bs
text_told w d bs known text due (Ok r) is owed unwritten = inl (subst (λ (x : Due). IsTold x.status) (sym owed) refl)
text_told w d bs known text due (Err why) is owed unwritten = inr (refusal.Events why, owed, inr (why, refl, unwritten why is))

both_written : (w : Wish) (name document text : List ℕ) (others : List (List ℕ)) (due : Due) (answer : Result Known SchemaRefusal) → IsDocument document answer → OwedInformed (OwedOfText w) answer text due → TextWas w (Some name) due (document ∷ text ∷ others)
both_written w name document text others due (Ok k) is owed = text_told w (Some name) (document ∷ text ∷ others) (Some k.schema) text due (written_for w (Some k.schema) text) refl owed (λ why e. (k, is, e))
both_written w name document text others due (Err why) is owed = inr (refusal.Schema why, owed, inl (why, refl, is))

all_written : (w : Wish) (d : Option (List ℕ)) (due : Due) (bs : List (List ℕ)) → OwedOfFiles (OwedOfText w) d bs due → TextWas w d due bs
all_written w None due [] owed = absurd owed
all_written w None due (text ∷ bs) owed = text_told w None (text ∷ bs) None text due (written_for w None text) refl owed (λ why e. e)
all_written w (Some name) due [] owed = absurd owed
all_written w (Some name) due (document ∷ []) owed = absurd owed
all_written w (Some name) due (document ∷ text ∷ bs) (answer, is, owed) = both_written w name document text bs due answer is owed

-- one that is told
abbrev StreamWas : Option (List ℕ) → Due → List (List ℕ) → Type 0
StreamWas d due bs = IsTold due.status ⊎ ((why : Refusal) × (due ≡ refusal_due why) × WhyDocument d bs why)

whole_told : (f : Form) (basis : Basis) (bytes : List ℕ) (due : Due) → OwedOf f basis bytes due → IsTold due.status
whole_told f basis bytes due (es, e, w, is) = subst (λ (d : Due). IsTold d.status) (sym is) (told_end e)

both_told : (f : Form) (o : Terms) (name document bytes : List ℕ) (others : List (List ℕ)) (due : Due) (found : Result Known SchemaRefusal) → IsDocument document found → OwedInformed (OwedOfStream f o) found bytes due → StreamWas (Some name) due (document ∷ others)
both_told f o name document bytes others due (Ok k) is owed = inl (whole_told f (basis_by o (Some k.schema)) bytes due owed)
both_told f o name document bytes others due (Err why) is owed = inr (refusal.Schema why, owed, (why, refl, is))

stream_told : (f : Form) (o : Terms) (d : Option (List ℕ)) (due : Due) (bs : List (List ℕ)) → OwedOfFiles (OwedOfStream f o) d bs due → StreamWas d due bs
stream_told f o None due [] owed = absurd owed
stream_told f o None due (b ∷ bs) owed = inl (whole_told f (basis_by o None) b due owed)
stream_told f o (Some name) due [] owed = absurd owed
stream_told f o (Some name) due (document ∷ []) owed = absurd owed
stream_told f o (Some name) due (document ∷ b ∷ bs) (answer, is, owed) = both_told f o name document b (b ∷ bs) due answer is owed

done_told : (t : Task) (due : Due) (bs : List (List ℕ)) → OwedBy t due bs → IsTold due.status ⊎ WasRefused t due bs
done_told (stream f file o) due bs owed = stream_told f o o.document due bs owed
done_told (writing file w) due bs owed = all_written w w.document due bs owed
done_told (counting file) due [] owed = absurd owed
done_told (counting file) due (bytes ∷ bs) (answer, is, e) = document_told file bytes bs due answer is e

refused_put : (s : Status) (old new : Option (List ℕ)) (due : Due) (r : Refusal) → due ≡ refusal_due r → IsPut s due old new → (s ≡ refusal_status r) × Grows old (refusal_line r) new
refused_put s old new due r is p =
    (sym p.0 ∙ ap (λ (d : Due). d.status) is, subst (λ (t : List ℕ). Grows old t new) (ap (λ (d : Due). text_of (all_pieces d)) is ∙ append-nil (refusal_line r)) p.1)

-- with the document in front
document_cause : (d : Option (List ℕ)) (others : List Need) (files : Option Files) (bs : List (List ℕ)) (why : Refusal) → AreFound files (with_document d others) bs → WhyDocument d bs why → (none : SchemaRefusal) × (why ≡ refusal.Schema none) × CauseIn d (with_document d others) files none
document_cause None others files bs why are w = absurd w
document_cause (Some name) others files [] why are w = absurd w
document_cause (Some name) others files (bytes ∷ bs) why are (none, is, e) = (none, is, (bytes, bytes ∷ bs, are, are.0, e))

document_causes : (t : Task) (files : Option Files) (why : Refusal) → ((none : SchemaRefusal) × (why ≡ refusal.Schema none) × DocumentCause (Some t) files none) → Causes (Some t) files why
document_causes t files why (none, is, c) = subst (λ (r : Refusal). Causes (Some t) files r) (sym is) c

cause_of : (t : Task) (files : Option Files) (bs : List (List ℕ)) (why : Refusal) → AreFound files (needs t) bs → WhyOf t bs why → Causes (Some t) files why
cause_of (stream f file o) files bs why are w = document_causes (stream f file o) files why (document_cause o.document (record { name = file; role = role.Input } ∷ []) files bs why are w)
cause_of (writing file w) files bs why are (inl h) = document_causes (writing file w) files why (document_cause w.document (record { name = file; role = role.Input } ∷ []) files bs why are h)
cause_of (writing file w) files bs why are (inr (none, is, e)) = subst (λ (r : Refusal). Causes (Some (writing file w)) files r) (sym is) (bs, are, e)
cause_of (counting file) files bs why are w = document_causes (counting file) files why (document_cause (Some file) [] files bs why are w)

came_done : (t : Task) (files : Option Files) (s : Status) (old new : Option (List ℕ)) (due : Due) → (done : AreDone files (needs t) (OwedBy t due)) → IsPut s due old new → IsTold due.status ⊎ WasRefused t due done.0 → Came (Some t) files s old new
came_done t files s old new due done p (inl h) = inl (due, done, p, subst IsTold p.0 h)
came_done t files s old new due done p (inr (why, d, is)) =
    let put = refused_put s old new due why d p in
    inr (inl (why, cause_of t files done.0 why done.1 is, put.0, put.1))

of_file_cause : (t : Task) (files : Option Files) (r : Refusal) → FileCauses files (needs t) r → Causes (Some t) files r
of_file_cause t files refusal.Usage c = absurd c
of_file_cause t files refusal.ReadFailed c = λ h. cc
of_file_cause t files (refusal.TooLong role) c = c
of_file_cause t files (refusal.Events why) c = absurd c
of_file_cause t files (refusal.Schema why) c = absurd c

came_by : (t : Task) (files : Option Files) (s : Status) (old new : Option (List ℕ)) (due : Due) → (AreDone files (needs t) (OwedBy t due) ⊎ IsRefused files (needs t) due) → (IsPut s due old new ⊎ ((s ≡ status.WriteFault) ⊎ (s ≡ status.NoMemory))) → Came (Some t) files s old new
came_by t files s old new due o (inr early) = inr (inr early)
came_by t files s old new due (inl done) (inl p) = came_done t files s old new due done p (done_told t due done.0 done.2)
came_by t files s old new due (inr lost) (inl p) = let put = refused_put s old new due lost.0 lost.1 p in inr (inl (lost.0, of_file_cause t files lost.0 lost.2, put.0, put.1))

came_usage : (files : Option Files) (s : Status) (old new : Option (List ℕ)) (due : Due) → due ≡ refusal_due refusal.Usage → (IsPut s due old new ⊎ ((s ≡ status.WriteFault) ⊎ (s ≡ status.NoMemory))) → Came None files s old new
came_usage files s old new due is (inr early) = inr (inr early)
came_usage files s old new due is (inl p) = let put = refused_put s old new due refusal.Usage is p in inr (inl (refusal.Usage, refl, put.0, put.1))

pub came : (t : Option Task) (files : Option Files) (rose : Type 0) (s : Status) (old new : Option (List ℕ)) → IsAnswered t files rose s old new → Came t files s old new
came None files rose s old new (due, owed, a) = came_usage files s old new due owed (put_or s due old new a)
came (Some t) files rose s old new (due, owed, a) = came_by t files s old new due (by_files files rose (needs t) (OwedBy t due) due owed) (put_or s due old new a)

-- ---- the clauses
-- of a file that was found
of_found : (P : List ℕ → Type 0) (file : Option (List ℕ)) (b : List ℕ) → file ≡ Some b → P b → IfSome file P
of_found P None b is p = tt
of_found P (Some x) b is p = let same : b ≡ x = cc in subst P same p

-- of one for which there is nothing to say
of_any : (P : List ℕ → Type 0) (file : Option (List ℕ)) → ((b : List ℕ) → P b) → IfSome file P
of_any P None all = tt
of_any P (Some b) all = all b

abbrev IfTold : Form → Terms → Status → Option (List ℕ) → Option (List ℕ) → Option (List ℕ) → List ℕ → Type 0
IfTold f o s old new document bytes = IsTold s → Tells f o s old new document bytes

-- what was put is what the form tells
tells_whole : (f : Form) (o : Terms) (document : Option (List ℕ)) (basis : Basis) (bytes : List ℕ) (due : Due) (s : Status) (old new : Option (List ℕ)) → IsBasis o document basis → OwedOf f basis bytes due → IsPut s due old new → IfTold f o s old new document bytes
tells_whole f o document basis bytes due s old new by (es, e, w, d) p =
    λ _. (basis, by, (es, e, w, sym p.0 ∙ ap (λ (x : Due). x.status) d, subst (λ (t : List ℕ). Grows old t new) (ap (λ (x : Due). text_of (all_pieces x)) d ∙ text-whole f es e ∙ told-said f es e) p.1))

schema_untold : (why : SchemaRefusal) (due : Due) (s : Status) → due ≡ refusal_due (refusal.Schema why) → due.status ≡ s → IsTold s → ⊥
schema_untold why due s d is h = let x : refuses ≡ told = ap sort_of (sym (ap (λ (x : Due). x.status) d) ∙ is) ∙ h in absurd cc

tells_informed : (f : Form) (o : Terms) (document bytes : List ℕ) (due : Due) (s : Status) (old new : Option (List ℕ)) (found : Result Known SchemaRefusal) → IsDocument document found → OwedInformed (OwedOfStream f o) found bytes due → IsPut s due old new → IfTold f o s old new (Some document) bytes
tells_informed f o document bytes due s old new (Ok k) is owed p = tells_whole f o (Some document) (basis_by o (Some k.schema)) bytes due s old new (Some k.schema, (k, is, refl), refl) owed p
tells_informed f o document bytes due s old new (Err why) is owed p = λ h. absurd (schema_untold why due s owed p.0 h)

tells_done : (f : Form) (o : Terms) (d : Option (List ℕ)) (name : List ℕ) (held : Files) (s : Status) (old new : Option (List ℕ)) (due : Due) (bs : List (List ℕ)) → AreFound (Some held) (with_document d (record { name = name; role = role.Input } ∷ [])) bs → OwedOfFiles (OwedOfStream f o) d bs due → IsPut s due old new → OfBoth d name (Some held) (IfTold f o s old new)
tells_done f o None name held s old new due [] are owed p = absurd are
tells_done f o None name held s old new due (b ∷ bs) are owed p = of_found (IfTold f o s old new None) (file_at held name) b are.0.0 (tells_whole f o None (basis_by o None) b due s old new (None, refl, refl) owed p)
tells_done f o (Some schema) name held s old new due [] are owed p = absurd are
tells_done f o (Some schema) name held s old new due (document ∷ []) are owed p = absurd owed
tells_done f o (Some schema) name held s old new due (document ∷ b ∷ bs) are (answer, is, owed) p =
    of_found (λ x. IfSome (file_at held name) (IfTold f o s old new (Some x))) (file_at held schema) document are.0.0
    (of_found (IfTold f o s old new (Some document)) (file_at held name) b are.1.0.0 (tells_informed f o document b due s old new answer is owed p))

not_told : (f : Form) (o : Terms) (d : Option (List ℕ)) (name : List ℕ) (held : Files) (s : Status) (old new : Option (List ℕ)) → (IsTold s → ⊥) → OfBoth d name (Some held) (IfTold f o s old new)
not_told f o None name held s old new never = of_any (IfTold f o s old new None) (file_at held name) (λ b h. absurd (never h))
not_told f o (Some schema) name held s old new never = of_any (λ x. IfSome (file_at held name) (IfTold f o s old new (Some x))) (file_at held schema) (λ x. of_any (IfTold f o s old new (Some x)) (file_at held name) (λ b h. absurd (never h)))

refusal_untold : (r : Refusal) (s : Status) → s ≡ refusal_status r → IsTold s → ⊥
refusal_untold refusal.Usage s is h = let x : refuses ≡ told = ap sort_of (sym is) ∙ h in absurd cc
refusal_untold refusal.ReadFailed s is h = let x : refuses ≡ told = ap sort_of (sym is) ∙ h in absurd cc
refusal_untold (refusal.TooLong role) s is h = let x : refuses ≡ told = ap sort_of (sym is) ∙ h in absurd cc
refusal_untold (refusal.Events why) s is h = let x : refuses ≡ told = ap sort_of (sym is) ∙ h in absurd cc
refusal_untold (refusal.Schema why) s is h = let x : refuses ≡ told = ap sort_of (sym is) ∙ h in absurd cc

early_untold : (s : Status) → ((s ≡ status.WriteFault) ⊎ (s ≡ status.NoMemory)) → IsTold s → ⊥
early_untold s (inl is) h = let x : breaks ≡ told = ap sort_of (sym is) ∙ h in absurd cc
early_untold s (inr is) h = let x : starved ≡ told = ap sort_of (sym is) ∙ h in absurd cc

tells_by : (f : Form) (o : Terms) (name : List ℕ) (held : Files) (s : Status) (old new : Option (List ℕ)) → Came (Some (stream f name o)) (Some held) s old new → OfBoth o.document name (Some held) (IfTold f o s old new)
tells_by f o name held s old new (inl (due, (bs, are, owed), p, h)) = tells_done f o o.document name held s old new due bs are owed p
tells_by f o name held s old new (inr (inl lost)) = not_told f o o.document name held s old new (refusal_untold lost.0 s lost.2)
tells_by f o name held s old new (inr (inr early)) = not_told f o o.document name held s old new (early_untold s early)

-- where the files are not told there is nothing to say
untold_files : (d : Option (List ℕ)) (name : List ℕ) (P : Option (List ℕ) → List ℕ → Type 0) → OfBoth d name None P
untold_files None name P = tt
untold_files (Some schema) name P = tt

abbrev TellsStream : Form → Option Task → Option Files → Status → Option (List ℕ) → Option (List ℕ) → Type 0
TellsStream f t files s old new = OfStream f t files (λ o document bytes. IsTold s → Tells f o s old new document bytes)

pub tells : (f : Form) (t : Option Task) (files : Option Files) (rose : Type 0) (s : Status) (old new : Option (List ℕ)) → IsAnswered t files rose s old new → TellsStream f t files s old new
tells f None files rose s old new a = tt
tells f (Some (writing name w)) files rose s old new a = tt
tells f (Some (counting name)) files rose s old new a = tt
tells f (Some (stream g name o)) None rose s old new a = λ is. untold_files o.document name (IfTold f o s old new)
tells f (Some (stream g name o)) (Some held) rose s old new a =
    λ is. subst (λ (h : Form). OfBoth o.document name (Some held) (IfTold h o s old new)) (sym is) (tells_by g o name held s old new (came (Some (stream g name o)) (Some held) rose s old new a))

-- that there is no command
refused_by : (files : Option Files) (s : Status) (old new : Option (List ℕ)) → Came None files s old new → IsOr status.Usage s
refused_by files s old new (inl done) = absurd done.1
refused_by files s old new (inr (inl (refusal.Usage, c, is, g))) = inl is
refused_by files s old new (inr (inl (refusal.ReadFailed, c, is, g))) = absurd (c refl)
refused_by files s old new (inr (inl (refusal.TooLong role, c, is, g))) = absurd c
refused_by files s old new (inr (inl (refusal.Events why, c, is, g))) = absurd c
refused_by files s old new (inr (inl (refusal.Schema why, c, is, g))) = absurd c
refused_by files s old new (inr (inr early)) = inr early

pub refused : (t : Option Task) (files : Option Files) (rose : Type 0) (s : Status) (old new : Option (List ℕ)) → IsAnswered t files rose s old new → t ≡ None → IsOr status.Usage s
refused None files rose s old new a none = refused_by files s old new (came None files rose s old new a)
refused (Some t) files rose s old new a none = absurd cc

-- ---- the causes of refusals
-- a status that refuses has its refusal
refusal_of : (t : Option Task) (files : Option Files) (s : Status) (old new : Option (List ℕ)) → Came t files s old new → sort_of s ≡ refuses → CameRefused t files s old new
refusal_of t files s old new (inl done) is = let x : told ≡ refuses = sym done.3 ∙ is in absurd cc
refusal_of t files s old new (inr (inl lost)) is = lost
refusal_of t files s old new (inr (inr (inl w))) is = let x : breaks ≡ refuses = ap sort_of (sym w) ∙ is in absurd cc
refusal_of t files s old new (inr (inr (inr m))) is = let x : starved ≡ refuses = ap sort_of (sym m) ∙ is in absurd cc

usage_by : (t : Option Task) (files : Option Files) (s : Status) (old new : Option (List ℕ)) → CameRefused t files s old new → s ≡ status.Usage → t ≡ None
usage_by t files s old new (refusal.Usage, c, is, g) st = c
usage_by t files s old new (refusal.ReadFailed, c, is, g) st = let x : status.ReadFault ≡ status.Usage = sym is ∙ st in absurd cc
usage_by t files s old new (refusal.TooLong role, c, is, g) st = let x : status.TooLong ≡ status.Usage = sym is ∙ st in absurd cc
usage_by t files s old new (refusal.Events why, c, is, g) st = let x : status.Events ≡ status.Usage = sym is ∙ st in absurd cc
usage_by t files s old new (refusal.Schema why, c, is, g) st = let x : status.Schema ≡ status.Usage = sym is ∙ st in absurd cc

pub usage_is : (t : Option Task) (files : Option Files) (rose : Type 0) (s : Status) (old new : Option (List ℕ)) → IsAnswered t files rose s old new → s ≡ status.Usage → t ≡ None
usage_is t files rose s old new a st = usage_by t files s old new (refusal_of t files s old new (came t files rose s old new a) (ap sort_of st)) st

-- ---- files that are too long
long_one : (held : Files) (name : List ℕ) (file : Option (List ℕ)) → file_at held name ≡ file → IsAnswer file most_bytes fetch.TooLong → IsLong file
long_one held name None is l = l
long_one held name (Some bytes) is l = l

has_long : (held : Files) (ns : List Need) (role : Role) → OneLong (Some held) ns role → HasLong held ns
has_long held [] role l = l
has_long held (n ∷ ns) role (inl l) = inl (long_one held n.name (file_at held n.name) refl l.1)
has_long held (n ∷ ns) role (inr l) = inr (has_long held ns role l)

long_by : (t : Option Task) (held : Files) (s : Status) (old new : Option (List ℕ)) → CameRefused t (Some held) s old new → s ≡ status.TooLong → HasLong held (needs_of t)
long_by t held s old new (refusal.Usage, c, is, g) st = let x : status.Usage ≡ status.TooLong = sym is ∙ st in absurd cc
long_by t held s old new (refusal.ReadFailed, c, is, g) st = let x : status.ReadFault ≡ status.TooLong = sym is ∙ st in absurd cc
long_by t held s old new (refusal.TooLong role, c, is, g) st = has_long held (needs_of t) role c
long_by t held s old new (refusal.Events why, c, is, g) st = let x : status.Events ≡ status.TooLong = sym is ∙ st in absurd cc
long_by t held s old new (refusal.Schema why, c, is, g) st = let x : status.Schema ≡ status.TooLong = sym is ∙ st in absurd cc

pub too_long_is : (t : Option Task) (files : Option Files) (rose : Type 0) (s : Status) (old new : Option (List ℕ)) → IsAnswered t files rose s old new → IfSome files (λ held. s ≡ status.TooLong → HasLong held (needs_of t))
too_long_is t None rose s old new a = tt
too_long_is t (Some held) rose s old new a = λ st. long_by t held s old new (refusal_of t (Some held) s old new (came t (Some held) rose s old new a) (ap sort_of st)) st

found_short : (b : List ℕ) (file : Option (List ℕ)) → IsAnswer file most_bytes (fetch.Bytes b) → IsLong file → ⊥
found_short b None f l = l
found_short b (Some bytes) f l = let is : bytes ≡ b = cc (f.0) in let few : length bytes ≤ most_bytes = subst (λ (x : List ℕ). length x ≤ most_bytes) (sym is) f.1 in omega (arith, few, l)

none_long : (held : Files) (ns : List Need) (bs : List (List ℕ)) → AreFound (Some held) ns bs → HasLong held ns → ⊥
none_long held [] bs f l = l
none_long held (n ∷ ns) [] f l = f
none_long held (n ∷ ns) (b ∷ bs) f (inl l) = found_short b (file_at held n.name) f.0 l
none_long held (n ∷ ns) (b ∷ bs) f (inr l) = none_long held ns bs f.1 l

done_short : (t : Option Task) (held : Files) (due : Due) → IsDone t (Some held) due → HasLong held (needs_of t) → ⊥
done_short None held due d l = d
done_short (Some t) held due d l = none_long held (needs t) d.0 d.1 l

text_short : (t : Option Task) (held : Files) (why : Unwritten) → TextCause t (Some held) why → HasLong held (needs_of t) → ⊥
text_short None held why c l = c
text_short (Some (stream f file o)) held why c l = c
text_short (Some (writing file w)) held why (all, are, is) l = none_long held (needs (writing file w)) all are l
text_short (Some (counting file)) held why c l = c

document_short : (t : Option Task) (held : Files) (why : SchemaRefusal) → DocumentCause t (Some held) why → HasLong held (needs_of t) → ⊥
document_short t held why c l = in_short (document_of t) (needs_of t) held why c l
  where
    in_short : (d : Option (List ℕ)) (ns : List Need) (held : Files) (why : SchemaRefusal) → CauseIn d ns (Some held) why → HasLong held ns → ⊥
    in_short None ns held why c l = c
    in_short (Some name) ns held why (bytes, all, are, had, is) l = none_long held ns all are l

some_long : (t : Option Task) (held : Files) → HasLong held (needs_of t) → t ≡ None → ⊥
some_long None held l is = l
some_long (Some t) held l is = cc

long_or : (t : Option Task) (held : Files) (rose : Type 0) (s : Status) (old new : Option (List ℕ)) → Came t (Some held) s old new → (s ≡ status.ReadFault → rose) → HasLong held (needs_of t) → (rose → ⊥) → IsOr status.TooLong s
long_or t held rose s old new (inl done) fell l still = absurd (done_short t held done.0 done.1 l)
long_or t held rose s old new (inr (inl (refusal.Usage, c, is, g))) fell l still = absurd (some_long t held l c)
long_or t held rose s old new (inr (inl (refusal.ReadFailed, c, is, g))) fell l still = absurd (still (fell is))
long_or t held rose s old new (inr (inl (refusal.TooLong role, c, is, g))) fell l still = inl is
long_or t held rose s old new (inr (inl (refusal.Events why, c, is, g))) fell l still = absurd (text_short t held why c l)
long_or t held rose s old new (inr (inl (refusal.Schema why, c, is, g))) fell l still = absurd (document_short t held why c l)
long_or t held rose s old new (inr (inr early)) fell l still = inr early

pub long_is : (t : Option Task) (files : Option Files) (rose : Type 0) (s : Status) (old new : Option (List ℕ)) → IsAnswered t files rose s old new → (s ≡ status.ReadFault → rose) → IfSome files (λ held. HasLong held (needs_of t) → (rose → ⊥) → IsOr status.TooLong s)
long_is t None rose s old new a fell = tt
long_is t (Some held) rose s old new a fell = λ l still. long_or t held rose s old new (came t (Some held) rose s old new a) fell l still

-- ---- a refusal's line
role_there : (files : Option Files) (ns : List Need) (role : Role) → OneLong files ns role → HasRole ns role
role_there files [] role l = l
role_there files (n ∷ ns) role (inl l) = inl l.0
role_there files (n ∷ ns) role (inr l) = inr (role_there files ns role l)

is_writing : (t : Option Task) (files : Option Files) (why : Unwritten) → TextCause t files why → IsWriting t
is_writing None files why c = c
is_writing (Some (stream f file o)) files why c = c
is_writing (Some (writing file w)) files why c = tt
is_writing (Some (counting file)) files why c = c

is_given : (d : Option (List ℕ)) (ns : List Need) (files : Option Files) (why : SchemaRefusal) → CauseIn d ns files why → IsGiven d
is_given None ns files why c = c
is_given (Some name) ns files why c = tt

has_document : (t : Option Task) (files : Option Files) (why : SchemaRefusal) → DocumentCause t files why → HasDocument t
has_document t files why c = is_given (document_of t) (needs_of t) files why c

may_refuse : (t : Option Task) (files : Option Files) (r : Refusal) → Causes t files r → MayRefuse t r
may_refuse t files refusal.Usage c = c
may_refuse t files refusal.ReadFailed c = c
may_refuse t files (refusal.TooLong role) c = role_there files (needs_of t) role c
may_refuse t files (refusal.Events why) c = is_writing t files why c
may_refuse t files (refusal.Schema why) c = has_document t files why c

pub refusal_is : (t : Option Task) (files : Option Files) (rose : Type 0) (s : Status) (old new : Option (List ℕ)) → IsAnswered t files rose s old new → RefusalPut t s old new
refusal_is t files rose s old new a =
    λ is. let lost = refusal_of t files s old new (came t files rose s old new a) is in
    (lost.0, may_refuse t files lost.0 lost.1, lost.2, lost.3)

refusal_now : (r : Refusal) (s : Status) → s ≡ refusal_status r → IsLater s → ⊥
refusal_now refusal.Usage s is l = let x : status.Usage ≡ status.Hints = sym is ∙ l in cc
refusal_now refusal.ReadFailed s is l = let x : status.ReadFault ≡ status.Hints = sym is ∙ l in cc
refusal_now (refusal.TooLong role) s is l = let x : status.TooLong ≡ status.Hints = sym is ∙ l in cc
refusal_now (refusal.Events why) s is l = let x : status.Events ≡ status.Hints = sym is ∙ l in cc
refusal_now (refusal.Schema why) s is l = let x : status.Schema ≡ status.Hints = sym is ∙ l in cc

pub not_later : (t : Option Task) (files : Option Files) (rose : Type 0) (s : Status) (old new : Option (List ℕ)) → IsAnswered t files rose s old new → IsLater s → ⊥
not_later t files rose s old new a later =
    let lost = refusal_of t files s old new (came t files rose s old new a) (ap sort_of later) in
    refusal_now lost.0 s lost.2 later

-- ---- completeness
pub long_within : (file : Option (List ℕ)) → IsWithin file → IsAnswer file most_bytes fetch.TooLong → ⊥
long_within None w l = w
long_within (Some bytes) w l = omega (arith, w, l)

within_all : (held : Files) (ns : List Need) (role : Role) → AreWithin held ns → OneLong (Some held) ns role → ⊥
within_all held [] role w l = l
within_all held (n ∷ ns) role w (inl l) = long_within (file_at held n.name) w.0 l.1
within_all held (n ∷ ns) role w (inr l) = within_all held ns role w.1 l

-- how a command ends that was done
abbrev EndsWriting : Option (List ℕ) → Status → Type 0
EndsWriting d s = ((s ≡ status.Ok) ⊎ (s ≡ status.Events)) ⊎ (IsGiven d × (s ≡ status.Schema))

ends_text : (w : Wish) (d : Option (List ℕ)) (due : Due) (s : Status) (o : Result Run Unwritten) → due ≡ text_due w o → due.status ≡ s → EndsWriting d s
ends_text w d due s (Ok r) owed is = inl (inl (sym is ∙ ap (λ (x : Due). x.status) owed))
ends_text w d due s (Err why) owed is = inl (inr (sym is ∙ ap (λ (x : Due). x.status) owed))

ends_informed : (w : Wish) (name text : List ℕ) (due : Due) (s : Status) (answer : Result Known SchemaRefusal) → OwedInformed (OwedOfText w) answer text due → due.status ≡ s → EndsWriting (Some name) s
ends_informed w name text due s (Ok k) owed is = ends_text w (Some name) due s (written_for w (Some k.schema) text) owed is
ends_informed w name text due s (Err why) owed is = inr (tt, sym is ∙ ap (λ (x : Due). x.status) owed)

ends_written : (w : Wish) (d : Option (List ℕ)) (due : Due) (s : Status) (bs : List (List ℕ)) → OwedOfFiles (OwedOfText w) d bs due → due.status ≡ s → EndsWriting d s
ends_written w None due s [] owed is = absurd owed
ends_written w None due s (text ∷ bs) owed is = ends_text w None due s (written_for w None text) owed is
ends_written w (Some name) due s [] owed is = absurd owed
ends_written w (Some name) due s (document ∷ []) owed is = absurd owed
ends_written w (Some name) due s (document ∷ text ∷ bs) (answer, by, owed) is = ends_informed w name text due s answer owed is

ends_document : (due : Due) (s : Status) (o : Result Known SchemaRefusal) → due ≡ document_due o → due.status ≡ s → (s ≡ status.Ok) ⊎ (s ≡ status.Schema)
ends_document due s (Ok r) d is = inl (sym is ∙ ap (λ (x : Due). x.status) d)
ends_document due s (Err why) d is = inr (sym is ∙ ap (λ (x : Due). x.status) d)

ends_done : (t : Option Task) (files : Option Files) (due : Due) (s : Status) (old new : Option (List ℕ)) → IsDone t files due → IsPut s due old new → IsTold s → Ends t s
ends_done None files due s old new done p h = done
ends_done (Some (stream f file o)) files due s old new done p h = inl h
ends_done (Some (writing file w)) files due s old new (bs, are, owed) p h = ends_written w w.document due s bs owed p.0
ends_done (Some (counting file)) files due s old new ([], are, owed) p h = absurd are
ends_done (Some (counting file)) files due s old new (bytes ∷ bs, are, (answer, is, d)) p h = ends_document due s answer d p.0

ends_refused : (t : Option Task) (files : Option Files) (why : Unwritten) (s : Status) → TextCause t files why → s ≡ status.Events → Ends t s
ends_refused None files why s c is = c
ends_refused (Some (stream f file o)) files why s c is = absurd c
ends_refused (Some (writing file w)) files why s c is = inl (inr is)
ends_refused (Some (counting file)) files why s c is = absurd c

ends_unread : (t : Option Task) (files : Option Files) (why : SchemaRefusal) (s : Status) → DocumentCause t files why → s ≡ status.Schema → Ends t s
ends_unread None files why s c is = c
ends_unread (Some (stream f file o)) files why s c is = inr (has_document (Some (stream f file o)) files why c, is)
ends_unread (Some (writing file w)) files why s c is = inr (has_document (Some (writing file w)) files why c, is)
ends_unread (Some (counting file)) files why s c is = inr is

complete_by : (t : Option Task) (held : Files) (rose out : Type 0) (s : Status) (old new : Option (List ℕ)) → Came t (Some held) s old new → (s ≡ status.ReadFault → rose) → (s ≡ status.WriteFault → out) → t ≢ None → AreWithin held (needs_of t) → (rose → ⊥) → (out → ⊥) → Ends t s ⊎ (s ≡ status.NoMemory)
complete_by t held rose out s old new (inl (due, done, p, h)) fell write some w still calm = inl (ends_done t (Some held) due s old new done p h)
complete_by t held rose out s old new (inr (inl (refusal.Usage, c, is, g))) fell write some w still calm = absurd (some c)
complete_by t held rose out s old new (inr (inl (refusal.ReadFailed, c, is, g))) fell write some w still calm = absurd (still (fell is))
complete_by t held rose out s old new (inr (inl (refusal.TooLong role, c, is, g))) fell write some w still calm = absurd (within_all held (needs_of t) role w c)
complete_by t held rose out s old new (inr (inl (refusal.Events why, c, is, g))) fell write some w still calm = inl (ends_refused t (Some held) why s c is)
complete_by t held rose out s old new (inr (inl (refusal.Schema why, c, is, g))) fell write some w still calm = inl (ends_unread t (Some held) why s c is)
complete_by t held rose out s old new (inr (inr (inl b))) fell write some w still calm = absurd (calm (write b))
complete_by t held rose out s old new (inr (inr (inr m))) fell write some w still calm = inr m

pub completes : (t : Option Task) (files : Option Files) (rose out : Type 0) (s : Status) (old new : Option (List ℕ)) → IsAnswered t files rose s old new → (s ≡ status.ReadFault → rose) → (s ≡ status.WriteFault → out) → IfSome files (λ held. t ≢ None → AreWithin held (needs_of t) → (rose → ⊥) → (out → ⊥) → Ends t s ⊎ (s ≡ status.NoMemory))
completes t None rose out s old new a fell write = tt
completes t (Some held) rose out s old new a fell write = λ some w still calm. complete_by t held rose out s old new (came t (Some held) rose s old new a) fell write some w still calm

-- ---- a stream that is written
abbrev IfWritten : Wish → Status → Option (List ℕ) → Option (List ℕ) → Option (List ℕ) → List ℕ → Type 0
IfWritten w s old new document text = s ≡ status.Ok → Writes w old new document text

-- what there is nothing to say of
of_none : (P : Option (List ℕ) → List ℕ → Type 0) (d : Option (List ℕ)) (name : List ℕ) (held : Files) → ((document : Option (List ℕ)) (text : List ℕ) → P document text) → OfBoth d name (Some held) P
of_none P None name held all = of_any (P None) (file_at held name) (all None)
of_none P (Some schema) name held all = of_any (λ x. IfSome (file_at held name) (P (Some x))) (file_at held schema) (λ x. of_any (P (Some x)) (file_at held name) (all (Some x)))

-- of a text that was found, by what is written of it
written_text : (w : Wish) (document : Option (List ℕ)) (known : Option Outline) (text : List ℕ) (due : Due) (s : Status) (old new : Option (List ℕ)) (o : Result Run Unwritten) → IsKnown document known → written_for w known text ≡ o → due ≡ text_due w o → IsPut s due old new → IfWritten w s old new document text
written_text w document known text due s old new (Ok r) by is d p = λ ok. (known, by, (r, is, subst (λ (t : List ℕ). Grows old t new) (ap (λ (x : Due). text_of (all_pieces x)) d ∙ append-nil (stream_of w r)) p.1))
written_text w document known text due s old new (Err why) by is d p = λ ok. let x : status.Events ≡ status.Ok = sym (ap (λ (x : Due). x.status) d) ∙ p.0 ∙ ok in absurd cc

written_informed : (w : Wish) (document text : List ℕ) (due : Due) (s : Status) (old new : Option (List ℕ)) (answer : Result Known SchemaRefusal) → IsDocument document answer → OwedInformed (OwedOfText w) answer text due → IsPut s due old new → IfWritten w s old new (Some document) text
written_informed w document text due s old new (Ok k) is owed p = written_text w (Some document) (Some k.schema) text due s old new (written_for w (Some k.schema) text) (k, is, refl) refl owed p
written_informed w document text due s old new (Err why) is owed p = λ ok. absurd (schema_untold why due s owed p.0 (ap sort_of ok))

written_done : (w : Wish) (d : Option (List ℕ)) (name : List ℕ) (held : Files) (s : Status) (old new : Option (List ℕ)) (due : Due) (bs : List (List ℕ)) → AreFound (Some held) (with_document d (record { name = name; role = role.Input } ∷ [])) bs → OwedOfFiles (OwedOfText w) d bs due → IsPut s due old new → OfBoth d name (Some held) (IfWritten w s old new)
written_done w None name held s old new due [] are owed p = absurd are
written_done w None name held s old new due (b ∷ bs) are owed p = of_found (IfWritten w s old new None) (file_at held name) b are.0.0 (written_text w None None b due s old new (written_for w None b) refl refl owed p)
written_done w (Some schema) name held s old new due [] are owed p = absurd are
written_done w (Some schema) name held s old new due (document ∷ []) are owed p = absurd owed
written_done w (Some schema) name held s old new due (document ∷ b ∷ bs) are (answer, is, owed) p =
    of_found (λ x. IfSome (file_at held name) (IfWritten w s old new (Some x))) (file_at held schema) document are.0.0
    (of_found (IfWritten w s old new (Some document)) (file_at held name) b are.1.0.0 (written_informed w document b due s old new answer is owed p))

not_ok : (w : Wish) (d : Option (List ℕ)) (name : List ℕ) (held : Files) (s : Status) (old new : Option (List ℕ)) → (IsTold s → ⊥) → OfBoth d name (Some held) (IfWritten w s old new)
not_ok w d name held s old new never = of_none (IfWritten w s old new) d name held (λ document text ok. absurd (never (ap sort_of ok)))

writes_by : (w : Wish) (name : List ℕ) (held : Files) (s : Status) (old new : Option (List ℕ)) → Came (Some (writing name w)) (Some held) s old new → OfBoth w.document name (Some held) (IfWritten w s old new)
writes_by w name held s old new (inl (due, (bs, are, owed), p, h)) = written_done w w.document name held s old new due bs are owed p
writes_by w name held s old new (inr (inl lost)) = not_ok w w.document name held s old new (refusal_untold lost.0 s lost.2)
writes_by w name held s old new (inr (inr early)) = not_ok w w.document name held s old new (early_untold s early)

pub writes : (t : Option Task) (files : Option Files) (rose : Type 0) (s : Status) (old new : Option (List ℕ)) → IsAnswered t files rose s old new → OfWriting t files (λ w document text. s ≡ status.Ok → Writes w old new document text)
writes None files rose s old new a = tt
writes (Some (stream f name o)) files rose s old new a = tt
writes (Some (counting name)) files rose s old new a = tt
writes (Some (writing name w)) None rose s old new a = untold_files w.document name (IfWritten w s old new)
writes (Some (writing name w)) (Some held) rose s old new a = writes_by w name held s old new (came (Some (writing name w)) (Some held) rose s old new a)

-- ---- an event text that is not written
abbrev IfUnwritten : Wish → Status → Option (List ℕ) → Option (List ℕ) → Option (List ℕ) → List ℕ → Type 0
IfUnwritten w s old new document text = s ≡ status.Events → WritesNone w old new document text

none_done : (w : Wish) (d : Option (List ℕ)) (name : List ℕ) (held : Files) (s : Status) (old new : Option (List ℕ)) (why : Unwritten) (bs : List (List ℕ)) → AreFound (Some held) (with_document d (record { name = name; role = role.Input } ∷ [])) bs → IsUnwritten w d bs why → Grows old (unwritten_line why) new → OfBoth d name (Some held) (IfUnwritten w s old new)
none_done w None name held s old new why [] are e g = absurd are
none_done w None name held s old new why (b ∷ bs) are e g = of_found (IfUnwritten w s old new None) (file_at held name) b are.0.0 (λ is. (None, refl, (why, e, g)))
none_done w (Some schema) name held s old new why [] are e g = absurd are
none_done w (Some schema) name held s old new why (document ∷ []) are e g = absurd e
none_done w (Some schema) name held s old new why (document ∷ b ∷ bs) are (k, by, e) g =
    of_found (λ x. IfSome (file_at held name) (IfUnwritten w s old new (Some x))) (file_at held schema) document are.0.0
    (of_found (IfUnwritten w s old new (Some document)) (file_at held name) b are.1.0.0 (λ is. (Some k.schema, (k, by, refl), (why, e, g))))

not_events : (w : Wish) (d : Option (List ℕ)) (name : List ℕ) (held : Files) (s : Status) (old new : Option (List ℕ)) → (s ≡ status.Events → ⊥) → OfBoth d name (Some held) (IfUnwritten w s old new)
not_events w d name held s old new never = of_none (IfUnwritten w s old new) d name held (λ document text is. absurd (never is))

told_no_events : (s : Status) → IsTold s → s ≡ status.Events → ⊥
told_no_events s h is = let x : refuses ≡ told = ap sort_of (sym is) ∙ h in cc

none_by : (w : Wish) (name : List ℕ) (held : Files) (s : Status) (old new : Option (List ℕ)) → Came (Some (writing name w)) (Some held) s old new → OfBoth w.document name (Some held) (IfUnwritten w s old new)
none_by w name held s old new (inl (due, done, p, h)) = not_events w w.document name held s old new (told_no_events s h)
none_by w name held s old new (inr (inl (refusal.Usage, c, is, g))) = not_events w w.document name held s old new (λ e. let x : status.Usage ≡ status.Events = sym is ∙ e in cc)
none_by w name held s old new (inr (inl (refusal.ReadFailed, c, is, g))) = not_events w w.document name held s old new (λ e. let x : status.ReadFault ≡ status.Events = sym is ∙ e in cc)
none_by w name held s old new (inr (inl (refusal.TooLong role, c, is, g))) = not_events w w.document name held s old new (λ e. let x : status.TooLong ≡ status.Events = sym is ∙ e in cc)
none_by w name held s old new (inr (inl (refusal.Events why, (bs, are, e), is, g))) = none_done w w.document name held s old new why bs are e g
none_by w name held s old new (inr (inl (refusal.Schema why, c, is, g))) = not_events w w.document name held s old new (λ e. let x : status.Schema ≡ status.Events = sym is ∙ e in cc)
none_by w name held s old new (inr (inr (inl b))) = not_events w w.document name held s old new (λ e. let x : status.WriteFault ≡ status.Events = sym b ∙ e in cc)
none_by w name held s old new (inr (inr (inr m))) = not_events w w.document name held s old new (λ e. let x : status.NoMemory ≡ status.Events = sym m ∙ e in cc)

pub writes_none : (t : Option Task) (files : Option Files) (rose : Type 0) (s : Status) (old new : Option (List ℕ)) → IsAnswered t files rose s old new → OfWriting t files (λ w document text. s ≡ status.Events → WritesNone w old new document text)
writes_none None files rose s old new a = tt
writes_none (Some (stream f name o)) files rose s old new a = tt
writes_none (Some (counting name)) files rose s old new a = tt
writes_none (Some (writing name w)) None rose s old new a = untold_files w.document name (IfUnwritten w s old new)
writes_none (Some (writing name w)) (Some held) rose s old new a = none_by w name held s old new (came (Some (writing name w)) (Some held) rose s old new a)

events_by : (t : Option Task) (files : Option Files) (s : Status) (old new : Option (List ℕ)) → CameRefused t files s old new → s ≡ status.Events → IsWriting t
events_by t files s old new (refusal.Usage, c, is, g) e = let x : status.Usage ≡ status.Events = sym is ∙ e in absurd cc
events_by t files s old new (refusal.ReadFailed, c, is, g) e = let x : status.ReadFault ≡ status.Events = sym is ∙ e in absurd cc
events_by t files s old new (refusal.TooLong role, c, is, g) e = let x : status.TooLong ≡ status.Events = sym is ∙ e in absurd cc
events_by t files s old new (refusal.Events why, c, is, g) e = is_writing t files why c
events_by t files s old new (refusal.Schema why, c, is, g) e = let x : status.Schema ≡ status.Events = sym is ∙ e in absurd cc

pub events_is : (t : Option Task) (files : Option Files) (rose : Type 0) (s : Status) (old new : Option (List ℕ)) → IsAnswered t files rose s old new → s ≡ status.Events → IsWriting t
events_is t files rose s old new a e = events_by t files s old new (refusal_of t files s old new (came t files rose s old new a) (ap sort_of e)) e

-- ---- what a schema document declares is counted
counted_bytes : (bytes : List ℕ) (due : Due) (s : Status) (old new : Option (List ℕ)) (o : Result Known SchemaRefusal) → IsDocument bytes o → due ≡ document_due o → IsPut s due old new → s ≡ status.Ok → Counts old new bytes
counted_bytes bytes due s old new (Ok k) is e p ok = (k, is, subst (λ (t : List ℕ). Grows old t new) (ap (λ (x : Due). text_of (all_pieces x)) e ∙ ap text_of (append-nil (count_lines k.declared))) p.1)
counted_bytes bytes due s old new (Err why) is e p ok = let x : status.Schema ≡ status.Ok = sym (ap (λ (x : Due). x.status) e) ∙ p.0 ∙ ok in absurd cc

counts_file : (name : List ℕ) (held : Files) (s : Status) (old new : Option (List ℕ)) (b : List ℕ) (due : Due) (file : Option (List ℕ)) → file_at held name ≡ file → file_at held name ≡ Some b → OwedOfDocument b due → IsPut s due old new → IfSome file (λ bytes. s ≡ status.Ok → Counts old new bytes)
counts_file name held s old new b due None is at d p = tt
counts_file name held s old new b due (Some bytes) is at (answer, document, d) p =
    let same : Some b ≡ Some bytes = sym at ∙ is in
    let b_is : b ≡ bytes = cc in
    λ ok. subst (λ (x : List ℕ). Counts old new x) b_is (counted_bytes b due s old new answer document d p ok)

not_counted : (s : Status) (file : Option (List ℕ)) (old new : Option (List ℕ)) → (IsTold s → ⊥) → IfSome file (λ bytes. s ≡ status.Ok → Counts old new bytes)
not_counted s None old new never = tt
not_counted s (Some bytes) old new never = λ ok. absurd (never (ap sort_of ok))

counts_by : (name : List ℕ) (held : Files) (s : Status) (old new : Option (List ℕ)) → Came (Some (counting name)) (Some held) s old new → IfSome (file_at held name) (λ bytes. s ≡ status.Ok → Counts old new bytes)
counts_by name held s old new (inl (due, ([], are, o), p, h)) = absurd are
counts_by name held s old new (inl (due, (b ∷ bs, are, o), p, h)) = counts_file name held s old new b due (file_at held name) refl are.0.0 o p
counts_by name held s old new (inr (inl lost)) = not_counted s (file_at held name) old new (refusal_untold lost.0 s lost.2)
counts_by name held s old new (inr (inr early)) = not_counted s (file_at held name) old new (early_untold s early)

abbrev CountsDocument : Option Task → Option Files → Status → Option (List ℕ) → Option (List ℕ) → Type 0
CountsDocument t files s old new = IsCounting t → OfDocument t files (λ bytes. s ≡ status.Ok → Counts old new bytes)

pub counts : (t : Option Task) (files : Option Files) (rose : Type 0) (s : Status) (old new : Option (List ℕ)) → IsAnswered t files rose s old new → CountsDocument t files s old new
counts None files rose s old new a = λ c. absurd c
counts (Some (stream f name o)) files rose s old new a = λ c. absurd c
counts (Some (writing name w)) files rose s old new a = λ c. absurd c
counts (Some (counting name)) None rose s old new a = λ c. tt
counts (Some (counting name)) (Some held) rose s old new a = λ c. counts_by name held s old new (came (Some (counting name)) (Some held) rose s old new a)

-- ---- a schema document that is refused
abbrev Unread : Status → Option (List ℕ) → Option (List ℕ) → List ℕ → Type 0
Unread s old new bytes = s ≡ status.Schema → RefusesDocument old new bytes

told_no_schema : (s : Status) → IsTold s → s ≡ status.Schema → ⊥
told_no_schema s h is = let x : refuses ≡ told = ap sort_of (sym is) ∙ h in cc

unread_file : (d : Option (List ℕ)) (ns : List Need) (held : Files) (s : Status) (old new : Option (List ℕ)) (why : SchemaRefusal) → CauseIn d ns (Some held) why → Grows old (schema_line why) new → OfFile d (Some held) (Unread s old new)
unread_file None ns held s old new why c g = absurd c
unread_file (Some name) ns held s old new why (bytes, all, are, had, is) g = of_found (Unread s old new) (file_at held name) bytes had.0 (λ h. (why, is, g))

not_unread : (d : Option (List ℕ)) (held : Files) (s : Status) (old new : Option (List ℕ)) → (s ≡ status.Schema → ⊥) → OfFile d (Some held) (Unread s old new)
not_unread None held s old new never = tt
not_unread (Some name) held s old new never = of_any (Unread s old new) (file_at held name) (λ b is. absurd (never is))

unread_by : (t : Option Task) (held : Files) (s : Status) (old new : Option (List ℕ)) → Came t (Some held) s old new → OfDocument t (Some held) (Unread s old new)
unread_by t held s old new (inl (due, done, p, h)) = not_unread (document_of t) held s old new (told_no_schema s h)
unread_by t held s old new (inr (inl (refusal.Usage, c, is, g))) = not_unread (document_of t) held s old new (λ e. let x : status.Usage ≡ status.Schema = sym is ∙ e in cc)
unread_by t held s old new (inr (inl (refusal.ReadFailed, c, is, g))) = not_unread (document_of t) held s old new (λ e. let x : status.ReadFault ≡ status.Schema = sym is ∙ e in cc)
unread_by t held s old new (inr (inl (refusal.TooLong role, c, is, g))) = not_unread (document_of t) held s old new (λ e. let x : status.TooLong ≡ status.Schema = sym is ∙ e in cc)
unread_by t held s old new (inr (inl (refusal.Events why, c, is, g))) = not_unread (document_of t) held s old new (λ e. let x : status.Events ≡ status.Schema = sym is ∙ e in cc)
unread_by t held s old new (inr (inl (refusal.Schema why, c, is, g))) = unread_file (document_of t) (needs_of t) held s old new why c g
unread_by t held s old new (inr (inr (inl b))) = not_unread (document_of t) held s old new (λ e. let x : status.WriteFault ≡ status.Schema = sym b ∙ e in cc)
unread_by t held s old new (inr (inr (inr m))) = not_unread (document_of t) held s old new (λ e. let x : status.NoMemory ≡ status.Schema = sym m ∙ e in cc)

untold_file : (d : Option (List ℕ)) (P : List ℕ → Type 0) → OfFile d None P
untold_file None P = tt
untold_file (Some name) P = tt

pub refuses_document : (t : Option Task) (files : Option Files) (rose : Type 0) (s : Status) (old new : Option (List ℕ)) → IsAnswered t files rose s old new → OfDocument t files (λ bytes. s ≡ status.Schema → RefusesDocument old new bytes)
refuses_document t None rose s old new a = untold_file (document_of t) (Unread s old new)
refuses_document t (Some held) rose s old new a = unread_by t held s old new (came t (Some held) rose s old new a)

schema_by : (t : Option Task) (files : Option Files) (s : Status) (old new : Option (List ℕ)) → CameRefused t files s old new → s ≡ status.Schema → HasDocument t
schema_by t files s old new (refusal.Usage, c, is, g) e = let x : status.Usage ≡ status.Schema = sym is ∙ e in absurd cc
schema_by t files s old new (refusal.ReadFailed, c, is, g) e = let x : status.ReadFault ≡ status.Schema = sym is ∙ e in absurd cc
schema_by t files s old new (refusal.TooLong role, c, is, g) e = let x : status.TooLong ≡ status.Schema = sym is ∙ e in absurd cc
schema_by t files s old new (refusal.Events why, c, is, g) e = let x : status.Events ≡ status.Schema = sym is ∙ e in absurd cc
schema_by t files s old new (refusal.Schema why, c, is, g) e = has_document t files why c

pub schema_is : (t : Option Task) (files : Option Files) (rose : Type 0) (s : Status) (old new : Option (List ℕ)) → IsAnswered t files rose s old new → s ≡ status.Schema → HasDocument t
schema_is t files rose s old new a e = schema_by t files s old new (refusal_of t files s old new (came t files rose s old new a) (ap sort_of e)) e

-- ---- no memory
no_lines : (w : Wish) (o : Result Run Unwritten) → (text_due w o).lines ≡ []
no_lines w (Ok r) = refl
no_lines w (Err why) = refl

informed_lines : (w : Wish) (text : List ℕ) (due : Due) (answer : Result Known SchemaRefusal) → OwedInformed (OwedOfText w) answer text due → due.lines ≡ []
informed_lines w text due (Ok k) is = ap (λ (x : Due). x.lines) is ∙ no_lines w (written_for w (Some k.schema) text)
informed_lines w text due (Err why) is = ap (λ (x : Due). x.lines) is

files_lines : (w : Wish) (d : Option (List ℕ)) (bs : List (List ℕ)) (due : Due) → OwedOfFiles (OwedOfText w) d bs due → due.lines ≡ []
files_lines w None [] due owed = absurd owed
files_lines w None (text ∷ bs) due is = ap (λ (x : Due). x.lines) is ∙ no_lines w (written_for w None text)
files_lines w (Some name) [] due owed = absurd owed
files_lines w (Some name) (document ∷ []) due owed = absurd owed
files_lines w (Some name) (document ∷ text ∷ bs) due (answer, by, owed) = informed_lines w text due answer owed

from_lines : (files : Option Files) (rose : Type 0) (ns : List Need) (rest : List (List ℕ) → Type 0) (due : Due) → ((bs : List (List ℕ)) → rest bs → due.lines ≡ []) → OwedFrom files rose ns rest due → due.lines ≡ []
from_lines files rose [] rest due none owed = none [] owed
from_lines files rose (n ∷ ns) rest due none (found b, had, owed) = from_lines files rose ns (λ bs. rest (b ∷ bs)) due (λ bs. none (b ∷ bs)) owed
from_lines files rose (n ∷ ns) rest due none (long, had, is) = ap (λ (x : Due). x.lines) is
from_lines files rose (n ∷ ns) rest due none (failed, had, is) = ap (λ (x : Due). x.lines) is

owed_lines : (w : Wish) (name : List ℕ) (files : Option Files) (rose : Type 0) (due : Due) → Owed (Some (writing name w)) files rose due → due.lines ≡ []
owed_lines w name files rose due owed = from_lines files rose (needs (writing name w)) (OwedBy (writing name w) due) due (λ bs. files_lines w w.document bs due) owed

by_no_lines : (old new : Option (List ℕ)) (text : List ℕ) → GrowsByLines old [] text new → Grows old text new
by_no_lines old new text ([], others, is, g) = g
by_no_lines old new text (l ∷ some, others, is, g) = absurd cc

grows_nothing : (old new : Option (List ℕ)) → Grows old [] new → new ≡ old
grows_nothing None new g = g
grows_nothing (Some o) new g = g ∙ ap (λ (t : List ℕ). Some t) (append-nil o)

starves_at : (due : Due) (old new : Option (List ℕ)) → due.lines ≡ [] → AnsweredBy starved due status.NoMemory old new → (new ≡ old) ⊎ Grows old no_memory new
starves_at due old new none (inl g) = inl (grows_nothing old new (by_no_lines old new [] (subst (λ (l : List (List ℕ)). GrowsByLines old l [] new) none g)))
starves_at due old new none (inr g) = inr (by_no_lines old new no_memory (subst (λ (l : List (List ℕ)). GrowsByLines old l no_memory new) none g))

starves_now : (due : Due) (s : Status) (old new : Option (List ℕ)) → due.lines ≡ [] → Answered due s old new → StarvesOnly s old new
starves_now due s old new none a = λ is. starves_at due old new none (subst (λ (x : Status). Answered due x old new) is a)

pub starves_is : (t : Option Task) (files : Option Files) (rose : Type 0) (s : Status) (old new : Option (List ℕ)) → IsAnswered t files rose s old new → IsWriting t → StarvesOnly s old new
starves_is None files rose s old new a w = absurd w
starves_is (Some (stream f name o)) files rose s old new a w = absurd w
starves_is (Some (counting name)) files rose s old new a w = absurd w
starves_is (Some (writing name x)) files rose s old new (due, owed, a) w = starves_now due s old new (owed_lines x name files rose due owed) a

-- ---- from what was done to the answer
answered_told : (s : Status) (due : Due) (old new : Option (List ℕ)) → IsTold s → IsPut s due old new → Answered due s old new
answered_told s due old new h p = subst (λ (k : Sort). AnsweredBy k due s old new) (sym h) p

pub answers_ok : (t : Option Task) (files : Option Files) (rose : Type 0) (s : Status) (old new : Option (List ℕ)) → Served t files rose (Ok s) old new → IsTold s → IsAnswered t files rose s old new
answers_ok t files rose s old new (due, owed, did) h = (due, owed, answered_told s due old new h (sym did.0, did.1))

pub answers_refused : (t : Option Task) (files : Option Files) (rose : Type 0) (r : Refusal) (s : Status) (old mid new : Option (List ℕ)) → Served t files rose (Err (halt.Refused r)) old mid → Answered (refusal_due r) s mid new → IsAnswered t files rose s old new
answers_refused t files rose r s old mid new (due, owed, did) a =
    (due, owed, subst (λ (d : Due). Answered d s old new) (sym did.0) (subst (λ (o : Option (List ℕ)). Answered (refusal_due r) s o new) did.1 a))

pub answers_write : (t : Option Task) (files : Option Files) (rose : Type 0) (old new : Option (List ℕ)) → Served t files rose (Err halt.Write) old new → IsAnswered t files rose status.WriteFault old new
answers_write t files rose old new (due, owed, did) = (due, owed, inl did)

-- the line on want of memory: put, not begun, or broken off
by_lines : (old mid new : Option (List ℕ)) (lines : List (List ℕ)) (text : List ℕ) → GrowsByLines old lines [] mid → Grows mid text new → GrowsByLines old lines text new
by_lines old mid new lines text (some, others, is, g) h =
    (some, others, is, subst (λ (t : List ℕ). Grows old t new) (ap (λ (t : List ℕ). t ++ text) (append-nil (text_of some))) (grows_more old mid new (text_of some ++ []) text g h))

starves_by : (due : Due) (s : Status) (old mid new : Option (List ℕ)) → GrowsByLines old due.lines [] mid → Starves s mid new → Answered due s old new
starves_by due s old mid new g (inl (is, inl same)) = rw is (inl (subst (λ (o : Option (List ℕ)). GrowsByLines old due.lines [] o) (sym same) g))
starves_by due s old mid new g (inl (is, inr all)) = rw is (inr (by_lines old mid new due.lines no_memory g all))
starves_by due s old mid new g (inr (is, p)) = rw is (inr (take p.0 no_memory, drop p.0 no_memory, sym (take-append-drop p.0 no_memory), by_lines old mid new due.lines (take p.0 no_memory) g p.2))

pub answers_starved : (t : Option Task) (files : Option Files) (rose : Type 0) (s : Status) (old mid new : Option (List ℕ)) → Served t files rose (Err halt.Memory) old mid → Starves s mid new → IsAnswered t files rose s old new
answers_starved t files rose s old mid new (due, owed, did) st = (due, owed, starves_by due s old mid new did st)

-- ---- the line of a refusal
pub refused_all : (r : Refusal) (old new : Option (List ℕ)) → Grows old (refusal_line r) new → Answered (refusal_due r) (refusal_status r) old new
refused_all refusal.Usage old new g = (refl, subst (λ (t : List ℕ). Grows old t new) (sym (append-nil (refusal_line refusal.Usage))) g)
refused_all refusal.ReadFailed old new g = (refl, subst (λ (t : List ℕ). Grows old t new) (sym (append-nil (refusal_line refusal.ReadFailed))) g)
refused_all (refusal.TooLong role) old new g = (refl, subst (λ (t : List ℕ). Grows old t new) (sym (append-nil (refusal_line (refusal.TooLong role)))) g)
refused_all (refusal.Events why) old new g = (refl, subst (λ (t : List ℕ). Grows old t new) (sym (append-nil (refusal_line (refusal.Events why)))) g)
refused_all (refusal.Schema why) old new g = (refl, subst (λ (t : List ℕ). Grows old t new) (sym (append-nil (refusal_line (refusal.Schema why)))) g)

pub refused_part : (r : Refusal) (old new : Option (List ℕ)) → GrowsInPart old (refusal_line r) new → Answered (refusal_due r) status.WriteFault old new
refused_part r old new p =
    inl (take p.0 (refusal_line r), drop p.0 (refusal_line r), append-nil (refusal_line r) ∙ sym (take-append-drop p.0 (refusal_line r)), p.2)

pub refused_starved : (r : Refusal) (s : Status) (old mid new : Option (List ℕ)) → mid ≡ old → Starves s mid new → Answered (refusal_due r) s old new
refused_starved r s old mid new same st =
    starves_by (refusal_due r) s old mid new ([], [], refl, subst (λ (o : Option (List ℕ)). Grows old [] o) (sym same) (grows_none old)) st
