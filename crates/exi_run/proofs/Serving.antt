-- What a command did, by its files.
use Rattle.std.proofs.Common.{◌≡◌, ℕ, List, [], ◌∷◌, ◌++◌, Option, Some, None, Result, Ok, Err, inl, inr, codes, length, ◌≤◌, refl, sym, ap, ◌∙◌, subst, append_assoc, arith}
use Rattle.std.proofs.lemmas.Bool.{cases_lt}
use Rattle.std.proofs.lemmas.List.{append-nil}
use Rattle.std.specs.Prelude.{IfOk, IfSome}
use Rattle.exi_gram.specs.Outlines.{Outline}
use Rattle.exi_gram.specs.Schemas.{IsSchema}
use Rattle.xsd_file.specs.Bases.{Basis}
use Rattle.exi_ports.specs.Ports.{IsAnswer, file_at}
use Rattle.exi_ports.specs.declared.shelf.Fetch.TheVariants as fetch
use Rattle.exi_run.specs.declared.form.Form.{Form}
use Rattle.exi_run.specs.declared.halt.Halt.{Halt}
use Rattle.exi_run.specs.declared.halt.Halt.TheVariants as halt
use Rattle.exi_run.specs.declared.halt.Refusal.TheVariants as refusal
use Rattle.exi_run.specs.declared.halt.Role.{Role}
use Rattle.exi_run.specs.declared.halt.Role.TheVariants as role
use Rattle.exi_run.specs.declared.status.Status.{Status}
use Rattle.exi_run.specs.declared.status.Status.TheVariants as status
use Rattle.exi_names.specs.Events.{Happening, Grows, Rose}
use Rattle.exi_run.specs.Printing.{grows_more, grows_none}
use Rattle.exi_run.specs.Answers.{Did, DidLast, DidLines, DidWrite, Fetches, GrowsByFront, Informs, OfFile, Served, Stands}
use Rattle.exi_run.specs.Dues.{Due, Files, Had, found, long, failed, IsHad, Owed, OwedFrom, OwedInformed, OwedOf, OwedOfBoth, OwedOfDocument, OwedOfFiles, OwedOfStream, OwedOfText, basis_by, count_line, count_lines, counts_due, document_due, most_bytes, refusal_due, text_due, text_of, whole_due}
use Rattle.exi_run.specs.Tasks.{Need, Terms, counting, with_document}
use Rattle.exi_run.specs.Wishes.{Wish, written_for}
use Rattle.exi_run.specs.Wholes.{IsWhole}
use Rattle.exi_run.specs.declared.ending.Ending.{Ending}
use Rattle.xsd_file.specs.Counts.{attributes_counted, elements_counted, types_counted}
use Rattle.xsd_file.specs.Documents.{IsDocument}
use Rattle.xsd_file.specs.Laws.{ADocumentIsThere, OneDocument}
use Rattle.xsd_file.specs.declared.refusal.SchemaRefusal.{SchemaRefusal}
use Rattle.xsd_file.specs.Words.{Declared, Known}

-- ---- something is owed
had_by : (held : Files) (rose : Type 0) (name : List ℕ) (file : Option (List ℕ)) → file_at held name ≡ file → (h : Had) × IsHad (Some held) rose name h
had_by held rose name None is = (failed, inr is)
had_by held rose name (Some bytes) is =
    elim (cases_lt most_bytes (length bytes)) [
      | inl more ↦ (long, subst (λ (f : Option (List ℕ)). IsAnswer f most_bytes fetch.TooLong) (sym is) more)
      | inr few ↦ (found bytes, (is, omega (arith, few)))
    ]

had_one : (files : Option Files) (rose : Type 0) (name : List ℕ) → (h : Had) × IsHad files rose name h
had_one None rose name = (long, tt)
had_one (Some held) rose name = had_by held rose name (file_at held name) refl

abbrev Owes : Option Files → Type 0 → List Need → (List (List ℕ) → Due → Type 0) → Type 0
Owes files rose ns R = (due : Due) × OwedFrom files rose ns (λ bs. R bs due) due

owes_by : (files : Option Files) (rose : Type 0) (n : Need) (ns : List Need) (R : List (List ℕ) → Due → Type 0) → ((bytes : List ℕ) → Owes files rose ns (λ bs due. R (bytes ∷ bs) due)) → (h : Had) → IsHad files rose n.name h → Owes files rose (n ∷ ns) R
owes_by files rose n ns R each (found bytes) had = let w = each bytes in (w.0, (found bytes, had, w.1))
owes_by files rose n ns R each long had = (refusal_due (refusal.TooLong n.role), (long, had, refl))
owes_by files rose n ns R each failed had = (refusal_due refusal.ReadFailed, (failed, had, refl))

owes_one : (files : Option Files) (rose : Type 0) (n : Need) (ns : List Need) (R : List (List ℕ) → Due → Type 0) → ((bytes : List ℕ) → Owes files rose ns (λ bs due. R (bytes ∷ bs) due)) → Owes files rose (n ∷ ns) R
owes_one files rose n ns R each = let h = had_one files rose n.name in owes_by files rose n ns R each h.0 h.1

-- ---- what was done of it
abbrev ServedBy : Option Files → Type 0 → List Need → (List (List ℕ) → Due → Type 0) → Result Status Halt → Option (List ℕ) → Option (List ℕ) → Type 0
ServedBy files rose ns R r old new = (due : Due) × OwedFrom files rose ns (λ bs. R bs due) due × Did due r old new

-- no memory, before anything was done
starved_by : (files : Option Files) (rose : Type 0) (ns : List Need) (R : List (List ℕ) → Due → Type 0) (old : Option (List ℕ)) → Owes files rose ns R → ServedBy files rose ns R (Err halt.Memory) old old
starved_by files rose ns R old (due, owed) = (due, owed, ([], due.lines, refl, grows_none old))

-- without a file nothing was done
unserved_by : (files : Option Files) (rose : Type 0) (n : Need) (ns : List Need) (R : List (List ℕ) → Due → Type 0) (h : Halt) (old : Option (List ℕ)) → Owes files rose (n ∷ ns) R → Fetches files rose n.name n.role (Err h) → ServedBy files rose (n ∷ ns) R (Err h) old old
unserved_by files rose n ns R (halt.Refused refusal.Usage) old owes fetched = absurd fetched
unserved_by files rose n ns R (halt.Refused refusal.ReadFailed) old owes fetched = (refusal_due refusal.ReadFailed, (failed, fetched, refl), (refl, refl))
unserved_by files rose n ns R (halt.Refused (refusal.TooLong r)) old owes fetched = (refusal_due (refusal.TooLong r), (long, fetched.1, ap (λ x. refusal_due (refusal.TooLong x)) fetched.0), (refl, refl))
unserved_by files rose n ns R (halt.Refused (refusal.Events why)) old owes fetched = absurd fetched
unserved_by files rose n ns R (halt.Refused (refusal.Schema why)) old owes fetched = absurd fetched
unserved_by files rose n ns R halt.Write old owes fetched = absurd fetched
unserved_by files rose n ns R halt.Memory old owes fetched = starved_by files rose (n ∷ ns) R old owes

-- behind a file that was found
behind_found : (files : Option Files) (rose : Type 0) (n : Need) (ns : List Need) (R : List (List ℕ) → Due → Type 0) (bytes : List ℕ) (r : Result Status Halt) (old new : Option (List ℕ)) → IsHad files rose n.name (found bytes) → ServedBy files rose ns (λ bs due. R (bytes ∷ bs) due) r old new → ServedBy files rose (n ∷ ns) R r old new
behind_found files rose n ns R bytes r old new had (due, owed, did) = (due, (found bytes, had, owed), did)

-- ---- of a stream
-- all bytes have events and an end
abbrev IsThere : Type 0
IsThere = (basis : Basis) (bytes : List ℕ) → (es : List Happening) × (e : Ending) × IsWhole basis bytes es e

abbrev input_need : List ℕ → Need
input_need name = record { name = name; role = role.Input }

abbrev schema_need : List ℕ → Need
schema_need name = record { name = name; role = role.Schema }

-- something is owed, whatever is known, and whatever the input is
abbrev pub AlwaysOwes : (Option Outline → List ℕ → Due → Type 0) → Type 0
AlwaysOwes owed = (known : Option Outline) (input : List ℕ) → (due : Due) × owed known input due

whole_owes : IsThere → (f : Form) (basis : Basis) (bytes : List ℕ) → (due : Due) × OwedOf f basis bytes due
whole_owes there f basis bytes = let w = there basis bytes in (whole_due f w.0 w.1, (w.0, w.1, w.2, refl))

pub stream_owes : IsThere → (f : Form) (o : Terms) → AlwaysOwes (OwedOfStream f o)
stream_owes there f o known bytes = whole_owes there f (basis_by o known) bytes

pub text_owes : (w : Wish) → AlwaysOwes (OwedOfText w)
text_owes w known text = (text_due w (written_for w known text), refl)

-- what was written of it was put
pub text_did : (w : Wish) (known : Option Outline) (text : List ℕ) (r : Result Status Halt) (old new : Option (List ℕ)) → DidWrite w known text r old new → (due : Due) × OwedOfText w known text due × Did due r old new
text_did w known text r old new did = (text_due w (written_for w known text), refl, did)

-- of the bytes of its files, with a schema document or without
abbrev pub FilesServed : (Option Outline → List ℕ → Due → Type 0) → Option (List ℕ) → List ℕ → Option Files → Type 0 → Result Status Halt → Option (List ℕ) → Option (List ℕ) → Type 0
FilesServed owed document name files rose r old new = ServedBy files rose (with_document document (input_need name ∷ [])) (OwedOfFiles owed document) r old new

informed_owes : (owed : Option Outline → List ℕ → Due → Type 0) → AlwaysOwes owed → (input : List ℕ) (answer : Result Known SchemaRefusal) → (due : Due) × OwedInformed owed answer input due
informed_owes owed always input (Ok k) = always (Some k.schema) input
informed_owes owed always input (Err why) = (refusal_due (refusal.Schema why), refl)

both_owes : ADocumentIsThere → (owed : Option Outline → List ℕ → Due → Type 0) → AlwaysOwes owed → (document input : List ℕ) → (due : Due) × OwedOfBoth owed document input due
both_owes documents owed always document input =
    let d = documents document in
    let w = informed_owes owed always input d.0 in
    (w.0, (d.0, d.1, w.1))

plain_owes : (owed : Option Outline → List ℕ → Due → Type 0) → AlwaysOwes owed → (name : List ℕ) (files : Option Files) (rose : Type 0) → Owes files rose (input_need name ∷ []) (OwedOfFiles owed None)
plain_owes owed always name files rose = owes_one files rose (input_need name) [] (OwedOfFiles owed None) (λ input. always None input)

input_owes : ADocumentIsThere → (owed : Option Outline → List ℕ → Due → Type 0) → AlwaysOwes owed → (schema name document : List ℕ) (files : Option Files) (rose : Type 0) → Owes files rose (input_need name ∷ []) (λ bs due. OwedOfFiles owed (Some schema) (document ∷ bs) due)
input_owes documents owed always schema name document files rose = owes_one files rose (input_need name) [] (λ bs due. OwedOfFiles owed (Some schema) (document ∷ bs) due) (λ input. both_owes documents owed always document input)

all_owed : ADocumentIsThere → (owed : Option Outline → List ℕ → Due → Type 0) → AlwaysOwes owed → (schema name : List ℕ) (files : Option Files) (rose : Type 0) → Owes files rose (schema_need schema ∷ input_need name ∷ []) (OwedOfFiles owed (Some schema))
all_owed documents owed always schema name files rose = owes_one files rose (schema_need schema) (input_need name ∷ []) (OwedOfFiles owed (Some schema)) (λ document. input_owes documents owed always schema name document files rose)

-- without a schema document
abbrev pub PlainDid : (Option Outline → List ℕ → Due → Type 0) → List ℕ → Result Status Halt → Option (List ℕ) → Option (List ℕ) → Type 0
PlainDid owed input r old new = (due : Due) × owed None input due × Did due r old new

pub served_bytes : (owed : Option Outline → List ℕ → Due → Type 0) (document : Option (List ℕ)) (name : List ℕ) (files : Option Files) (rose : Type 0) (input : List ℕ) (r : Result Status Halt) (old new : Option (List ℕ)) → document ≡ None → IsHad files rose name (found input) → PlainDid owed input r old new → FilesServed owed document name files rose r old new
served_bytes owed document name files rose input r old new none had did = subst (λ (d : Option (List ℕ)). FilesServed owed d name files rose r old new) (sym none) (behind_found files rose (input_need name) [] (OwedOfFiles owed None) input r old new had did)

pub served_none : (owed : Option Outline → List ℕ → Due → Type 0) → AlwaysOwes owed → (document : Option (List ℕ)) (name : List ℕ) (files : Option Files) (rose : Type 0) (h : Halt) (old : Option (List ℕ)) → document ≡ None → Fetches files rose name role.Input (Err h) → FilesServed owed document name files rose (Err h) old old
served_none owed always document name files rose h old none fetched = subst (λ (d : Option (List ℕ)). FilesServed owed d name files rose (Err h) old old) (sym none) (unserved_by files rose (input_need name) [] (OwedOfFiles owed None) h old (plain_owes owed always name files rose) fetched)

-- with one
pub both_starved : ADocumentIsThere → (owed : Option Outline → List ℕ → Due → Type 0) → AlwaysOwes owed → (document : Option (List ℕ)) (schema name : List ℕ) (files : Option Files) (rose : Type 0) (old : Option (List ℕ)) → document ≡ Some schema → FilesServed owed document name files rose (Err halt.Memory) old old
both_starved documents owed always document schema name files rose old is = subst (λ (d : Option (List ℕ)). FilesServed owed d name files rose (Err halt.Memory) old old) (sym is) (starved_by files rose (schema_need schema ∷ input_need name ∷ []) (OwedOfFiles owed (Some schema)) old (all_owed documents owed always schema name files rose))

pub no_document : ADocumentIsThere → (owed : Option Outline → List ℕ → Due → Type 0) → AlwaysOwes owed → (document : Option (List ℕ)) (schema name : List ℕ) (files : Option Files) (rose : Type 0) (h : Halt) (old : Option (List ℕ)) → document ≡ Some schema → Fetches files rose schema role.Schema (Err h) → FilesServed owed document name files rose (Err h) old old
no_document documents owed always document schema name files rose h old is fetched = subst (λ (d : Option (List ℕ)). FilesServed owed d name files rose (Err h) old old) (sym is) (unserved_by files rose (schema_need schema) (input_need name ∷ []) (OwedOfFiles owed (Some schema)) h old (all_owed documents owed always schema name files rose) fetched)

-- a file of the same shelf that failed later
fetches_later : (files : Option Files) (rose later : Type 0) (name : List ℕ) (role : Role) (h : Halt) → (rose → later) → Fetches files rose name role (Err h) → Fetches files later name role (Err h)
fetches_later files rose later name role (halt.Refused refusal.Usage) more f = f
fetches_later files rose later name role (halt.Refused refusal.ReadFailed) more (inl r) = inl (more r)
fetches_later files rose later name role (halt.Refused refusal.ReadFailed) more (inr a) = inr a
fetches_later files rose later name role (halt.Refused (refusal.TooLong r)) more f = f
fetches_later files rose later name role (halt.Refused (refusal.Events why)) more f = f
fetches_later files rose later name role (halt.Refused (refusal.Schema why)) more f = f
fetches_later files rose later name role halt.Write more f = f
fetches_later files rose later name role halt.Memory more f = f

pub no_input : ADocumentIsThere → (owed : Option Outline → List ℕ → Due → Type 0) → AlwaysOwes owed → (document : Option (List ℕ)) (schema name bytes : List ℕ) (files mid : Option Files) (rose later : Type 0) (h : Halt) (old : Option (List ℕ)) → document ≡ Some schema → mid ≡ files → (rose → later) → IsHad files later schema (found bytes) → Fetches mid rose name role.Input (Err h) → FilesServed owed document name files later (Err h) old old
no_input documents owed always document schema name bytes files mid rose later h old is same more had fetched =
    let late = fetches_later files rose later name role.Input h more (subst (λ (x : Option Files). Fetches x rose name role.Input (Err h)) same fetched) in
    subst (λ (d : Option (List ℕ)). FilesServed owed d name files later (Err h) old old) (sym is)
    (behind_found files later (schema_need schema) (input_need name ∷ []) (OwedOfFiles owed (Some schema)) bytes (Err h) old old had
    (unserved_by files later (input_need name) [] (λ bs due. OwedOfFiles owed (Some schema) (bytes ∷ bs) due) h old (input_owes documents owed always schema name bytes files later) late))

-- a count that rose behind another moment rose
pub rose_later : (old mid new : ℕ) → old ≤ mid → Rose mid new → Rose old new
rose_later old mid new later rose = omega (arith, later, rose)

-- what was done of both
abbrev pub OwesDidBoth : (Option Outline → List ℕ → Due → Type 0) → List ℕ → List ℕ → Result Status Halt → Option (List ℕ) → Option (List ℕ) → Type 0
OwesDidBoth owed document input r old new = (due : Due) × OwedOfBoth owed document input due × Did due r old new

pub served_both : (owed : Option Outline → List ℕ → Due → Type 0) (document : Option (List ℕ)) (schema name bytes input : List ℕ) (files mid : Option Files) (rose : Type 0) (r : Result Status Halt) (old new : Option (List ℕ)) → document ≡ Some schema → mid ≡ files → IsHad files rose schema (found bytes) → IsHad mid rose name (found input) → OwesDidBoth owed bytes input r old new → FilesServed owed document name files rose r old new
served_both owed document schema name bytes input files mid rose r old new is same had also did =
    subst (λ (d : Option (List ℕ)). FilesServed owed d name files rose r old new) (sym is)
    (behind_found files rose (schema_need schema) (input_need name ∷ []) (OwedOfFiles owed (Some schema)) bytes r old new had
    (behind_found files rose (input_need name) [] (λ bs due. OwedOfFiles owed (Some schema) (bytes ∷ bs) due) input r old new (subst (λ (x : Option Files). IsHad x rose name (found input)) same also) did))

-- the document was read, and the input behind it
abbrev pub KnownDid : (Option Outline → List ℕ → Due → Type 0) → Outline → List ℕ → Result Status Halt → Option (List ℕ) → Option (List ℕ) → Type 0
KnownDid owed schema input r old new = (due : Due) × owed (Some schema) input due × Did due r old new

pub read_both : (owed : Option Outline → List ℕ → Due → Type 0) (document input : List ℕ) (schema : Outline) (r : Result Status Halt) (old new : Option (List ℕ)) → Informs document (Ok schema) → KnownDid owed schema input r old new → OwesDidBoth owed document input r old new
read_both owed document input schema r old new (k, is, same) (due, o, did) = (due, (Ok k, is, subst (λ (x : Outline). owed (Some x) input due) same o), did)

-- the document was not read
pub read_none : ADocumentIsThere → (owed : Option Outline → List ℕ → Due → Type 0) → AlwaysOwes owed → (document input : List ℕ) (h : Halt) (old : Option (List ℕ)) → Informs document (Err h) → OwesDidBoth owed document input (Err h) old old
read_none documents owed always document input (halt.Refused r) old (why, is, refused) = (refusal_due (refusal.Schema why), (Err why, refused, refl), (ap refusal_due (sym is), refl))
read_none documents owed always document input halt.Write old none = absurd none
read_none documents owed always document input halt.Memory old none =
    let w = both_owes documents owed always document input in
    (w.0, w.1, ([], w.0.lines, refl, grows_none old))

-- ---- that its grammars fit together, where there was memory for them
pub on_ok : (r : Result Status Halt) (A : Type 0) → A → IfOk r (λ s. A)
on_ok (Ok s) A a = a
on_ok (Err h) A a = tt

pub then_ok : (r : Result Status Halt) (A B : Type 0) → (A → B) → IfOk r (λ s. A) → IfOk r (λ s. B)
then_ok (Ok s) A B f a = f a
then_ok (Err h) A B f a = tt

abbrev given_known : Known → Result Known SchemaRefusal
given_known k = Ok k

known_is : (k l : Known) → given_known k ≡ given_known l → k ≡ l
known_is k l e = cc

pub stands_by : OneDocument → (document : List ℕ) (schema : Outline) → IsSchema schema → Informs document (Ok schema) → Stands document
stands_by one document schema fits (k, is, same) = λ l also. subst IsSchema (same ∙ ap (λ (x : Known). x.schema) (known_is k l (one document (Ok k) (Ok l) is also))) fits

stands_at : (file : Option (List ℕ)) (bytes : List ℕ) → file ≡ Some bytes → Stands bytes → IfSome file Stands
stands_at None bytes is s = tt
stands_at (Some held) bytes is s = let same : bytes ≡ held = cc in subst Stands same s

stands_in : (files : Option Files) (rose : Type 0) (name bytes : List ℕ) → IsHad files rose name (found bytes) → Stands bytes → OfFile (Some name) files Stands
stands_in None rose name bytes had s = tt
stands_in (Some held) rose name bytes had s = stands_at (file_at held name) bytes had.0 s

pub stands_file : (document : Option (List ℕ)) (files : Option Files) (rose : Type 0) (name bytes : List ℕ) → document ≡ Some name → IsHad files rose name (found bytes) → Stands bytes → OfFile document files Stands
stands_file document files rose name bytes is had s = subst (λ (d : Option (List ℕ)). OfFile d files Stands) (sym is) (stands_in files rose name bytes had s)

pub stands_none : (document : Option (List ℕ)) (files : Option Files) → document ≡ None → OfFile document files Stands
stands_none document files is = subst (λ (d : Option (List ℕ)). OfFile d files Stands) (sym is) tt

-- ---- of a schema document
abbrev pub DocumentDid : List ℕ → Result Status Halt → Option (List ℕ) → Option (List ℕ) → Type 0
DocumentDid bytes r old new = (due : Due) × OwedOfDocument bytes due × Did due r old new

pub served_document : (name : List ℕ) (files : Option Files) (rose : Type 0) (bytes : List ℕ) (r : Result Status Halt) (old new : Option (List ℕ)) → IsHad files rose name (found bytes) → DocumentDid bytes r old new → Served (Some (counting name)) files rose r old new
served_document name files rose bytes r old new had (due, owed, did) = (due, (found bytes, had, owed), did)

document_owes : ADocumentIsThere → (name : List ℕ) (files : Option Files) (rose : Type 0) (h : Had) → IsHad files rose name h → (due : Due) × Owed (Some (counting name)) files rose due
document_owes there name files rose (found bytes) had = let d = there bytes in (document_due d.0, (found bytes, had, (d.0, d.1, refl)))
document_owes there name files rose long had = (refusal_due (refusal.TooLong role.Schema), (long, had, refl))
document_owes there name files rose failed had = (refusal_due refusal.ReadFailed, (failed, had, refl))

pub document_unserved : ADocumentIsThere → (name : List ℕ) (files : Option Files) (rose : Type 0) (h : Halt) (old : Option (List ℕ)) → Fetches files rose name role.Schema (Err h) → Served (Some (counting name)) files rose (Err h) old old
document_unserved there name files rose (halt.Refused refusal.Usage) old fetched = absurd fetched
document_unserved there name files rose (halt.Refused refusal.ReadFailed) old fetched = (refusal_due refusal.ReadFailed, (failed, fetched, refl), (refl, refl))
document_unserved there name files rose (halt.Refused (refusal.TooLong r)) old fetched = (refusal_due (refusal.TooLong r), (long, fetched.1, ap (λ x. refusal_due (refusal.TooLong x)) fetched.0), (refl, refl))
document_unserved there name files rose (halt.Refused (refusal.Events why)) old fetched = absurd fetched
document_unserved there name files rose (halt.Refused (refusal.Schema why)) old fetched = absurd fetched
document_unserved there name files rose halt.Write old fetched = absurd fetched
document_unserved there name files rose halt.Memory old fetched =
    let h = had_one files rose name in
    let o = document_owes there name files rose h.0 h.1 in
    (o.0, o.1, ([], o.0.lines, refl, grows_none old))

-- what was counted, by what is known
pub counted_ok : (bytes : List ℕ) (k : Known) (old new : Option (List ℕ)) → IsDocument bytes (Ok k) → DidLines (count_lines k.declared) (Ok tt) old new → DocumentDid bytes (Ok status.Ok) old new
counted_ok bytes k old new is g = (counts_due k.declared, (Ok k, is, refl), (refl, subst (λ (t : List ℕ). Grows old t new) (ap text_of (sym (append-nil (count_lines k.declared)))) g))

pub counted_err : (h : Halt) (bytes : List ℕ) (k : Known) (old new : Option (List ℕ)) → IsDocument bytes (Ok k) → DidLines (count_lines k.declared) (Err h) old new → DocumentDid bytes (Err h) old new
counted_err (halt.Refused r) bytes k old new is g = absurd g
counted_err halt.Write bytes k old new is g = (counts_due k.declared, (Ok k, is, refl), subst (λ (t : List ℕ). GrowsByFront old t new) (ap text_of (sym (append-nil (count_lines k.declared)))) g)
counted_err halt.Memory bytes k old new is g = (counts_due k.declared, (Ok k, is, refl), g)

pub refused_document : (why : SchemaRefusal) (bytes : List ℕ) (old : Option (List ℕ)) → IsDocument bytes (Err why) → DocumentDid bytes (Err (halt.Refused (refusal.Schema why))) old old
refused_document why bytes old is = (document_due (Err why), (Err why, is, refl), (refl, refl))

pub starved_document : ADocumentIsThere → (bytes : List ℕ) (old : Option (List ℕ)) → DocumentDid bytes (Err halt.Memory) old old
starved_document there bytes old = let d = there bytes in (document_due d.0, (d.0, d.1, refl), ([], (document_due d.0).lines, refl, grows_none old))

-- ---- lines one after another
pub lines_ok : (line : List ℕ) (lines : List (List ℕ)) (old mid new : Option (List ℕ)) → Grows old (text_of (line ∷ [])) mid → DidLines lines (Ok tt) mid new → DidLines (line ∷ lines) (Ok tt) old new
lines_ok line lines old mid new g h = subst (λ (t : List ℕ). Grows old t new) (ap (λ (t : List ℕ). t ++ text_of lines) (append-nil line)) (grows_more old mid new (text_of (line ∷ [])) (text_of lines) g h)

pub lines_err : (h : Halt) (line : List ℕ) (lines : List (List ℕ)) (old mid new : Option (List ℕ)) → Grows old (text_of (line ∷ [])) mid → DidLines lines (Err h) mid new → DidLines (line ∷ lines) (Err h) old new
lines_err (halt.Refused r) line lines old mid new g d = absurd d
lines_err halt.Write line lines old mid new g (front, rest, is, h) =
    (line ++ front, rest, ap (λ (t : List ℕ). line ++ t) is ∙ sym (append_assoc line front rest), subst (λ (t : List ℕ). Grows old t new) (ap (λ (t : List ℕ). t ++ front) (append-nil line)) (grows_more old mid new (text_of (line ∷ [])) front g h))
lines_err halt.Memory line lines old mid new g (some, others, is, h) =
    (line ∷ some, others, ap (λ (l : List (List ℕ)). line ∷ l) is, subst (λ (t : List ℕ). Grows old t new) (ap (λ (t : List ℕ). t ++ (text_of some ++ [])) (append-nil line) ∙ sym (append_assoc line (text_of some) [])) (grows_more old mid new (text_of (line ∷ [])) (text_of some ++ []) g h))

-- the first line, in one put
pub line_first : (h : Halt) (line : List ℕ) (lines : List (List ℕ)) (old new : Option (List ℕ)) → DidLast (line ∷ []) (Err h) old new → DidLines (line ∷ lines) (Err h) old new
line_first (halt.Refused r) line lines old new d = absurd d
line_first halt.Write line lines old new (front, rest, is, h) = (front, rest ++ text_of lines, ap (λ (t : List ℕ). t ++ text_of lines) (sym (append-nil line) ∙ is) ∙ append_assoc front rest (text_of lines), h)
line_first halt.Memory line lines old new d = ([], line ∷ lines, refl, subst (λ (o : Option (List ℕ)). Grows old [] o) (sym d) (grows_none old))

-- by how the rest went
pub lines_then : (r : Result (Unit {0}) Halt) (line : List ℕ) (lines : List (List ℕ)) (old mid new : Option (List ℕ)) → Grows old (text_of (line ∷ [])) mid → DidLines lines r mid new → DidLines (line ∷ lines) r old new
lines_then (Ok done) line lines old mid new g h = lines_ok line lines old mid new g h
lines_then (Err h) line lines old mid new g d = lines_err h line lines old mid new g d

pub last_line : (r : Result (Unit {0}) Halt) (line : List ℕ) (old new : Option (List ℕ)) → DidLast (line ∷ []) r old new → DidLines (line ∷ []) r old new
last_line (Ok done) line old new g = g
last_line (Err h) line old new g = line_first h line [] old new g

-- ---- the three counts, one after another
elements_line : (r : Result (Unit {0}) Halt) (d : Declared) (n : ℕ) (old new : Option (List ℕ)) → n ≡ elements_counted d → DidLast (count_line (codes "elements ") n ∷ []) r old new → DidLast (count_line (codes "elements ") (elements_counted d) ∷ []) r old new
elements_line r d n old new is put = subst (λ (m : ℕ). DidLast (count_line (codes "elements ") m ∷ []) r old new) is put

attributes_line : (r : Result (Unit {0}) Halt) (d : Declared) (n : ℕ) (old new : Option (List ℕ)) → n ≡ attributes_counted d → DidLast (count_line (codes "attributes ") n ∷ []) r old new → DidLast (count_line (codes "attributes ") (attributes_counted d) ∷ []) r old new
attributes_line r d n old new is put = subst (λ (m : ℕ). DidLast (count_line (codes "attributes ") m ∷ []) r old new) is put

types_line : (r : Result (Unit {0}) Halt) (d : Declared) (n : ℕ) (old new : Option (List ℕ)) → n ≡ types_counted d → DidLast (count_line (codes "types ") n ∷ []) r old new → DidLast (count_line (codes "types ") (types_counted d) ∷ []) r old new
types_line r d n old new is put = subst (λ (m : ℕ). DidLast (count_line (codes "types ") m ∷ []) r old new) is put

abbrev types_alone : Declared → List (List ℕ)
types_alone d = count_line (codes "types ") (types_counted d) ∷ []

abbrev but_elements : Declared → List (List ℕ)
but_elements d = count_line (codes "attributes ") (attributes_counted d) ∷ types_alone d

pub counts_first : (h : Halt) (d : Declared) (n : ℕ) (old new : Option (List ℕ)) → n ≡ elements_counted d → DidLast (count_line (codes "elements ") n ∷ []) (Err h) old new → DidLines (count_lines d) (Err h) old new
counts_first h d n old new is put = line_first h (count_line (codes "elements ") (elements_counted d)) (but_elements d) old new (elements_line (Err h) d n old new is put)

pub counts_second : (h : Halt) (d : Declared) (n m : ℕ) (old mid new : Option (List ℕ)) → n ≡ elements_counted d → m ≡ attributes_counted d → DidLast (count_line (codes "elements ") n ∷ []) (Ok tt) old mid → DidLast (count_line (codes "attributes ") m ∷ []) (Err h) mid new → DidLines (count_lines d) (Err h) old new
counts_second h d n m old mid new is also one two =
    lines_err h (count_line (codes "elements ") (elements_counted d)) (but_elements d) old mid new (elements_line (Ok tt) d n old mid is one)
    (line_first h (count_line (codes "attributes ") (attributes_counted d)) (types_alone d) mid new (attributes_line (Err h) d m mid new also two))

pub counts_third : (r : Result (Unit {0}) Halt) (d : Declared) (n m k : ℕ) (old mid far new : Option (List ℕ)) → n ≡ elements_counted d → m ≡ attributes_counted d → k ≡ types_counted d → DidLast (count_line (codes "elements ") n ∷ []) (Ok tt) old mid → DidLast (count_line (codes "attributes ") m ∷ []) (Ok tt) mid far → DidLast (count_line (codes "types ") k ∷ []) r far new → DidLines (count_lines d) r old new
counts_third r d n m k old mid far new is also last one two three =
    lines_then r (count_line (codes "elements ") (elements_counted d)) (but_elements d) old mid new (elements_line (Ok tt) d n old mid is one)
    (lines_then r (count_line (codes "attributes ") (attributes_counted d)) (types_alone d) mid far new (attributes_line (Ok tt) d m mid far also two)
    (last_line r (count_line (codes "types ") (types_counted d)) far new (types_line r d k far new last three)))

-- ---- the names asked
pub asked_none : (old : Option (List (List ℕ))) (name : List ℕ) → GrowsByFront old (name ∷ []) old
asked_none old name = ([], name ∷ [], refl, grows_none old)

-- of two
pub asked_two : (old mid new : Option (List (List ℕ))) (one two : List ℕ) → Grows old (one ∷ []) mid → GrowsByFront mid (two ∷ []) new → GrowsByFront old (one ∷ two ∷ []) new
asked_two old mid new one two g (front, rest, is, h) = (one ∷ front, rest, ap (λ (t : List (List ℕ)). one ∷ t) is, grows_more old mid new (one ∷ []) front g h)

pub asked_first : (old mid : Option (List (List ℕ))) (one two : List ℕ) → GrowsByFront old (one ∷ []) mid → GrowsByFront old (one ∷ two ∷ []) mid
asked_first old mid one two (front, rest, is, h) = (front, rest ++ two ∷ [], ap (λ (t : List (List ℕ)). t ++ two ∷ []) is ∙ append_assoc front rest (two ∷ []), h)

pub asked_one : (old new : Option (List (List ℕ))) (name : List ℕ) → Grows old (name ∷ []) new → GrowsByFront old (name ∷ []) new
asked_one old new name g = (name ∷ [], [], sym (append-nil (name ∷ [])), g)

pub asked_nothing : (old : Option (List (List ℕ))) → GrowsByFront old [] old
asked_nothing old = ([], [], refl, grows_none old)
