-- What the bytes of a schema document make known, once and for all.
use Rattle.std.proofs.Common.{◌≡◌, ◌≤◌, ◌+◌, ◌^◌, ℕ, List, [], ◌∷◌, ◌++◌, length, Option, Some, None, Result, Ok, Err, refl, sym, ap, ◌∙◌, subst, arith}
use Rattle.exi_bits.specs.declared.fault.Fault.{Fault}
use Rattle.exi_header.specs.declared.header.Header.{Header}
use Rattle.exi_meter.specs.Metering.{Bounds}
use Rattle.exi_names.specs.Events.{Happening}
use Rattle.exi_opening.specs.Openings.{job_of, setting_of}
use Rattle.exi_processing.proofs.Sequences.{leads_count}
use Rattle.exi_processing.specs.Laws.{ASequenceIsThere, OneSequence}
use Rattle.exi_processing.specs.Configurations.{Setting}
use Rattle.exi_processing.specs.Runs.{IsSequence, Job, events_of, first}
use Rattle.exi_processing.specs.declared.end.End.{End}
use Rattle.exi_processing.specs.declared.start.Start.{Start}
use Rattle.exi_processing.specs.declared.start.Start.TheVariants as start
use Rattle.xsd_file.specs.Documents.{Comes, IsProcessed, Reads, ReadsFrom, IsBody, IsDocument, IsDocumentFrom, by_end, document_bounds, document_header}
use Rattle.xsd_file.specs.Laws.{ADocumentIsThere, OneDocument}
use Rattle.xsd_file.specs.declared.refusal.SchemaRefusal.{SchemaRefusal}
use Rattle.xsd_file.specs.declared.refusal.SchemaRefusal.TheVariants as refusal
use Rattle.xsd_file.specs.declared.refusal.SchemaHalt.{SchemaHalt}
use Rattle.xsd_file.specs.declared.refusal.SchemaHalt.TheVariants as halt
use Rattle.xsd_known.specs.declared.known.KnownSchema.{KnownSchema}
use Rattle.xsd_known.specs.Knowing.{Known}

-- ---- there is one
processed : (j : Job) (es : List Happening) (last : End) (count : ℕ) → IsSequence j start.Body document_bounds es last count → IsProcessed j es last
unfolding IsProcessed
processed j es last count s = (count, s)

body_there : ASequenceIsThere → (j : Job) → (found : Result Known SchemaRefusal) × IsBody j found
body_there there j =
    let s = there j start.Body document_bounds in
    (by_end s.0 s.1, (s.0, s.1, processed j s.0 s.1 s.2 s.3, refl))

there_from : ASequenceIsThere → (bytes : List ℕ) (r : Result Header Fault) → (found : Result Known SchemaRefusal) × IsDocumentFrom bytes r found
there_from there bytes (Ok h) = body_there there (job_of bytes h)
there_from there bytes (Err f) = (Err (refusal.Stream f), refl)

pub document_there : ASequenceIsThere → ADocumentIsThere
document_there there bytes = there_from there bytes (document_header bytes)

-- ---- and no other
one_processed : OneSequence → (j : Job) (es fs : List Happening) (last end : End) → IsProcessed j es last → IsProcessed j fs end → (es ≡ fs) × (last ≡ end)
unfolding IsProcessed
one_processed only j es fs last end (m, p) (n, q) =
    let same = only j start.Body document_bounds es fs last end m n p q in
    (same.0, same.1)

one_body : OneSequence → (j : Job) (one another : Result Known SchemaRefusal) → IsBody j one → IsBody j another → one ≡ another
one_body only j one another (es, last, p, is) (fs, end, q, e) =
    let same = one_processed only j es fs last end p q in
    is ∙ ap (λ (x : List Happening). by_end x last) same.0 ∙ ap (λ (x : End). by_end fs x) same.1 ∙ sym e

one_from : OneSequence → (bytes : List ℕ) (r : Result Header Fault) (one another : Result Known SchemaRefusal) → IsDocumentFrom bytes r one → IsDocumentFrom bytes r another → one ≡ another
one_from only bytes (Ok h) one another p q = one_body only (job_of bytes h) one another p q
one_from only bytes (Err f) one another p q = p ∙ sym q

pub only_document : OneSequence → OneDocument
only_document only bytes = one_from only bytes (document_header bytes)

-- ---- few events
one_more : (before : List (Option Happening)) (x : Option Happening) → length (events_of (before ++ x ∷ [])) ≤ length (events_of before) + 1
one_more [] None = omega arith
one_more [] (Some e) = omega arith
one_more (None ∷ before) x = one_more before x
one_more (Some e ∷ before) x = omega (arith, one_more before x)

pub few_events : (j : Job) (s : Start) (limits : Bounds) (es : List Happening) (e : End) (count : ℕ) → IsSequence j s limits es e count → length es ≤ limits.events + 1
few_events j s limits es e count p =
    let before : List (Option Happening) = p.1.before in
    let n = leads_count j.setting j.bytes (first j s limits) p.1.reached before p.1.leads (omega arith) in
    let all : length es ≡ length (events_of (before ++ p.1.event ∷ [])) = ap (λ (z : List Happening). length z) p.2 ∙ ap (λ (z : List (Option Happening)). length (events_of z)) p.1.all in
    omega (arith, n.0, all, one_more before p.1.event)

pub few_processed : (j : Job) (es : List Happening) (last : End) → IsProcessed j es last → length es ≤ 2 ^ 28
unfolding IsProcessed
few_processed j es last (count, p) = omega (arith, few_events j start.Body document_bounds es last count p)

-- ---- what a call answers
pub comes_from : (j : Job) (es : List Happening) (last : End) (r : Result KnownSchema SchemaHalt) → IsProcessed j es last → Comes es last r → ReadsFrom j r
comes_from j es last (Ok found) p c = (es, last, p, sym c)
comes_from j es last (Err (halt.Refused why)) p c = (es, last, p, sym c)
comes_from j es last (Err halt.Memory) p c = tt

-- what a body makes known is what the document does whose header stands before it
document_from : (bytes : List ℕ) (h : Header) (s : Setting) (found : Result Known SchemaRefusal) → document_header bytes ≡ Ok h → s ≡ setting_of h.options → IsBody (record { setting = s; bytes = bytes; body = h.body }) found → IsDocument bytes found
document_from bytes h s found is same b =
    subst (λ (d : Result Header Fault). IsDocumentFrom bytes d found) (sym is)
    (subst (λ (z : Setting). IsBody (record { setting = z; bytes = bytes; body = h.body }) found) same b)

pub reads_behind : (bytes : List ℕ) (h : Header) (s : Setting) (r : Result KnownSchema SchemaHalt) → document_header bytes ≡ Ok h → s ≡ setting_of h.options → ReadsFrom (record { setting = s; bytes = bytes; body = h.body }) r → Reads bytes r
reads_behind bytes h s (Ok found) is same b = document_from bytes h s _ is same b
reads_behind bytes h s (Err (halt.Refused why)) is same b = document_from bytes h s _ is same b
reads_behind bytes h s (Err halt.Memory) is same b = tt
