-- The headline, by what was answered.
use Rattle.std.proofs.Common.{◌≡◌, ◌≢◌, ◌≤◌, ◌⊎◌, ℕ, List, [], ◌∷◌, ◌++◌, Option, Some, None, Result, Ok, Err, inl, inr, length, refl, sym, ap, ◌∙◌, subst}
use Rattle.std.specs.Prelude.{IfSome, ◌↔◌}
use Rattle.std.proofs.lemmas.List.{append-nil}
use Rattle.exi_gram.specs.Outlines.{Outline}
use Rattle.exi_names.specs.Events.{Grows}
use Rattle.exi_ports.specs.Ports.{file_at}
use Rattle.exi_run.proofs.Answering.{AreDone, AreFound, IsPut, long_within, put_or}
use Rattle.exi_run.proofs.Owing.{text-whole, told-said}
use Rattle.exi_run.proofs.Writable.{both_so}
use Rattle.exi_run.specs.Answers.{Answered, AnsweredBy, AreWithin, GrowsByFront, GrowsByLines, IsAnswered, IsKnown, IsWithin, OfBoth, OfFile, OfStream, OfWriting, Stands, StandsFor, no_memory}
use Rattle.exi_run.specs.Backs.{IsSound, WrittenIsRead}
use Rattle.exi_run.specs.Dues.{Due, Files, Owed, OwedBy, OwedFrom, OwedInformed, OwedOf, OwedOfFiles, OwedOfStream, OwedOfText, all_pieces, basis_by, failed, found, long, most_bytes, refusal_due, text_due, text_of, whole_due}
use Rattle.exi_run.specs.Endings.{status_of}
use Rattle.exi_run.specs.Headline.{IsInOrder, IsShort, ReadsAsProcessed, WritesAsDerived, WritesIfTold, event_lines, whole_text}
use Rattle.exi_run.specs.Refusals.{unwritten_line}
use Rattle.exi_run.specs.Statuses.{breaks}
use Rattle.exi_run.specs.Tasks.{IsReady, IsReadyIf, Need, Task, Terms, counting, needs, stream, with_document, writing}
use Rattle.exi_run.specs.Wishes.{Wish, stream_of, written_for}
use Rattle.exi_run.specs.Writable.{IsUnwritable, IsWritable, RefusedIsUnwritable, WrittenIsWritable}
use Rattle.exi_run.specs.declared.form.Form.{Form}
use Rattle.exi_run.specs.declared.form.Form.TheVariants as form
use Rattle.exi_run.specs.declared.halt.Refusal.TheVariants as refusal
use Rattle.exi_run.specs.declared.halt.Role.TheVariants as role
use Rattle.exi_run.specs.declared.status.Status.{Status}
use Rattle.exi_run.specs.declared.status.Status.TheVariants as status
use Rattle.exi_run.specs.declared.unwritten.Unwritten.{Unwritten}
use Rattle.exi_writing.specs.Runs.{Run}
use Rattle.xsd_file.specs.Documents.{IsDocument}
use Rattle.xsd_file.specs.Laws.{OneDocument}
use Rattle.xsd_file.specs.Words.{Known}
use Rattle.xsd_file.specs.declared.refusal.SchemaRefusal.{SchemaRefusal}

-- ---- all files are found
all_found : (held : Files) (rose : Type 0) (ns : List Need) (rest : List (List ℕ) → Type 0) (due : Due) → AreWithin held ns → (rose → ⊥) → OwedFrom (Some held) rose ns rest due → AreDone (Some held) ns rest
all_found held rose [] rest due within still owed = ([], tt, owed)
all_found held rose (n ∷ ns) rest due within still (found b, had, owed) =
    let more = all_found held rose ns (λ bs. rest (b ∷ bs)) due within.1 still owed in
    (b ∷ more.0, (had, more.1), more.2)
all_found held rose (n ∷ ns) rest due within still (long, had, is) = absurd (long_within (file_at held n.name) within.0 had)
all_found held rose (n ∷ ns) rest due within still (failed, inl fell, is) = absurd (still fell)
all_found held rose (n ∷ ns) rest due within still (failed, inr absent, is) = absurd (subst IsWithin absent within.0)

-- ---- what is owed by the bytes that are there
abbrev some_bytes : List ℕ → Option (List ℕ)
some_bytes b = Some b

same_bytes : (a b : List ℕ) → some_bytes a ≡ some_bytes b → a ≡ b
same_bytes a b e = cc

abbrev answer : Result Known SchemaRefusal → Result Known SchemaRefusal
answer q = q

same_known : (j k : Known) → answer (Ok j) ≡ answer (Ok k) → j ≡ k
same_known j k e = cc

of_file : (P : List ℕ → Type 0) (file : Option (List ℕ)) → ((b : List ℕ) → file ≡ Some b → P b) → IfSome file P
of_file P None all = tt
of_file P (Some b) all = all b refl

module _ (owed : Option Outline → List ℕ → Due → Type 0) (due : Due) where
  informed : (bytes : List ℕ) (known : Option Outline) (k : Known) (q : Result Known SchemaRefusal) → q ≡ Ok k → known ≡ Some k.schema → OwedInformed owed q bytes due → owed known bytes due
  informed bytes known k (Ok j) is by o =
      let same = same_known j k is in
      subst (λ (x : Option Outline). owed x bytes due) (ap (λ (x : Known). Some x.schema) same ∙ sym by) o
  informed bytes known k (Err why) is by o = absurd cc

  alone : (held : Files) (name bytes : List ℕ) (known : Option Outline) (bs : List (List ℕ)) → known ≡ None → file_at held name ≡ Some bytes → AreFound (Some held) (with_document None (record { name = name; role = role.Input } ∷ [])) bs → OwedOfFiles owed None bs due → owed known bytes due
  alone held name bytes known [] is at are o = absurd are
  alone held name bytes known (b ∷ bs) is at are o =
      let same = same_bytes b bytes (sym are.0.0 ∙ at) in
      subst (λ (x : Option Outline). owed x bytes due) (sym is) (subst (λ (x : List ℕ). owed None x due) same o)

  beside : OneDocument → (held : Files) (schema name document bytes : List ℕ) (known : Option Outline) (bs : List (List ℕ)) → IsKnown (Some document) known → file_at held schema ≡ Some document → file_at held name ≡ Some bytes → AreFound (Some held) (with_document (Some schema) (record { name = name; role = role.Input } ∷ [])) bs → OwedOfFiles owed (Some schema) bs due → owed known bytes due
  beside one held schema name document bytes known [] by there at are o = absurd are
  beside one held schema name document bytes known (d ∷ []) by there at are o = absurd o
  beside one held schema name document bytes known (d ∷ b ∷ bs) (k, made, is) there at are (q, told, o) =
      let same = same_bytes b bytes (sym are.1.0.0 ∙ at) in
      let same_document = same_bytes d document (sym are.0.0 ∙ there) in
      let made_by : IsDocument document q = subst (λ (x : List ℕ). IsDocument x q) same_document told in
      let known_by = one document q (Ok k) made_by made in
      informed bytes known k q known_by is (subst (λ (x : List ℕ). OwedInformed owed q x due) same o)

  module _ (one : OneDocument) (held : Files) (rose : Type 0) where
    in_order : (d : Option (List ℕ)) (name : List ℕ) → OwedFrom (Some held) rose (with_document d (record { name = name; role = role.Input } ∷ [])) (λ bs. OwedOfFiles owed d bs due) due → OfBoth d name (Some held) (λ document bytes. (known : Option Outline) → IsInOrder rose document bytes known → owed known bytes due)
    in_order None name from =
        of_file (λ bytes. (known : Option Outline) → IsInOrder rose None bytes known → owed known bytes due) (file_at held name)
        (λ bytes at known order.
        let got = all_found held rose (with_document None (record { name = name; role = role.Input } ∷ [])) (λ bs. OwedOfFiles owed None bs due) due (subst IsWithin (sym at) order.short, tt) order.still from in
        alone held name bytes known got.0 order.accepted at got.1 got.2)
    in_order (Some schema) name from =
        of_file (λ document. IfSome (file_at held name) (λ bytes. (known : Option Outline) → IsInOrder rose (Some document) bytes known → owed known bytes due)) (file_at held schema)
        (λ document there. of_file (λ bytes. (known : Option Outline) → IsInOrder rose (Some document) bytes known → owed known bytes due) (file_at held name)
        (λ bytes at known order.
        let got = all_found held rose (with_document (Some schema) (record { name = name; role = role.Input } ∷ [])) (λ bs. OwedOfFiles owed (Some schema) bs due) due (subst IsWithin (sym there) order.document_short, (subst IsWithin (sym at) order.short, tt)) order.still from in
        beside one held schema name document bytes known got.0 order.accepted there at got.1 got.2))

-- where the files are not told there is nothing to say
nothing : (name : List ℕ) (d : Option (List ℕ)) (P : Option (List ℕ) → List ℕ → Type 0) → OfBoth d name None P
nothing name None P = tt
nothing name (Some schema) P = tt

some_so : (P Q : List ℕ → Type 0) (file : Option (List ℕ)) → ((x : List ℕ) → P x → Q x) → IfSome file P → IfSome file Q
some_so P Q None all h = tt
some_so P Q (Some x) all h = all x h

-- the same, beside another fact of the file
beside_so : (P Q R : List ℕ → Type 0) (C : Type 0) (file : Option (List ℕ)) → (C → IfSome file R) → ((x : List ℕ) → (C → R x) → P x → Q x) → IfSome file P → IfSome file Q
beside_so P Q R C None other all h = tt
beside_so P Q R C (Some x) other all h = all x other h

-- ---- reading
module _ (due : Due) (s : Status) (old new : Option (List ℕ)) (text : List ℕ) (is : text_of (all_pieces due) ≡ text) where
  told_of : IsPut s due old new ⊎ ((s ≡ status.WriteFault) ⊎ (s ≡ status.NoMemory)) → s ≢ status.WriteFault → s ≢ status.NoMemory → (s ≡ due.status) × Grows old text new
  told_of (inl p) no_fault no_want = (sym p.0, subst (λ (t : List ℕ). Grows old t new) is p.1)
  told_of (inr (inl fault)) no_fault no_want = absurd (no_fault fault)
  told_of (inr (inr want)) no_fault no_want = absurd (no_want want)

  broke_of : AnsweredBy breaks due status.WriteFault old new → GrowsByFront old text new ⊎ ((front rest : List ℕ) × (no_memory ≡ front ++ rest) × GrowsByLines old due.lines front new)
  broke_of (inl g) = inl (subst (λ (t : List ℕ). GrowsByFront old t new) is g)
  broke_of (inr g) = inr g

read_answer : (o : Terms) (known : Option Outline) (bytes : List ℕ) (due : Due) (s : Status) (old new : Option (List ℕ)) → OwedOf form.Text (basis_by o known) bytes due → Answered due s old new → ReadsAsProcessed o known bytes s old new
read_answer o known bytes due s old new (es, e, w, is) a =
    let whole = whole_due form.Text es e in
    let text : text_of (all_pieces whole) ≡ whole_text es e = text-whole form.Text es e ∙ told-said form.Text es e in
    let b : Answered whole s old new = subst (λ (d : Due). Answered d s old new) is a in
    record {
      events = es;
      end = e;
      whole = w;
      told = told_of whole s old new (whole_text es e) text (put_or s whole old new b);
      broke = λ st. broke_of whole s old new (whole_text es e) text (subst (λ (x : Status). Answered whole x old new) st b);
      starved = λ st. subst (λ (x : Status). Answered whole x old new) st b;
    }

pub headline_reads : OneDocument → (t : Option Task) (files : Option Files) (rose : Type 0) (s : Status) (old new : Option (List ℕ)) → IsAnswered t files rose s old new → OfStream form.Text t files (λ o document bytes. (known : Option Outline) → IsInOrder rose document bytes known → ReadsAsProcessed o known bytes s old new)
headline_reads one None files rose s old new a = tt
headline_reads one (Some (writing name w)) files rose s old new a = tt
headline_reads one (Some (counting name)) files rose s old new a = tt
headline_reads one (Some (stream form.Text name o)) None rose s old new a = λ is. nothing name o.document (λ document bytes. (known : Option Outline) → IsInOrder rose document bytes known → ReadsAsProcessed o known bytes s old new)
headline_reads one (Some (stream form.Starts name o)) files rose s old new a = λ is. absurd cc
headline_reads one (Some (stream form.Text name o)) (Some held) rose s old new (due, owed, a) = λ is.
    both_so
    (λ document bytes. (known : Option Outline) → IsInOrder rose document bytes known → OwedOfStream form.Text o known bytes due)
    (λ document bytes. (known : Option Outline) → IsInOrder rose document bytes known → ReadsAsProcessed o known bytes s old new)
    o.document name (Some held)
    (λ document bytes h known order. read_answer o known bytes due s old new (h known order) a)
    (in_order (OwedOfStream form.Text o) due one held rose o.document name owed)

-- ---- writing
module _ (written : WrittenIsWritable) (refused : RefusedIsUnwritable) (back : WrittenIsRead) where
  write_put : (w : Wish) (name : List ℕ) (known : Option Outline) (text : List ℕ) (due : Due) (s : Status) (old new : Option (List ℕ)) (q : Result Run Unwritten) → IsReady (writing name w) → (s ≡ status.Ok → IsSound known) → written_for w known text ≡ q → due ≡ text_due w q → IsPut s due old new → WritesAsDerived w known text s old new
  write_put w name known text due s old new (Ok r) ready sound is owed p =
      let ok : s ≡ status.Ok = sym p.0 ∙ ap (λ (x : Due). x.status) owed in
      let grows : Grows old (stream_of w r) new = subst (λ (t : List ℕ). Grows old t new) (ap (λ (x : Due). text_of (all_pieces x)) owed ∙ append-nil (stream_of w r)) p.1 in
      record {
        exactly = (λ _. written w known text r is, λ _. ok);
        stream = λ _. (r, is, grows, back w name text known ready (sound ok) r is);
        none = λ other. absurd (other ok);
      }
  write_put w name known text due s old new (Err why) ready sound is owed p =
      let events : s ≡ status.Events = sym p.0 ∙ ap (λ (x : Due). x.status) owed in
      let grows : Grows old (unwritten_line why) new = subst (λ (t : List ℕ). Grows old t new) (ap (λ (x : Due). text_of (all_pieces x)) owed ∙ append-nil (unwritten_line why)) p.1 in
      let never = refused w known text why is in
      record {
        exactly = (λ ok. let x : status.Events ≡ status.Ok = sym events ∙ ok in absurd cc, λ can. absurd (never.never can));
        stream = λ ok. let x : status.Events ≡ status.Ok = sym events ∙ ok in absurd cc;
        none = λ _. (events, (why, never, grows));
      }

  write_answer : (w : Wish) (name : List ℕ) (known : Option Outline) (text : List ℕ) (due : Due) (s : Status) (old new : Option (List ℕ)) → IsReady (writing name w) → (s ≡ status.Ok → IsSound known) → OwedOfText w known text due → IsPut s due old new ⊎ ((s ≡ status.WriteFault) ⊎ (s ≡ status.NoMemory)) → WritesIfTold w known text s old new
  write_answer w name known text due s old new ready sound owed (inl p) = λ no_fault no_want. write_put w name known text due s old new (written_for w known text) ready sound refl owed p
  write_answer w name known text due s old new ready sound owed (inr (inl fault)) = λ no_fault no_want. absurd (no_fault fault)
  write_answer w name known text due s old new ready sound owed (inr (inr want)) = λ no_fault no_want. absurd (no_want want)

  -- the grammars of a schema that is known fit together where there was memory for them
  sound_of : (document : List ℕ) (known : Option Outline) → IsKnown (Some document) known → Stands document → IsSound known
  sound_of document known (k, made, is) stood = subst IsSound (sym is) (stood k made)

  write_files : OneDocument → (w : Wish) (name : List ℕ) (held : Files) (rose : Type 0) (due : Due) (s : Status) (old new : Option (List ℕ)) (d : Option (List ℕ)) → IsReady (writing name w) → (s ≡ status.Ok → OfFile d (Some held) Stands) → Answered due s old new → OwedFrom (Some held) rose (with_document d (record { name = name; role = role.Input } ∷ [])) (λ bs. OwedOfFiles (OwedOfText w) d bs due) due → OfBoth d name (Some held) (λ document text. (known : Option Outline) → IsInOrder rose document text known → WritesIfTold w known text s old new)
  write_files one w name held rose due s old new None ready stands a owed =
      some_so
      (λ text. (known : Option Outline) → IsInOrder rose None text known → OwedOfText w known text due)
      (λ text. (known : Option Outline) → IsInOrder rose None text known → WritesIfTold w known text s old new)
      (file_at held name)
      (λ text h known order. write_answer w name known text due s old new ready (λ ok. subst IsSound (sym order.accepted) tt) (h known order) (put_or s due old new a))
      (in_order (OwedOfText w) due one held rose None name owed)
  write_files one w name held rose due s old new (Some schema) ready stands a owed =
      beside_so
      (λ document. IfSome (file_at held name) (λ text. (known : Option Outline) → IsInOrder rose (Some document) text known → OwedOfText w known text due))
      (λ document. IfSome (file_at held name) (λ text. (known : Option Outline) → IsInOrder rose (Some document) text known → WritesIfTold w known text s old new))
      Stands (s ≡ status.Ok) (file_at held schema) stands
      (λ document stood owing. some_so
      (λ text. (known : Option Outline) → IsInOrder rose (Some document) text known → OwedOfText w known text due)
      (λ text. (known : Option Outline) → IsInOrder rose (Some document) text known → WritesIfTold w known text s old new)
      (file_at held name)
      (λ text h known order. write_answer w name known text due s old new ready (λ ok. sound_of document known order.accepted (stood ok)) (h known order) (put_or s due old new a))
      owing)
      (in_order (OwedOfText w) due one held rose (Some schema) name owed)

  pub headline_writes : OneDocument → (t : Option Task) (files : Option Files) (rose : Type 0) (s : Status) (old new : Option (List ℕ)) → IsReadyIf t → (s ≡ status.Ok → StandsFor t files) → IsAnswered t files rose s old new → OfWriting t files (λ w document text. (known : Option Outline) → IsInOrder rose document text known → WritesIfTold w known text s old new)
  headline_writes one None files rose s old new ready stands a = tt
  headline_writes one (Some (stream f name o)) files rose s old new ready stands a = tt
  headline_writes one (Some (counting name)) files rose s old new ready stands a = tt
  headline_writes one (Some (writing name w)) None rose s old new ready stands a = nothing name w.document (λ document text. (known : Option Outline) → IsInOrder rose document text known → WritesIfTold w known text s old new)
  headline_writes one (Some (writing name w)) (Some held) rose s old new ready stands (due, owed, a) = write_files one w name held rose due s old new w.document ready (λ ok. stands ok tt) a owed
