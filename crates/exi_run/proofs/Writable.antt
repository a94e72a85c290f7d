-- A text is written exactly where it can be: by the laws of what can be written whatever limits there are.
use Rattle.std.proofs.Common.{◌≡◌, ℕ, true, false, List, length, Option, Some, None, refl, sym, ap, ◌∙◌, subst}
use Rattle.std.specs.Prelude.{IfSome, Result, Ok, Err}
use Rattle.exi_derived.specs.Laws.{RefusedIsUnmatched, WrittenExactly, is_written, passes_limit}
use Rattle.exi_evtext.specs.Parsing.{events_in}
use Rattle.exi_gram.specs.Outlines.{Outline}
use Rattle.exi_meter.specs.Metering.{stream_bounds}
use Rattle.exi_names.specs.Events.{Happening}
use Rattle.exi_ports.specs.Ports.{file_at}
use Rattle.exi_run.proofs.Answering.{writes, writes_none}
use Rattle.exi_run.specs.Answers.{IsAnswered, OfBoth, OfWriting, Writes, WritesNone}
use Rattle.exi_run.specs.Dues.{Files}
use Rattle.exi_run.specs.Tasks.{Task, counting, stream, writing}
use Rattle.exi_run.specs.Wishes.{Wish, body_by, head_bits, run_or_why, setting_for, why_at, written_for}
use Rattle.exi_run.specs.Writable.{CanBeWritten, CanNotBeWritten, IsReason, IsUnwritable, IsWritable, RefusedIsUnwritable, WrittenIsWritable}
use Rattle.exi_run.specs.declared.status.Status.{Status}
use Rattle.exi_run.specs.declared.status.Status.TheVariants as status
use Rattle.exi_run.specs.declared.unwritten.Unwritten.{Unwritten}
use Rattle.exi_run.specs.declared.unwritten.Unwritten.TheVariants as unwritten
use Rattle.exi_writing.specs.OneEvent.{Refused, limit, not_derived}
use Rattle.exi_writing.specs.Runs.{Refusal, Run, body}

-- ---- the laws
abbrev answer : Result (List Happening) ℕ → Result (List Happening) ℕ
answer q = q

abbrev or_why : Unwritten → Result Run Unwritten
or_why why = Err why

why_is : (a b : Unwritten) → or_why a ≡ or_why b → a ≡ b
why_is a b e = cc

module _ (w : Wish) (known : Option Outline) (text : List ℕ) where
  abbrev written_of : List Happening → Result Run Refusal
  written_of es = body (setting_for w known) (length (head_bits w)) stream_bounds es

  module _ (exact : WrittenExactly) where
    list_writable : (es : List Happening) (o : Result Run Refusal) (r : Run) → events_in text ≡ Ok es → written_of es ≡ o → run_or_why o ≡ Ok r → IsWritable w known text
    list_writable es (Ok s) r said is h = record {
      events = es;
      said = said;
      derives = ((exact (setting_for w known) (length (head_bits w)) stream_bounds es).0 (ap is_written is)).0;
      within = ap passes_limit is;
    }
    list_writable es (Err e) r said is h = absurd cc

    text_writable : (q : Result (List Happening) ℕ) (r : Run) → events_in text ≡ q → body_by w known q ≡ Ok r → IsWritable w known text
    text_writable (Ok es) r said h = list_writable es (written_of es) r said refl h
    text_writable (Err line) r said h = absurd cc

    same_events : (es fs : List Happening) → answer (Ok es) ≡ answer (Ok fs) → es ≡ fs
    same_events es fs e = cc

    never_so : (es : List Happening) (e : Refusal) → events_in text ≡ Ok es → written_of es ≡ Err e → IsWritable w known text → ⊥
    never_so es e said is k =
        let same : k.events ≡ es = same_events k.events es (sym k.said ∙ said) in
        let written : is_written (written_of k.events) ≡ true = (exact (setting_for w known) (length (head_bits w)) stream_bounds k.events).1 (k.derives, k.within) in
        let not : is_written (written_of k.events) ≡ false = ap (λ (x : List Happening). is_written (written_of x)) same ∙ ap is_written is in
        let f = sym written ∙ not in
        absurd cc

    module _ (first : RefusedIsUnmatched) where
      reason_of : (es : List Happening) (event : ℕ) (why : Refused) → events_in text ≡ Ok es → written_of es ≡ Err (record { event = event; why = why }) → IsReason w known text (why_at event why)
      reason_of es event not_derived said is = (es, said, first (setting_for w known) (length (head_bits w)) stream_bounds es event is)
      reason_of es event (limit kind m) said is = (es, said, ap passes_limit is)

      list_unwritable : (es : List Happening) (o : Result Run Refusal) (why : Unwritten) → events_in text ≡ Ok es → written_of es ≡ o → run_or_why o ≡ Err why → IsUnwritable w known text why
      list_unwritable es (Ok s) why said is h = absurd cc
      list_unwritable es (Err e) why said is h = subst (IsUnwritable w known text) (why_is (why_at e.event e.why) why h) record { reason = reason_of es e.event e.why said is; never = never_so es e said is }

      no_list : (line : ℕ) → events_in text ≡ Err line → IsWritable w known text → ⊥
      no_list line said k = let f = sym said ∙ k.said in absurd cc

      text_unwritable : (q : Result (List Happening) ℕ) (why : Unwritten) → events_in text ≡ q → body_by w known q ≡ Err why → IsUnwritable w known text why
      text_unwritable (Ok es) why said h = list_unwritable es (written_of es) why said refl h
      text_unwritable (Err line) why said h = subst (IsUnwritable w known text) (why_is (unwritten.Syntax line) why h) record { reason = said; never = no_list line said }

pub written_is_writable : WrittenExactly → WrittenIsWritable
unfolding written_for
written_is_writable exact w known text r h = text_writable w known text exact (events_in text) r refl h

pub refused_is_unwritable : WrittenExactly → RefusedIsUnmatched → RefusedIsUnwritable
unfolding written_for
refused_is_unwritable exact first w known text why h = text_unwritable w known text exact first (events_in text) why refl h

-- ---- of what is asked for
some_so : {X : Type 0} (P Q : X → Type 0) (o : Option X) → ((x : X) → P x → Q x) → IfSome o P → IfSome o Q
some_so {X} P Q None all h = tt
some_so {X} P Q (Some x) all h = all x h

file_so : (P Q : List ℕ → Type 0) (held : Files) (name : List ℕ) → ((x : List ℕ) → P x → Q x) → IfSome (file_at held name) P → IfSome (file_at held name) Q
file_so P Q held name all h = some_so P Q (file_at held name) all h

pub both_so : (P Q : Option (List ℕ) → List ℕ → Type 0) (d : Option (List ℕ)) (name : List ℕ) (files : Option Files) → ((document : Option (List ℕ)) (text : List ℕ) → P document text → Q document text) → OfBoth d name files P → OfBoth d name files Q
both_so P Q None name None all h = tt
both_so P Q None name (Some held) all h = file_so (P None) (Q None) held name (all None) h
both_so P Q (Some schema) name None all h = tt
both_so P Q (Some schema) name (Some held) all h = file_so (λ x. IfSome (file_at held name) (P (Some x))) (λ x. IfSome (file_at held name) (Q (Some x))) held schema (λ x k. file_so (P (Some x)) (Q (Some x)) held name (all (Some x)) k) h

writing_so : (P Q : Wish → Option (List ℕ) → List ℕ → Type 0) (t : Option Task) (files : Option Files) → ((w : Wish) (document : Option (List ℕ)) (text : List ℕ) → P w document text → Q w document text) → OfWriting t files P → OfWriting t files Q
writing_so P Q None files all h = tt
writing_so P Q (Some (stream f name o)) files all h = tt
writing_so P Q (Some (counting name)) files all h = tt
writing_so P Q (Some (writing name w)) files all h = both_so (P w) (Q w) w.document name files (all w) h

pub derives : WrittenIsWritable → (t : Option Task) (files : Option Files) (rose : Type 0) (s : Status) (old new : Option (List ℕ)) → IsAnswered t files rose s old new → OfWriting t files (λ w document text. s ≡ status.Ok → CanBeWritten w document text)
derives law t files rose s old new a = writing_so (λ w document text. s ≡ status.Ok → Writes w old new document text) (λ w document text. s ≡ status.Ok → CanBeWritten w document text) t files
    (λ w document text h ok. let k = h ok in (k.0, k.1, law w k.0 text k.2.0 k.2.1)) (writes t files rose s old new a)

pub derives_not : RefusedIsUnwritable → (t : Option Task) (files : Option Files) (rose : Type 0) (s : Status) (old new : Option (List ℕ)) → IsAnswered t files rose s old new → OfWriting t files (λ w document text. s ≡ status.Events → CanNotBeWritten w old new document text)
derives_not law t files rose s old new a = writing_so (λ w document text. s ≡ status.Events → WritesNone w old new document text) (λ w document text. s ≡ status.Events → CanNotBeWritten w old new document text) t files
    (λ w document text h is. let k = h is in (k.0, k.1, (k.2.0, law w k.0 text k.2.0 k.2.1, k.2.2))) (writes_none t files rose s old new a)
