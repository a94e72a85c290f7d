-- What refuses a command: its line, and the status behind it.
use Rattle.std.specs.Prelude.{ℕ, List, [], ◌∷◌, ◌++◌, codes, decimal}
use Rattle.exi_run.specs.Endings.{kind_words}
use Rattle.exi_run.specs.declared.halt.Refusal.{Refusal}
use Rattle.exi_run.specs.declared.halt.Refusal.TheVariants as refusal
use Rattle.exi_run.specs.declared.halt.Role.{Role}
use Rattle.exi_run.specs.declared.halt.Role.TheVariants as role
use Rattle.exi_run.specs.declared.status.Status.{Status}
use Rattle.exi_run.specs.declared.status.Status.TheVariants as status
use Rattle.exi_run.specs.declared.unwritten.Unwritten.{Unwritten}
use Rattle.exi_run.specs.declared.unwritten.Unwritten.TheVariants as unwritten
use Rattle.xsd_file.specs.declared.refusal.SchemaRefusal.{SchemaRefusal}
use Rattle.xsd_file.specs.declared.refusal.SchemaRefusal.TheVariants as schema_refusal
use Rattle.xsd_model.specs.Words.{kind_word}

-- why an event text is not written: `Syntax` and the line, `NotDerived` and the event, or the limit and the event
abbrev pub unwritten_words : Unwritten → List ℕ
unwritten_words (unwritten.Syntax line) = codes "Syntax " ++ decimal line
unwritten_words (unwritten.NotDerived event) = codes "NotDerived " ++ decimal event
unwritten_words (unwritten.Limit event k) = kind_words k ++ 32 ∷ decimal event

unfoldable pub unwritten_line : Unwritten → List ℕ
unwritten_line why = codes "events " ++ unwritten_words why ++ 10 ∷ []

-- why a schema document is refused: `NotSchema`, the kind of its stream's fault and the bit; or the kind of the document's fault and
-- the event
abbrev pub schema_words : SchemaRefusal → List ℕ
schema_words (schema_refusal.Stream f) = codes "NotSchema " ++ kind_words f.kind ++ 32 ∷ decimal f.bit
schema_words (schema_refusal.Document f) = kind_word f.kind ++ 32 ∷ decimal f.event

unfoldable pub schema_line : SchemaRefusal → List ℕ
schema_line why = codes "schema " ++ schema_words why ++ 10 ∷ []

-- what a file is for
abbrev pub role_word : Role → List ℕ
role_word role.Schema = codes "schema"
role_word role.Hints = codes "hints"
role_word role.Input = codes "input"

-- with the line's end
abbrev pub refusal_line : Refusal → List ℕ
refusal_line refusal.Usage = codes "usage" ++ 10 ∷ []
refusal_line refusal.ReadFailed = codes "read failed" ++ 10 ∷ []
refusal_line (refusal.TooLong r) = (codes "too long " ++ role_word r) ++ 10 ∷ []
refusal_line (refusal.Events why) = unwritten_line why
refusal_line (refusal.Schema why) = schema_line why

abbrev pub refusal_status : Refusal → Status
refusal_status refusal.Usage = status.Usage
refusal_status refusal.ReadFailed = status.ReadFault
refusal_status (refusal.TooLong r) = status.TooLong
refusal_status (refusal.Events why) = status.Events
refusal_status (refusal.Schema why) = status.Schema
