-- The laws of reading a schema document.
use Rattle.std.specs.Prelude.{◌≡◌, ℕ, List, Result}
use Rattle.xsd_file.specs.Documents.{IsDocument}
use Rattle.xsd_file.specs.declared.refusal.SchemaRefusal.{SchemaRefusal}
use Rattle.xsd_known.specs.Knowing.{Known}

abbrev pub ADocumentIsThere : Type 0
ADocumentIsThere = (bytes : List ℕ) → (found : Result Known SchemaRefusal) × IsDocument bytes found

abbrev pub OneDocument : Type 0
OneDocument = (bytes : List ℕ) (one another : Result Known SchemaRefusal) → IsDocument bytes one → IsDocument bytes another → one ≡ another
