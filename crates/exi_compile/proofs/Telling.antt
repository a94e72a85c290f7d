-- Entries by lists that tell what they have of each place are those of the schema.
use Rattle.std.proofs.Common.{◌≡◌, ℕ, ◌≤◌, Bool, None, List, [], ◌++◌, drop, length, map, slice_get, refl, sym, ap, ◌∙◌}
use Rattle.std.proofs.lemmas.List.{append-nil}
use Rattle.std.proofs.lemmas.Option.{slice_get_past}
use Rattle.exi_names.specs.Datatypes.{Representation}
use Rattle.exi_names.specs.declared.datatype.Datatype.{Datatype}
use Rattle.exi_names.specs.declared.names.QName.{QName}
use Rattle.exi_gram.specs.declared.entry.ElementEntry.{ElementEntry}
use Rattle.exi_gram.specs.declared.entry.TypeEntry.{TypeEntry}
use Rattle.exi_gram.specs.Outlines.{attribute_of}
use Rattle.xsd_model.specs.declared.parts.AttributeDecl.{AttributeDecl}
use Rattle.xsd_model.specs.declared.parts.ElementDecl.{ElementDecl}
use Rattle.xsd_model.specs.declared.parts.TypeDef.{TypeDef}
use Rattle.xsd_model.specs.Parts.{Parts}
use Rattle.exi_compiled.specs.Compiled.{attribute_entries, type_entries_from}
use Rattle.exi_compile.specs.Entries.{entries_at, named_at}

-- ---- global elements
at_none : (elements : List ElementDecl) (grammars : List ℕ) (place : ℕ) → slice_get elements place ≡ None → entries_at elements grammars place ≡ []
at_none elements grammars place e = rw e refl

pub no_entry : (entries : List ElementEntry) (elements : List ElementDecl) (grammars : List ℕ) (place : ℕ) → length elements ≤ place → entries ≡ entries ++ entries_at elements grammars place
no_entry entries elements grammars place past = sym (append-nil entries) ∙ ap (λ l. entries ++ l) (sym (at_none elements grammars place (slice_get_past elements place past)))

-- ---- names of elements anywhere
named_none : (elements : List ElementDecl) (grammars : List ℕ) (agree : List Bool) (other place : ℕ) → slice_get elements place ≡ None → named_at elements grammars agree other place ≡ []
named_none elements grammars agree other place e = rw e refl

pub no_name : (named : List (QName × ℕ)) (elements : List ElementDecl) (grammars : List ℕ) (agree : List Bool) (other place : ℕ) → length elements ≤ place → named ≡ named ++ named_at elements grammars agree other place
no_name named elements grammars agree other place past = sym (append-nil named) ∙ ap (λ l. named ++ l) (sym (named_none elements grammars agree other place (slice_get_past elements place past)))

-- ---- types
abbrev pub types_told : Parts → List TypeEntry → ℕ → List TypeDef → List TypeEntry
types_told p entries i ts = entries ++ type_entries_from p i (drop i ts)

-- ---- global attributes
abbrev pub attributes_told : Parts → List (QName × Datatype) → ℕ → List AttributeDecl → List (QName × Representation)
attributes_told p entries i as_ = map attribute_of entries ++ attribute_entries p (drop i as_)
