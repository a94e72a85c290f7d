-- Entries of a schema, by lists that tell what they have of each place.
use Rattle.std.specs.Prelude.{ℕ, ◌+◌, Bool, false, Option, Some, None, List, [], ◌∷◌, slice_get, get_or, if◌then◌else◌}
use Rattle.exi_names.specs.declared.names.QName.{QName}
use Rattle.exi_gram.specs.declared.entry.ElementEntry.{ElementEntry}
use Rattle.xsd_model.specs.declared.parts.ElementDecl.{ElementDecl}

-- the name of an element and the grammar that it opens
abbrev pub opened_as : ElementEntry → QName × ℕ
opened_as e = (e.name, e.full)

-- the entry of an element whose grammar stands at a place
abbrev pub element_entry_at : ℕ → ElementDecl → ElementEntry
element_entry_at full e = record { name = e.name; full = full; empty = full + 1; nillable = e.nillable }

abbrev pub entries_at : List ElementDecl → List ℕ → ℕ → List ElementEntry
entries_at elements grammars place = of_declaration (slice_get elements place)
  where
    of_declaration : Option ElementDecl → List ElementEntry
    of_declaration None = []
    of_declaration (Some e) = element_entry_at (get_or grammars place 0) e ∷ []

abbrev pub named_at : List ElementDecl → List ℕ → List Bool → ℕ → ℕ → List (QName × ℕ)
named_at elements grammars agree otherwise place = of_declaration (slice_get elements place)
  where
    of_declaration : Option ElementDecl → List (QName × ℕ)
    of_declaration None = []
    of_declaration (Some e) = (e.name, if get_or agree place false then get_or grammars place 0 else otherwise) ∷ []
