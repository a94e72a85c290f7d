-- The grammar of an element of which only the name is known: in a fragment, where its declarations differ (EXI 1.0, section
-- 8.5.3, Element Fragment).
use Rattle.std.specs.Prelude.{ℕ, Option, Some, None, List, [], ◌∷◌, ◌++◌, map, slice_get, if◌then◌else◌}
use Rattle.std.specs.List.{flat_map}
use Rattle.exi_names.specs.Datatypes.{text}
use Rattle.exi_names.specs.declared.names.QName.{QName}
use Rattle.exi_gram.specs.Terminals.{Rule, Rules, at, at_any, ch_text, ee, se, se_any}
use Rattle.exi_gram.specs.Wholes.{plain}
use Rattle.xsd_model.specs.declared.parts.AttributeDecl.{AttributeDecl}
use Rattle.xsd_model.specs.declared.parts.ElementDecl.{ElementDecl}
use Rattle.xsd_model.specs.Parts.{Parts}
use Rattle.exi_proto.specs.Protos.{representation_of}
use Rattle.exi_vocabulary.specs.Vocabulary.{all_alike, all_of_type, attribute_name, element_name, names_in_order}

-- the elements of a fragment: each name that is declared anywhere, with the place of its grammar: the place of its first
-- declaration's, where all of the name open one grammar, or else this
abbrev pub element_entry : Parts → (ℕ → ℕ) → ℕ → ℕ → List (QName × ℕ)
element_entry p grammar_at otherwise place = of_declaration (slice_get p.elements place)
  where
    of_declaration : Option ElementDecl → List (QName × ℕ)
    of_declaration None = []
    of_declaration (Some e) = (e.name, if all_alike e p.elements then grammar_at place else otherwise) ∷ []

abbrev pub fragment_elements : Parts → (ℕ → ℕ) → ℕ → List (QName × ℕ)
fragment_elements p grammar_at otherwise = flat_map (element_entry p grammar_at otherwise) (names_in_order (map element_name p.elements))

-- AT of each name that is declared anywhere, with the type of its declarations, where all have the same, or else as text
abbrev pub attribute_rule : Parts → ℕ → List Rule
attribute_rule p place = of_declaration (slice_get p.attributes place)
  where
    of_declaration : Option AttributeDecl → List Rule
    of_declaration None = []
    of_declaration (Some a) = plain (at a.name (if all_of_type a p.attributes then representation_of p a.of else text)) 0 ∷ []

abbrev pub attribute_rules : Parts → List Rule
attribute_rules p = flat_map (attribute_rule p) (names_in_order (map attribute_name p.attributes))

abbrev pub element_rules : List (QName × ℕ) → List Rule
element_rules [] = []
element_rules (e ∷ es) = record { on = se e.0; to = 1; inner = Some e.1 } ∷ element_rules es

-- attributes and content, and then the content alone
abbrev pub fragment_content : ℕ → List (QName × ℕ) → List Rule
fragment_content state elements = element_rules elements ++ plain se_any 1 ∷ plain ee state ∷ plain ch_text 1 ∷ []

abbrev pub element_fragment : Parts → List (QName × ℕ) → Rules
element_fragment p elements = record {
  states = (attribute_rules p ++ plain at_any 0 ∷ fragment_content 0 elements) ∷ fragment_content 1 elements ∷ [];
  content = 1;
}

abbrev pub empty_fragment : Parts → Rules
empty_fragment p = record {
  states = (attribute_rules p ++ plain at_any 0 ∷ plain ee 0 ∷ []) ∷ (plain ee 1 ∷ []) ∷ [];
  content = 1;
}
