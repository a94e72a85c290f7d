-- The grammars of a whole stream, Document and Fragment (EXI 1.0, sections 8.4.1, 8.4.2, 8.5.1 and 8.5.2), before the
-- options take anything away. A schema gives them elements, each with the grammar that opens it; without one there are
-- none, and what a fragment without a schema learns stands in front.
use Rattle.std.specs.Prelude.{ℕ, false, Some, None, List, [], ◌∷◌, ◌++◌, map}
use Rattle.exi_names.specs.StartTables.{first_names}
use Rattle.exi_names.specs.declared.names.QName.{QName}
use Rattle.exi_gram.specs.Codes.{Productions, coded, group, single}
use Rattle.exi_gram.specs.Outlines.{Outline}
use Rattle.exi_gram.specs.Terminals.{Rule, Rules, Symbol, sd, ed, se, se_any, cm, pi, dt}

-- a production that opens no grammar of a schema
abbrev pub plain : Symbol → ℕ → Rule
plain on to = record { on = on; to = to; inner = None }

-- SE of an element of the schema
abbrev pub opening : ℕ → QName × ℕ → Rule
opening to element = record { on = se element.0; to = to; inner = Some element.1 }

-- Document and Fragment: SD 0
abbrev pub whole_start : Productions Rule
whole_start = record { firsts = plain sd 1 ∷ []; seconds = [] }

-- DocContent: the elements and SE(*), which lead to DocEnd; then DT n.0, CM n.1.0 and PI n.1.1, which stay
abbrev pub document_content : List (QName × ℕ) → Productions Rule
document_content elements = record {
  firsts = map (opening 2) elements ++ plain se_any 2 ∷ [];
  seconds = single (plain dt 1) ∷ group (plain cm 1 ∷ plain pi 1 ∷ []) ∷ [];
}

-- DocEnd: ED 0; CM 1.0 and PI 1.1, which stay
abbrev pub document_end : Productions Rule
document_end = record {
  firsts = plain ed 2 ∷ [];
  seconds = single (plain cm 2) ∷ single (plain pi 2) ∷ [];
}

abbrev pub document : List (QName × ℕ) → List (Productions Rule)
document elements = whole_start ∷ document_content elements ∷ document_end ∷ []

-- FragmentContent: the elements, SE(*) and ED; then CM n.0 and PI n.1. All stay
abbrev pub fragment_content : List (QName × ℕ) → Productions Rule
fragment_content elements = record {
  firsts = map (opening 1) elements ++ plain se_any 1 ∷ plain ed 1 ∷ [];
  seconds = single (plain cm 1) ∷ single (plain pi 1) ∷ [];
}

abbrev pub fragment : List (QName × ℕ) → List (Productions Rule)
fragment elements = whole_start ∷ fragment_content elements ∷ []

-- the productions in the order of their codes
abbrev pub listed : {X : Type 0} → Productions X → List X
listed p = map (λ c. c.item) (coded p)

-- as grammars; a whole stream has no attributes, and its content begins with it
abbrev pub whole_grammar : List (Productions Rule) → Rules
whole_grammar states = record { states = map listed states; content = 0 }

-- what there is without a schema: the Document grammar alone
abbrev pub without_schema : Outline
without_schema = record {
  known = false;
  grammars = whole_grammar (document []) ∷ [];
  globals = [];
  fragment = [];
  attributes = [];
  types = [];
  names = first_names;
}
