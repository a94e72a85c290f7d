-- What holds of each production of the grammars of elements and types: its name stands in the tables, an element of a name is
-- opened, and it is neither the start nor the end of a stream.
use Rattle.std.proofs.Common.{◌≡◌, ◌≢◌, inl, inr, ℕ, Option, Some, None, List, All}
use Rattle.exi_names.specs.Datatypes.{Representation}
use Rattle.exi_names.specs.declared.names.QName.{QName}
use Rattle.exi_gram.specs.Naming.{name_place, named_in, uri_place}
use Rattle.exi_gram.specs.Schemas.{Stands, StandsIfAny}
use Rattle.exi_gram.specs.Terminals.{Symbol, sd, ed, se, se_in, se_any, at, at_in, at_any, ch, ch_text, ee, xsi_type, xsi_nil}
use Rattle.xsd_model.specs.Parts.{Parts}
use Rattle.exi_vocabulary.specs.FirstNames.{first_names_of, told_uris}
use Rattle.exi_compiled.proofs.Lists.{cases_Option}

-- a URI stands in the tables
abbrev pub HasUri : Parts → List ℕ → Type 0
HasUri p uri = uri_place (first_names_of p) uri ≢ None

-- names and URIs stand in the tables
pub record HasNames (p : Parts) : Type 0 where
  pub elements : All (λ e. Stands (first_names_of p) e.name) p.elements
  pub attributes : All (λ a. Stands (first_names_of p) a.name) p.attributes
  pub types : All (λ t. StandsIfAny (first_names_of p) t.name) p.types
  pub uris : All (HasUri p) (told_uris p)

-- what opens an element is such a place
abbrev pub Opened : (ℕ → Type 0) → Option ℕ → Type 0
Opened Q None = Unit {0}
Opened Q (Some place) = Q place

pub record IsGood (p : Parts) (Q : ℕ → Type 0) (on : Symbol) (inner : Option ℕ) : Type 0 where
  pub named : named_in (first_names_of p) on ≢ None
  pub no_start : on ≢ sd
  pub no_end : on ≢ ed
  pub opens : (name : QName) → on ≡ se name → inner ≢ None
  pub opened : Opened Q inner

module _ (p : Parts) (Q : ℕ → Type 0) where
  pub ee_good : IsGood p Q ee None
  ee_good = record { named = λ e. cc; no_start = λ e. cc; no_end = λ e. cc; opens = λ n e. absurd cc; opened = tt }

  pub text_good : IsGood p Q ch_text None
  text_good = record { named = λ e. cc; no_start = λ e. cc; no_end = λ e. cc; opens = λ n e. absurd cc; opened = tt }

  pub ch_good : (r : Representation) → IsGood p Q (ch r) None
  ch_good r = record { named = λ e. cc; no_start = λ e. cc; no_end = λ e. cc; opens = λ n e. absurd cc; opened = tt }

  pub any_good : IsGood p Q se_any None
  any_good = record { named = λ e. cc; no_start = λ e. cc; no_end = λ e. cc; opens = λ n e. absurd cc; opened = tt }

  pub at_any_good : IsGood p Q at_any None
  at_any_good = record { named = λ e. cc; no_start = λ e. cc; no_end = λ e. cc; opens = λ n e. absurd cc; opened = tt }

  pub type_good : IsGood p Q xsi_type None
  type_good = record { named = λ e. cc; no_start = λ e. cc; no_end = λ e. cc; opens = λ n e. absurd cc; opened = tt }

  pub nil_good : IsGood p Q xsi_nil None
  nil_good = record { named = λ e. cc; no_start = λ e. cc; no_end = λ e. cc; opens = λ n e. absurd cc; opened = tt }

  -- ---- of names and URIs
  pub named_name : (name : QName) → Stands (first_names_of p) name → named_in (first_names_of p) (se name) ≢ None
  named_name name s = elim (cases_Option (name_place (first_names_of p) name)) [
    | inl e ↦ absurd (s e)
    | inr w ↦ rw w.1 (λ e. cc)
  ]

  named_attribute : (name : QName) (r : Representation) → Stands (first_names_of p) name → named_in (first_names_of p) (at name r) ≢ None
  named_attribute name r s = named_name name s

  named_uri : (uri : List ℕ) → HasUri p uri → named_in (first_names_of p) (se_in uri) ≢ None
  named_uri uri s = elim (cases_Option (uri_place (first_names_of p) uri)) [
    | inl e ↦ absurd (s e)
    | inr w ↦ rw w.1 (λ e. cc)
  ]

  pub se_good : (name : QName) (inner : ℕ) → Stands (first_names_of p) name → Q inner → IsGood p Q (se name) (Some inner)
  se_good name inner s q = record { named = named_name name s; no_start = λ e. cc; no_end = λ e. cc; opens = λ n e i. cc; opened = q }

  pub at_good : (name : QName) (r : Representation) → Stands (first_names_of p) name → IsGood p Q (at name r) None
  at_good name r s = record { named = named_attribute name r s; no_start = λ e. cc; no_end = λ e. cc; opens = λ n e. absurd cc; opened = tt }

  pub se_in_good : (uri : List ℕ) → HasUri p uri → IsGood p Q (se_in uri) None
  se_in_good uri s = record { named = named_uri uri s; no_start = λ e. cc; no_end = λ e. cc; opens = λ n e. absurd cc; opened = tt }

  pub at_in_good : (uri : List ℕ) → HasUri p uri → IsGood p Q (at_in uri) None
  at_in_good uri s = record { named = named_uri uri s; no_start = λ e. cc; no_end = λ e. cc; opens = λ n e. absurd cc; opened = tt }
