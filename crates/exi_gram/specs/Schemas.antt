-- What holds of every schema: the facts by which readers and writers find what they need (the layout of the grammars
-- is the codec's own; EXI 1.0, section 8.5, says what stands in them).
use Rattle.std.specs.Prelude.{◌≡◌, ◌≢◌, ℕ, ◌+◌, ◌%◌, ◌<◌, ◌≤◌, ◌^◌, true, false, Option, Some, None, List, All, length, map, drop, slice_get, if◌then◌else◌}
use Rattle.exi_names.specs.StartTables.{Names}
use Rattle.exi_names.specs.declared.names.QName.{QName}
use Rattle.exi_gram.specs.Naming.{name_place, named_in}
use Rattle.exi_gram.specs.Outlines.{Outline}
use Rattle.exi_gram.specs.Terminals.{Rule, Rules, sd, ed, se}
use Rattle.exi_gram.specs.Wholes.{document, fragment, whole_grammar, without_schema}

-- ---- words
-- it holds of each production of a grammar
abbrev pub AllIn : (Rule → Type 0) → Rules → Type 0
AllIn P g = All (All P) g.states

-- how many grammars are those of the whole: Document, and with a schema Fragment
abbrev pub whole_count : Outline → ℕ
whole_count o = if o.known then 2 else 1

-- the grammars of elements and types
abbrev pub parts : Outline → List Rules
parts o = drop (whole_count o) o.grammars

-- an element of one name has a grammar that opens it
abbrev pub Opens : Rule → Type 0
Opens r = (name : QName) → r.on ≡ se name → r.inner ≢ None

-- neither the start nor the end of a stream
pub record IsOfPart (r : Rule) : Type 0 where
  pub no_start : r.on ≢ sd
  pub no_end : r.on ≢ ed

-- ---- what exists
abbrev pub IsState : Rules → ℕ → Type 0
IsState g state = state < length g.states

abbrev pub IsGrammar : Outline → ℕ → Type 0
IsGrammar o place = place < length o.grammars

-- all that a grammar leads to exists
pub record LeadsWithin (g : Rules) : Type 0 where
  pub content : IsState g g.content
  pub states : AllIn (λ r. IsState g r.to) g

-- the grammar of an element or type, which stands directly before its empty form: past the wholes the full forms have
-- the even places
pub record IsFull (o : Outline) (place : ℕ) : Type 0 where
  pub past_wholes : 2 ≤ place
  pub even : place % 2 ≡ 0
  pub empty_form : IsGrammar o (place + 1)

abbrev pub IsInner : Outline → Option ℕ → Type 0
IsInner o None = Unit {0}
IsInner o (Some place) = IsFull o place

-- ---- the first string tables
-- the name stands in the tables
abbrev pub Stands : Names → QName → Type 0
Stands names name = name_place names name ≢ None

abbrev pub StandsIfAny : Names → Option QName → Type 0
StandsIfAny names None = Unit {0}
StandsIfAny names (Some name) = Stands names name

-- ---- the facts
-- there are not too many of anything
pub record IsSmall (o : Outline) : Type 0 where
  pub grammars : length o.grammars < 2 ^ 30
  pub states : All (λ g. length g.states < 2 ^ 30) o.grammars
  pub productions : All (λ g. All (λ state. length state < 2 ^ 30) g.states) o.grammars

-- grammar 0 is Document, of the global elements, and with a schema grammar 1 is Fragment, of the elements declared
-- anywhere; without one there is nothing else
pub record HasWholes (o : Outline) : Type 0 where
  pub document : slice_get o.grammars 0 ≡ Some (whole_grammar (document (map (λ e. (e.name, e.full)) o.globals)))
  pub fragment : o.known ≡ true → slice_get o.grammars 1 ≡ Some (whole_grammar (fragment o.fragment))
  pub without : o.known ≡ false → o ≡ without_schema

-- past them there are pairs alone, of a grammar and its empty form, and what opens an element is the first of a pair:
-- so it is neither Document nor Fragment nor an empty form
pub record IsPaired (o : Outline) : Type 0 where
  pub pairs : o.known ≡ true → length o.grammars % 2 ≡ 0
  pub inners : All (AllIn (λ r. IsInner o r.inner)) o.grammars
  pub globals : All (λ e. IsFull o e.full × (e.empty ≡ e.full + 1)) o.globals
  pub types : All (λ e. IsFull o e.full × (e.empty ≡ e.full + 1)) o.types
  pub fragment : All (λ e. IsFull o e.1) o.fragment

-- names and URIs stand in the first string tables
pub record IsTold (o : Outline) : Type 0 where
  pub productions : All (AllIn (λ r. named_in o.names r.on ≢ None)) o.grammars
  pub globals : All (λ e. Stands o.names e.name) o.globals
  pub fragment : All (λ e. Stands o.names e.0) o.fragment
  pub attributes : All (λ e. Stands o.names e.0) o.attributes
  pub types : All (λ e. StandsIfAny o.names e.name) o.types

pub record IsSchema (o : Outline) : Type 0 where
  pub small : IsSmall o
  pub has_states : All (λ g. 1 ≤ length g.states) o.grammars
  -- each element of one name has a grammar that opens it
  pub opens_all : All (AllIn Opens) o.grammars
  pub within : All LeadsWithin o.grammars
  pub has_wholes : HasWholes o
  -- the start and the end stand in the wholes alone
  pub ends : All (AllIn IsOfPart) (parts o)
  pub paired : IsPaired o
  pub told : IsTold o
